use Rattle.std.proofs.Common.{[], ◌++◌, append-nil, refl, sym, ap, subst, ◌∙◌}
use Rattle.resin_site.specs.Under.base.declared.calls.Calls.{Calls}
use Rattle.resin_serve.specs.Logs.{logged, CanTell}
use Rattle.resin_serve.proofs.Runs.{ran_stop, ran_refused}
use Rattle.resin_serve.proofs.Telling.{told_none}
use Rattle.resin_serve.proofs.run.serve_refusal.Goals as goal

pub returns-in_default-clause-ran : goal.returns-in_default-clause-ran
returns-in_default-clause-ran g c = λ place K store told service e. ran_stop _ _ K _ _ _

pub returns-in_default-refusal-clause-ran : goal.returns-in_default-refusal-clause-ran
returns-in_default-refusal-clause-ran g c = λ place K store told service e. ran_stop _ _ K _ _ _

pub returns-clause-ran : goal.returns-clause-ran
returns-clause-ran g c = λ place K store told service e.
    ran_refused _ _ service K _ _ c.args.status place _ (c.as_slice-2.result.now ++ []) _ _ refl
    (subst (λ l. CanTell l c.args.run.now.number []) (sym e) (told_none _ _ _ c.new-journal.ensures c.logged.ensures.told))
    (c.give_answer.ensures.gave _ _ _ _ _ _) refl refl (ap (λ (x : Calls). x.made) c.give_answer.ensures.same.2)
    (c.as_slice.ensures ∙ c.in-Ok.ensures.text ∙ ap (logged c.args.run.now.service.logging c.args.run.now.number) c.new-journal.ensures ∙ ap (λ l. logged l c.args.run.now.number []) (sym e))
    (append-nil c.as_slice-2.result.now ∙ c.as_slice-2.ensures ∙ c.in-Ok-refusal.ensures)
