use Rattle.std.proofs.Common.{sym, ap}
use Rattle.resin_eval_merges.proofs.meaning_lemmas.Composition.{does_next, does_stop, does_exit, does_lost_exit, does_loosely, does_give}
use Rattle.resin_eval_merges.proofs.eval_nested_lemmas.Exits.{does_is}
use Rattle.resin_eval_merges.specs.Under.meaning_forms.Programs.{evals}
use Rattle.resin_eval_merges.specs.Under.meaning_forms.Targets.{steps}
use Rattle.resin_eval_assign.proofs.assign.Assigner.counted.Goals as goal

pub returns-in_err-path : goal.returns-in_err-path
returns-in_err-path g c =
    does_exit _ _ _ c.from_residual.ensures.1 (does_is (ap (steps (evals c.args.self.now.by.now.room)) (sym c.as_slice.ensures)) c.in_err-path.ensures)

pub returns-in_err-old : goal.returns-in_err-old
returns-in_err-old g c =
    does_next _ _ (does_is (ap (steps (evals c.args.self.now.by.now.room)) (sym c.as_slice.ensures)) c.in_ok-path.ensures) (does_exit _ _ _ c.from_residual-in_err-old.ensures.1 (does_loosely _ _ _ _ c.in_err-old.ensures.acts))

pub returns-in_err-new : goal.returns-in_err-new
returns-in_err-new g c =
    does_next _ _ (does_is (ap (steps (evals c.args.self.now.by.now.room)) (sym c.as_slice.ensures)) c.in_ok-path.ensures) (does_next _ _ (does_loosely _ _ _ _ c.in_ok-old.ensures.acts) (does_exit _ _ _ c.from_residual-in_err-new.ensures.1 (c.in_err-new.ensures)))

pub returns-in_err-answer : goal.returns-in_err-answer
returns-in_err-answer g c =
    does_next _ _ (does_is (ap (steps (evals c.args.self.now.by.now.room)) (sym c.as_slice.ensures)) c.in_ok-path.ensures) (does_next _ _ (does_loosely _ _ _ _ c.in_ok-old.ensures.acts) (does_lost_exit _ _ _ c.from_residual-in_err-answer.ensures.1 (c.in_ok-new.ensures)))

pub returns-in_err-store : goal.returns-in_err-store
returns-in_err-store g c =
    does_next _ _ (does_is (ap (steps (evals c.args.self.now.by.now.room)) (sym c.as_slice.ensures)) c.in_ok-path.ensures) (does_next _ _ (does_loosely _ _ _ _ c.in_ok-old.ensures.acts) (does_next _ _ (c.in_ok-new.ensures) (does_exit _ _ _ c.from_residual-in_err-store.ensures.1 (does_stop _ _ (does_loosely _ _ _ _ c.in_err-store.ensures.acts)))))

pub returns : goal.returns
returns g c =
    does_next _ _ (does_is (ap (steps (evals c.args.self.now.by.now.room)) (sym c.as_slice.ensures)) c.in_ok-path.ensures) (does_next _ _ (does_loosely _ _ _ _ c.in_ok-old.ensures.acts) (does_next _ _ (c.in_ok-new.ensures) (does_next _ _ (does_next _ _ (does_loosely _ _ _ _ c.in_ok-store.ensures.acts) (does_give _ _)) (rw c.in_ok-answer.ensures.cases (does_give _ _)))))
