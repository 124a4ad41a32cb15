use Rattle.std.proofs.Common.{sym, ap, ◌∙◌}
use Rattle.resin_eval_merges.proofs.meaning_lemmas.Composition.{does_next, does_exit, does_loosely, does_give}
use Rattle.resin_eval_merges.proofs.eval_nested_lemmas.Arms.{does_yes, does_no}
use Rattle.resin_eval_merges.proofs.eval_nested_lemmas.Exits.{does_is}
use Rattle.resin_eval_merges.specs.Under.meaning_forms.Programs.{evals}
use Rattle.resin_eval_merges.specs.Under.meaning_forms.Targets.{steps}
use Rattle.resin_eval_assign.proofs.assign.Assigner.coalesce_assign.Goals as goal

pub returns-in_err-path : goal.returns-in_err-path
returns-in_err-path g c =
    does_exit _ _ _ c.from_residual.ensures.1 (does_is (ap (steps (evals c.args.self.now.by.now.room)) (sym c.as_slice.ensures)) c.in_err-path.ensures)

pub returns-in_err-x : goal.returns-in_err-x
returns-in_err-x g c =
    does_next _ _ (does_is (ap (steps (evals c.args.self.now.by.now.room)) (sym c.as_slice.ensures)) c.in_ok-path.ensures) (does_exit _ _ _ c.from_residual-in_err-x.ensures.1 (does_loosely _ _ _ _ c.in_err-x.ensures.acts))

pub returns-then-not-is_nothing : goal.returns-then-not-is_nothing
returns-then-not-is_nothing g c =
    does_next _ _ (does_is (ap (steps (evals c.args.self.now.by.now.room)) (sym c.as_slice.ensures)) c.in_ok-path.ensures) (does_next _ _ (does_loosely _ _ _ _ c.in_ok-x.ensures.acts) (does_no _ _ _ (sym c.is_nothing.ensures ∙ c.if-not-is_nothing.true) (does_give _ _)))

pub returns-in_err-v : goal.returns-in_err-v
returns-in_err-v g c =
    does_next _ _ (does_is (ap (steps (evals c.args.self.now.by.now.room)) (sym c.as_slice.ensures)) c.in_ok-path.ensures) (does_next _ _ (does_loosely _ _ _ _ c.in_ok-x.ensures.acts) (does_yes _ _ _ (sym c.is_nothing.ensures ∙ c.if-not-is_nothing.false) (does_exit _ _ _ c.from_residual-in_err-v.ensures.1 (c.in_err-v.ensures.does))))

pub returns : goal.returns
returns g c =
    does_next _ _ (does_is (ap (steps (evals c.args.self.now.by.now.room)) (sym c.as_slice.ensures)) c.in_ok-path.ensures) (does_next _ _ (does_loosely _ _ _ _ c.in_ok-x.ensures.acts) (does_yes _ _ _ (sym c.is_nothing.ensures ∙ c.if-not-is_nothing.false) (does_next _ _ (c.in_ok-v.ensures.does) (c.stored_value.ensures _ _ _))))
