use Rattle.std.proofs.Common.{sym, ap}
use Rattle.resin_eval_merges.proofs.meaning_lemmas.Composition.{does_next, does_exit}
use Rattle.resin_eval_merges.proofs.eval_nested_lemmas.Exits.{does_is}
use Rattle.resin_eval_merges.specs.Under.meaning_forms.Programs.{evals}
use Rattle.resin_eval_merges.specs.Under.meaning_forms.Targets.{steps}
use Rattle.resin_eval_assign.proofs.assign.Assigner.compound.Goals as goal

pub returns-in_err-path : goal.returns-in_err-path
returns-in_err-path g c =
    does_exit _ _ _ c.from_residual.ensures.1 (does_is (ap (steps (evals c.args.self.now.by.now.room)) (sym c.as_slice.ensures)) c.in_err-path.ensures)

pub returns-in_err-y : goal.returns-in_err-y
returns-in_err-y g c =
    does_next _ _ (does_is (ap (steps (evals c.args.self.now.by.now.room)) (sym c.as_slice.ensures)) c.in_ok-path.ensures) (does_exit _ _ _ c.from_residual-in_err-y.ensures.1 (c.in_err-y.ensures.does))

pub returns : goal.returns
returns g c =
    does_next _ _ (does_is (ap (steps (evals c.args.self.now.by.now.room)) (sym c.as_slice.ensures)) c.in_ok-path.ensures) (does_next _ _ (c.in_ok-y.ensures.does) (c.combine.ensures))
