use Rattle.std.proofs.Common.{◌≡◌}
use Rattle.resin_eval_merges.proofs.meaning_lemmas.Composition.{does_next, does_exit, does_loosely}
use Rattle.resin_eval_merges.proofs.eval_nested_lemmas.Exits.{does_is}
use Rattle.resin_eval_merges.specs.Under.meaning_forms.Programs.{evals}
use Rattle.resin_eval_assign.proofs.Shapes.{append_means}
use Rattle.resin_eval_assign.proofs.assign.Assigner.combine.Goals as goal

pub returns-then-is_append : goal.returns-then-is_append
returns-then-is_append g c =
    let is = c.is_append.ensures.0 c.if-is_append.true in
    does_is (append_means (evals c.args.self.now.by.now.room) c.args.op c.args.t.now.variable c.args.path.now c.args.y.now is.0 is.1) (c.append.ensures _ _ _)

pub returns-in_err-x : goal.returns-in_err-x
returns-in_err-x g c =
    does_exit _ _ _ c.from_residual.ensures.1 (does_loosely _ _ _ _ c.in_err-x.ensures.acts)

pub returns-in_err-v : goal.returns-in_err-v
returns-in_err-v g c =
    does_next _ _ (does_loosely _ _ _ _ c.in_ok-x.ensures.acts) (does_exit _ _ _ c.from_residual-in_err-v.ensures.1 (c.in_err-v.ensures))

pub returns : goal.returns
returns g c =
    does_next _ _ (does_loosely _ _ _ _ c.in_ok-x.ensures.acts) (does_next _ _ (c.in_ok-v.ensures) (c.stored_value.ensures _ _ _))
