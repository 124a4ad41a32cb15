use Rattle.resin_step_parts.specs.Under.guard.Verdicts.{sql_verdict}
use Rattle.resin_step_parts.specs.Under.machine.Objects.{find_class_of}
use Rattle.resin_step_parts.specs.Under.machine.Steps.{Acts}
use Rattle.resin_step_parts.specs.Under.value.Seen.{tree_of}
use Rattle.resin_step_parts.proofs.meaning_lemmas.Composition.{does_act, does_stop, does_unbegun}
use Rattle.resin_step_parts.proofs.Loops.{handed_seen}
use Rattle.resin_step_functions.proofs.Guarded.{guarded}
use Rattle.resin_step_functions.proofs.guards.guarded_query.Goals as goal

pub returns-in_err-class : goal.returns-in_err-class
returns-in_err-class c =
    λ f t k. handed_seen tree_of _ _ c.from_residual.ensures.1 (does_stop _ _ (does_act _ f t k (rw c.bytes.ensures at c.in_err-class.ensures.acts)))

pub returns-in_err-bad : goal.returns-in_err-bad
returns-in_err-bad c =
    λ f t k. handed_seen tree_of _ _ c.from_residual-in_err-bad.ensures.1 (does_unbegun _ _)

pub returns-in_err-verdict : goal.returns-in_err-verdict
returns-in_err-verdict c =
    λ f t k. handed_seen tree_of _ _ c.from_residual-in_err-verdict.ensures.1 (does_unbegun _ _)

pub returns : goal.returns
returns c =
    guarded sql_verdict c.args.text.now c.args.class.now c.args.m.now c.in_ok-class.class c.in_ok-bad.bad c.in_ok-verdict.verdict c.is_pass.result (rw c.bytes.ensures at c.in_ok-class.ensures.acts) c.in_ok-bad.ensures c.in_ok-verdict.ensures.verdict c.is_pass.ensures
