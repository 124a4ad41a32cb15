use Rattle.resin_step_functions.proofs.meaning_lemmas.Composition.{nothing_left}
use Rattle.resin_step_functions.proofs.step_parts_lemmas.Loops.{leaves_done}
use Rattle.resin_step_functions.proofs.step_parts_lemmas.Steps.{leaves_here}
use Rattle.resin_step_functions.specs.Under.meaning_forms.Invoke.{bind}
use Rattle.resin_step_objects.proofs.Found.{argument_stops, assigning_stops, bound_more}
use Rattle.std.proofs.Common.{ap, drop}
use Rattle.resin_step_objects.proofs.invoke.bind.Goals as goal

pub loop-i-init : goal.loop-i-init
loop-i-init c = leaves_here _ _

pub returns-in_err-v : goal.returns-in_err-v
returns-in_err-v c =
    argument_stops c.args.parameters.now c.args.args c.loop-i.i c.index-parameters-i.result _ _ _ _ _ _ c.loop-i-test.true c.index-parameters-i.is c.from_residual.ensures.1 c.loop-i.invariant
    (rw (c.given_at.ensures, c.as_slice-values.ensures) at c.in_err-v.ensures)

pub returns-in_err-assign : goal.returns-in_err-assign
returns-in_err-assign c =
    assigning_stops c.args.parameters.now c.args.args c.loop-i.i c.index-parameters-i.result _ _ _ _ _ _ _ _ c.loop-i-test.true c.index-parameters-i.is c.from_residual-in_err-assign.ensures.1 c.loop-i.invariant
    (rw (c.given_at.ensures, c.as_slice-values.ensures) at c.in_ok-v.ensures) (rw c.as_slice.ensures at c.in_err-assign.ensures.acts)

pub loop-i-preserved : goal.loop-i-preserved
loop-i-preserved c =
    bound_more c.args.parameters.now c.args.args c.loop-i.i c.index-parameters-i.result _ _ _ _ _ _ c.loop-i-test.true c.index-parameters-i.is c.loop-i.invariant
    (rw (c.given_at.ensures, c.as_slice-values.ensures) at c.in_ok-v.ensures) (rw c.as_slice.ensures at c.in_ok-assign.ensures.acts)

pub returns : goal.returns
returns c =
    leaves_done _ _ tt _ _ (ap (λ ps. bind ps (drop c.loop-i.i c.args.args)) (nothing_left c.args.parameters.now c.loop-i.i c.loop-i-test.false)) c.loop-i.invariant
