use Rattle.resin_step_parts.specs.Under.builtin.Calls.{cost}
use Rattle.resin_step_parts.specs.Under.meaning_forms.Functions.{take_all}
use Rattle.resin_step_parts.specs.Under.machine.Steps.{charge}
use Rattle.resin_step_parts.proofs.meaning_lemmas.Composition.{does_act, front, nothing_left}
use Rattle.resin_step_parts.specs.Under.meaning.Programs.{act}
use Rattle.resin_step_parts.proofs.Loops.{leaves_done, leaves_next, leaves_stop}
use Rattle.resin_step_parts.proofs.Steps.{leaves_here}
use Rattle.resin_step_parts.specs.Under.value.Seen.{tree_of, trees_of}
use Rattle.std.proofs.Common.{ap, drop, ◌+◌}
use Rattle.resin_step_functions.proofs.functions.take_all.Goals as goal

pub loop-v-init : goal.loop-v-init
loop-v-init c =
    leaves_here _ _

pub loop-v-preserved : goal.loop-v-preserved
loop-v-preserved c =
    leaves_next _ _ (act (charge (cost (tree_of c.v-item.result)))) (λ u. take_all (trees_of (drop (c.loop-v.v-index + 1) c.args.vs.now))) _ _ _ tt (ap (λ ds. take_all (trees_of ds)) (front c.args.vs.now c.loop-v.v-index c.v-item.result c.loop-v-test.true c.v-item.is)) c.loop-v.invariant (λ f t k. does_act _ f t k (rw c.cost.ensures at c.in_ok-charge.ensures.acts))

pub returns-in_err-charge : goal.returns-in_err-charge
returns-in_err-charge c =
    leaves_stop _ _ (act (charge (cost (tree_of c.v-item.result)))) (λ u. take_all (trees_of (drop (c.loop-v.v-index + 1) c.args.vs.now))) _ _ _ _ _ (ap (λ ds. take_all (trees_of ds)) (front c.args.vs.now c.loop-v.v-index c.v-item.result c.loop-v-test.true c.v-item.is)) c.loop-v.invariant (λ f t k. does_act _ f t k (rw c.cost.ensures at c.in_err-charge.ensures.acts)) c.from_residual.ensures.1

pub returns : goal.returns
returns c =
    leaves_done _ _ tt _ _ (ap (λ ds. take_all (trees_of ds)) (nothing_left c.args.vs.now c.loop-v.v-index c.loop-v-test.false)) c.loop-v.invariant
