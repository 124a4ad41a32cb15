use Rattle.resin_meaning_forms.specs.Sources.{declare, declare_all}
use Rattle.resin_meaning_forms.proofs.meaning_lemmas.Composition.{front, nothing_left}
use Rattle.resin_step_parts.proofs.Loops.{leaves_done, leaves_next, leaves_stop}
use Rattle.resin_step_parts.proofs.Steps.{leaves_here}
use Rattle.std.proofs.Common.{ap, arith, drop, ◌+◌}
use Rattle.resin_step_parts.proofs.declarations.declare_all.Goals as goal

pub loop-item-init : goal.loop-item-init
loop-item-init c =
    leaves_here _ _

pub loop-item-preserved : goal.loop-item-preserved
loop-item-preserved c =
    leaves_next _ _ (declare c.item-item.result) (λ u. declare_all (drop (c.loop-item.item-index + 1) c.args.items.now)) _ _ _ tt (ap (λ ds. declare_all ds) (front c.args.items.now c.loop-item.item-index c.item-item.result c.loop-item-test.true c.item-item.is)) c.loop-item.invariant c.in_ok-declare.ensures

pub returns-in_err-declare : goal.returns-in_err-declare
returns-in_err-declare c =
    leaves_stop _ _ (declare c.item-item.result) (λ u. declare_all (drop (c.loop-item.item-index + 1) c.args.items.now)) _ _ _ _ _ (ap (λ ds. declare_all ds) (front c.args.items.now c.loop-item.item-index c.item-item.result c.loop-item-test.true c.item-item.is)) c.loop-item.invariant c.in_err-declare.ensures c.from_residual.ensures.1

pub returns : goal.returns
returns c =
    leaves_done _ _ tt _ _ (ap (λ ds. declare_all ds) (nothing_left c.args.items.now c.loop-item.item-index (omega (arith, c.loop-item-test.false)))) c.loop-item.invariant
