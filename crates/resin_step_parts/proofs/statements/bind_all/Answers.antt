use Rattle.resin_meaning_forms.specs.Statements.{bind_all}
use Rattle.resin_meaning_forms.specs.declared.course.Course.TheVariants.{Next}
use Rattle.resin_meaning_forms.specs.Under.machine.Variables.{bind_global}
use Rattle.resin_meaning_forms.proofs.meaning_lemmas.Composition.{does_act, front, nothing_left}
use Rattle.resin_meaning_forms.specs.Under.meaning.Programs.{act}
use Rattle.resin_step_parts.proofs.Loops.{leaves_done, leaves_next, leaves_stop}
use Rattle.resin_step_parts.proofs.Steps.{leaves_here}
use Rattle.std.proofs.Common.{ap, arith, drop, ◌+◌}
use Rattle.resin_step_parts.proofs.statements.bind_all.Goals as goal

pub loop-name-init : goal.loop-name-init
loop-name-init c =
    leaves_here _ _

pub loop-name-preserved : goal.loop-name-preserved
loop-name-preserved c =
    leaves_next _ _ (act (bind_global c.name-item.result)) (λ u. bind_all (drop (c.loop-name.name-index + 1) c.args.names.now)) _ _ _ tt (ap (λ ds. bind_all ds) (front c.args.names.now c.loop-name.name-index c.name-item.result c.loop-name-test.true c.name-item.is)) c.loop-name.invariant (λ f t k. does_act _ f t k (rw c.as_slice.ensures at c.in_ok-bind_global.ensures.acts))

pub returns-in_err-bind_global : goal.returns-in_err-bind_global
returns-in_err-bind_global c =
    leaves_stop _ _ (act (bind_global c.name-item.result)) (λ u. bind_all (drop (c.loop-name.name-index + 1) c.args.names.now)) _ _ _ _ _ (ap (λ ds. bind_all ds) (front c.args.names.now c.loop-name.name-index c.name-item.result c.loop-name-test.true c.name-item.is)) c.loop-name.invariant (λ f t k. does_act _ f t k (rw c.as_slice.ensures at c.in_err-bind_global.ensures.acts)) c.from_residual.ensures.1

pub returns : goal.returns
returns c =
    leaves_done _ _ Next _ _ (ap (λ ds. bind_all ds) (nothing_left c.args.names.now c.loop-name.name-index (omega (arith, c.loop-name-test.false)))) c.loop-name.invariant
