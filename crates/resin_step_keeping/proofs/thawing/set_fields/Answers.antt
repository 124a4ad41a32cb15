use Rattle.std.proofs.Common.{arith}
use Rattle.resin_step_keeping.proofs.Thaws.{field_more, field_stops, field_lost, fields_done}
use Rattle.resin_step_parts.proofs.Steps.{leaves_here}
use Rattle.resin_step_keeping.proofs.thawing.set_fields.Goals as goal

pub loop-i-init : goal.loop-i-init
loop-i-init c = leaves_here _ _

pub loop-i-preserved : goal.loop-i-preserved
loop-i-preserved c =
    field_more c.args.object c.args.fields.now.entries c.loop-i.i c.entry.result.0.now c.entry.result.1.now c.in_ok-clone.field-0 c.name_in.result.now _ _ _ c.entry.ensures c.name_in.ensures c.in_ok-clone.ensures.cases c.in_ok-set_field.ensures.acts c.loop-i.invariant

pub returns-in_err-clone : goal.returns-in_err-clone
returns-in_err-clone c =
    field_lost c.args.object c.args.fields.now.entries c.loop-i.i c.entry.result.0.now c.entry.result.1.now _ _ _ c.entry.ensures c.loop-i.invariant c.from_residual.ensures.1

pub returns-in_err-set_field : goal.returns-in_err-set_field
returns-in_err-set_field c =
    field_stops c.args.object c.args.fields.now.entries c.loop-i.i c.entry.result.0.now c.entry.result.1.now c.in_ok-clone.field-0 c.name_in.result.now _ _ _ _ _ c.entry.ensures c.name_in.ensures c.in_ok-clone.ensures.cases c.in_err-set_field.ensures.acts c.loop-i.invariant c.from_residual-in_err-set_field.ensures.1

pub returns : goal.returns
returns c = fields_done c.args.object c.args.fields.now.entries c.loop-i.i _ _ (omega (arith, c.loop-i-test.false, c.len-i-end.ensures.value)) c.loop-i.invariant
