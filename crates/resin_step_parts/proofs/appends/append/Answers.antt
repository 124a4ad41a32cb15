use Rattle.std.proofs.Common.{sym, ◌∙◌}
use Rattle.resin_step_parts.proofs.Extended.{append_stops, append_goes, put_at}
use Rattle.resin_step_parts.proofs.appends.append.Goals as goal

pub returns-in_err-charge_joint : goal.returns-in_err-charge_joint
returns-in_err-charge_joint c =
    append_stops c.args.t.now.variable c.as_slice.result.now c.args.y.now _ _ _ _ _ _ _ c.as_slice.ensures c.in-Text.is c.in-Some.ensures.value (sym c.len.ensures.value) c.from_residual.ensures.1
    c.in_err-charge_joint.ensures.does

pub returns : goal.returns
returns c =
    append_goes c.args.t.now.variable c.as_slice.result.now c.args.y.now _ _ _ _ _ _ _ c.as_slice.ensures c.in-Text.is c.in-Some.ensures.value (sym c.len.ensures.value) c.in_ok-charge_joint.ensures.same
    c.in_ok-charge_joint.ensures.does (put_at _ _ _ _ _ _ (c.as_slice-2.ensures ∙ sym c.as_slice.ensures) c.extend.ensures.acts)
