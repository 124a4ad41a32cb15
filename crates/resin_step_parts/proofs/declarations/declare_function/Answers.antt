use Rattle.resin_step_parts.proofs.Declares.{name_free, name_taken}
use Rattle.std.proofs.Common.{ap, ◌∙◌}
use Rattle.std.specs.Prelude.{is_some}
use Rattle.resin_step_parts.proofs.declarations.declare_function.Goals as goal

pub returns-then-is_some : goal.returns-then-is_some
returns-then-is_some c =
    name_taken c.args.f.now _ c.args.m.now _ (c.is_some.ensures ∙ ap is_some (rw c.as_slice.ensures at c.own_named.ensures)) c.if-is_some.true c.fault.ensures

pub returns : goal.returns
returns c =
    name_free c.args.f.now _ _ _ _ (c.is_some.ensures ∙ ap is_some (rw c.as_slice.ensures at c.own_named.ensures)) c.if-is_some.false c.declare_function.ensures.acts
