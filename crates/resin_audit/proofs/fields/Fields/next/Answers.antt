use Rattle.std.proofs.Common.{ap, sym, ◌∙◌}
use Rattle.resin_audit.specs.Fields.{fields_left}
use Rattle.resin_audit.proofs.Taking.{fields_cut, fields_whole}
use Rattle.resin_audit.proofs.fields.Fields.next.Goals as goal

pub returns-in-Some : goal.returns-in-Some
returns-in-Some c =
    sym c.self.view_is ∙ ap fields_left c.in_ok-left.was ∙ fields_cut c.in_ok-left.left.now c.in-Some.field.now c.in-Some.others.now c.in-Some.ensures

pub returns-in-None : goal.returns-in-None
returns-in-None c = sym c.self.view_is ∙ ap fields_left c.in_ok-left.was ∙ fields_whole c.in_ok-left.left.now c.in-None.ensures
