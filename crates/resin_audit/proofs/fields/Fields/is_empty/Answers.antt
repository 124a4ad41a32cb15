use Rattle.std.proofs.Common.{ap, ◌∙◌}
use Rattle.resin_audit.specs.Fields.{is_none}
use Rattle.resin_audit.proofs.Taking.{none_left}
use Rattle.resin_audit.proofs.fields.Fields.is_empty.Goals as goal

pub returns : goal.returns
returns c = none_left c.self.inside.left c.is_none.result c.is_none.ensures ∙ ap is_none c.self.view_is
