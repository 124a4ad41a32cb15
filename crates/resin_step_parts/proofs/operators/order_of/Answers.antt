use Rattle.std.proofs.Common.{ap, ◌∙◌}
use Rattle.resin_meaning_forms.specs.Operators.{or_fault}
use Rattle.resin_step_parts.proofs.Answered.{does_settled}
use Rattle.resin_step_parts.proofs.operators.order_of.Goals as goal

pub returns : goal.returns
returns c = does_settled _ _ (c.or_fault.ensures ∙ ap or_fault c.order.ensures.answer) c.settle.ensures.acts
