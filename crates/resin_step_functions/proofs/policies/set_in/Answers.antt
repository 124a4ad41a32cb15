use Rattle.resin_step_parts.specs.Under.label.Sets.{numbers}
use Rattle.resin_step_functions.proofs.Marks.{no_numbers, none_carried}
use Rattle.std.proofs.Common.{ap, sym, ◌∙◌}
use Rattle.resin_step_functions.proofs.policies.set_in.Goals as goal

pub returns-in_default : goal.returns-in_default
returns-in_default c =
    ap numbers c.empty.ensures ∙ (no_numbers ∙ sym (none_carried c.args.v.now c.in_default.not-Int c.in_default.not-Text))
