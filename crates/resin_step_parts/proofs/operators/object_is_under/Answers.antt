use Rattle.std.proofs.Common.{ap, ◌∙◌}
use Rattle.resin_meaning_forms.specs.Merges.{is_of_class}
use Rattle.resin_step_parts.proofs.operators.object_is_under.Goals as goal

pub returns : goal.returns
returns c = c.is_object_of.ensures ∙ ap (λ n. is_of_class n c.args.m.now c.args.o) c.number.ensures
