use Rattle.std.proofs.Common.{ap, arith, ◌∙◌}
use Rattle.resin_meaning_forms.specs.Under.heap.Classes.{is_a}
use Rattle.resin_meaning_forms.specs.Under.heap.Objects.{class_at}
use Rattle.resin_step_parts.proofs.Objects.{is_a_alone}
use Rattle.resin_step_parts.proofs.operators.is_of.Goals as goal

pub returns-then-of-len : goal.returns-then-of-len
returns-then-of-len c = c.is_a.ensures ∙ (λ i. is_a (c.classes-classes.ensures i) ((c.class_of-of.ensures ∙ ap (λ h. class_at h c.args.o) c.heap.ensures) i) c.args.class)

pub returns-else-of-len : goal.returns-else-of-len
returns-else-of-len c = is_a_alone c.classes-classes.result.now c.class_of-of.result c.args.class (omega (arith, c.if-of-len.false, c.len.ensures.value)) ∙ (λ i. is_a (c.classes-classes.ensures i) ((c.class_of-of.ensures ∙ ap (λ h. class_at h c.args.o) c.heap.ensures) i) c.args.class)
