use Rattle.std.proofs.Common.{sym, ◌∙◌}
use Rattle.resin_step_parts.proofs.Objects.{tested_object, of_no_class, of_class}
use Rattle.resin_step_parts.proofs.operators.is_object_of.Goals as goal

pub is_of-requires : goal.is_of-requires
is_of-requires c = (rw c.heap.ensures at c.has.ensures).0 c.if-has.true

pub returns-then-has : goal.returns-then-has
returns-then-has c = c.is_of.ensures ∙ sym (of_class c.args.class c.args.o c.args.m.now (tested_object c.args.m.now.heap c.args.o c.has.result (rw c.heap.ensures at c.has.ensures) ∙ c.if-has.true))

pub returns-else-has : goal.returns-else-has
returns-else-has c = sym (of_no_class c.args.class c.args.o c.args.m.now (tested_object c.args.m.now.heap c.args.o c.has.result (rw c.heap.ensures at c.has.ensures) ∙ c.if-has.false))
