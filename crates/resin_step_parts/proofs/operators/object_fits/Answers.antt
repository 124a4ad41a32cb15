use Rattle.std.proofs.Common.{sym, ◌∙◌}
use Rattle.resin_step_parts.proofs.Objects.{tested_object, fits_none, fits_unknown, fits_class}
use Rattle.resin_step_parts.proofs.operators.object_fits.Goals as goal

pub is_of-requires : goal.is_of-requires
is_of-requires c = (rw c.heap.ensures at c.has.ensures).0 c.if-has.true

pub returns-in-Some : goal.returns-in-Some
returns-in-Some c = c.is_of.ensures ∙ sym (fits_class c.args.name.now c.args.o c.args.m.now c.in-Some.class (tested_object c.args.m.now.heap c.args.o c.has.result (rw c.heap.ensures at c.has.ensures) ∙ c.if-has.true) (sym (rw c.classes.ensures at c.find.ensures.value) ∙ c.in-Some.is))

pub returns-in-None : goal.returns-in-None
returns-in-None c = sym (fits_unknown c.args.name.now c.args.o c.args.m.now (sym (rw c.classes.ensures at c.find.ensures.value) ∙ c.in-None.is))

pub returns-else-has : goal.returns-else-has
returns-else-has c = sym (fits_none c.args.name.now c.args.o c.args.m.now (tested_object c.args.m.now.heap c.args.o c.has.result (rw c.heap.ensures at c.has.ensures) ∙ c.if-has.false))
