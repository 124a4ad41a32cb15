use Rattle.resin_step_functions.specs.Under.heap.Classes.{method_of}
use Rattle.resin_step_objects.proofs.Found.{method_missing, undeclared_method}
use Rattle.std.proofs.Common.{ap, arith, length, ◌∙◌}
use Rattle.resin_step_objects.proofs.invoke.method_named.Goals as goal

pub returns-then-class-len : goal.returns-then-class-len
returns-then-class-len c =
    undeclared_method c.args.class c.args.name.now c.args.m.now (omega (arith, c.if-class-len.true, c.len.ensures.value, ap length c.classes.ensures))

pub returns-in-None : goal.returns-in-None
returns-in-None c =
    method_missing c.args.class c.args.name.now c.args.m.now c.method.result (c.method.ensures.value ∙ ap (λ x. method_of x c.args.class c.args.name.now) c.classes-2.ensures) c.in-None.is
