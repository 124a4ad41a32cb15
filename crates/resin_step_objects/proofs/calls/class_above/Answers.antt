use Rattle.resin_step_objects.proofs.Found.{no_parent}
use Rattle.std.proofs.Common.{ap, arith, length}
use Rattle.resin_step_objects.proofs.calls.class_above.Goals as goal

pub returns-then-class-len : goal.returns-then-class-len
returns-then-class-len c =
    no_parent c.args.m.now.classes c.args.class (omega (arith, c.if-class-len.true, c.len.ensures.value, ap length c.classes.ensures))
