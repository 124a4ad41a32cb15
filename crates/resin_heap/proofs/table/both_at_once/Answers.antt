use Rattle.std.proofs.Common.{arith}
use Rattle.resin_heap.proofs.Kept_tables.{jump_at, jump_twice}
use Rattle.resin_heap.proofs.table.both_at_once.Goals as goal

pub class_at-requires-2 : goal.class_at-requires-2
class_at-requires-2 c =
    let jump = jump_at c.args.by_name.now.entries c.requires.stand c.args.c c.class_at.result.now c.in_ok-first.first c.class_at.ensures c.in_ok-first.was in
    omega (arith, jump.smaller, c.requires.within)

pub returns : goal.returns
returns c =
    jump_twice c.args.by_name.now.entries c.requires.stand c.args.c c.class_at.result.now c.class_at-2.result.now c.in_ok-first.first c.in_ok-second.second c.class_at.ensures c.in_ok-first.was c.class_at-2.ensures c.in_ok-second.was
