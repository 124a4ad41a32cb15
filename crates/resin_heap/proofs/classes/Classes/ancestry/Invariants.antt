use Rattle.std.proofs.Common.{◌≡◌, ◌<◌, ◌++◌, suc, [], length}
use Rattle.std.specs.Prelude.{IfSome}
use Rattle.std.specs.Option.{option_map_or}
use Rattle.resin_heap.specs.Classes.{line}
use Rattle.resin_heap.proofs.classes.Classes.ancestry.Given as goal

abbrev pub invariant-loop-next : goal.invariant-loop-next
invariant-loop-next l = (line l.self l.c ≡ l.numbers.items ++ option_map_or (line l.self) l.next []) × IfSome l.next (λ at. at < length l.self)

abbrev pub decreases-loop-next : goal.decreases-loop-next
decreases-loop-next l = option_map_or suc l.next 0
