use Rattle.std.proofs.Common.{◌≡◌, ◌<◌, ◌++◌, suc, [], length, reverse}
use Rattle.std.specs.Prelude.{IfSome}
use Rattle.std.specs.List.{flat_map}
use Rattle.std.specs.Option.{option_map_or}
use Rattle.resin_heap.specs.Classes.{own_properties, properties_of}
use Rattle.resin_heap.proofs.classes.Classes.property_classes.Given as goal

abbrev pub invariant-loop-next : goal.invariant-loop-next
invariant-loop-next l =
    (properties_of l.self l.c ≡ option_map_or (properties_of l.self) l.next [] ++ flat_map (own_properties l.self) (reverse l.numbers.items)) × IfSome l.next (λ at. at < length l.self)

abbrev pub decreases-loop-next : goal.decreases-loop-next
decreases-loop-next l = option_map_or suc l.next 0
