-- The sets of the lists before the index.
use Rattle.std.proofs.Common.{◌≡◌, map, take}
use Rattle.resin_shadow.specs.Marks.{Each}
use Rattle.resin_shadow.specs.Runs.{IsTable, IsKindOf, set_of}
use Rattle.resin_shadow.proofs.parts.kinds_of.Given as goal

abbrev pub invariant-loop-set : goal.invariant-loop-set
invariant-loop-set l = record {
  table : IsTable l.table;
  runs : l.table.runs.items ≡ l.initial.table.runs.items;
  kinds : Each (IsKindOf l.table) l.kinds.items;
  sets : map (λ k. k.set) l.kinds.items ≡ map set_of (take l.set-index l.sets);
}
