-- The runs before the index are put last.
use Rattle.std.proofs.Common.{◌≡◌, ◌++◌, map, take}
use Rattle.resin_shadow.specs.Marks.{Each}
use Rattle.resin_shadow.specs.Runs.{IsTable, IsKindOf, marks_of}
use Rattle.resin_shadow.specs.Parts.{spelled_by}
use Rattle.resin_shadow.proofs.parts.push_all.Given as goal

abbrev pub invariant-loop-len : goal.invariant-loop-len
invariant-loop-len l = record {
  table : IsTable l.table;
  kinds : Each (IsKindOf l.table) l.kinds;
  marks : marks_of l.table.runs.items ≡ marks_of l.initial.table.runs.items ++ spelled_by (map (λ k. k.set) l.kinds) (take l.len-index l.runs);
}
