-- What is still to be read, behind what was, is what was to be read.
use Rattle.std.proofs.Common.{◌≡◌, ◌-◌, [], map}
use Rattle.resin_shadow.specs.Marks.{Each}
use Rattle.resin_shadow.specs.Runs.{IsTable, IsKindOf}
use Rattle.resin_shadow.specs.Readers.{times, set_step}
use Rattle.resin_shadow.proofs.reading.read_sets.Given as goal

abbrev pub invariant-loop-i : goal.invariant-loop-i
invariant-loop-i l = record {
  table : IsTable l.table;
  runs : l.table.runs.items ≡ l.initial.table.runs.items;
  kinds : Each (IsKindOf l.table) l.kinds.items;
  reads : times (set_step l.policies) (l.count - l._i) (map (λ k. k.set) l.kinds.items) l.rest ≡ times (set_step l.policies) l.count [] l.initial.rest;
}
