use Rattle.std.proofs.Common.{◌≡◌, ◌+◌, ◌-◌, ◌++◌, take, drop}
use Rattle.std.specs.Prelude.{min}
use Rattle.resin_lstr.specs.Runs.{spell, last_end, IsCoalesced}
use Rattle.resin_lstr.proofs.runs.append_runs.Given as goal

abbrev pub invariant-loop-run : goal.invariant-loop-run
invariant-loop-run l = record {
  coalesced : IsCoalesced 0 l.out.items;
  ends : last_end 0 l.out.items ≡ l.base + (min (last_end 0 (take (l.first + l.run-index) l.from)) l.hi - l.lo);
  spelled : spell 0 l.out.items ≡ spell 0 l.fn.out.items ++ take (l.hi - l.lo) (drop l.lo (spell 0 (take (l.first + l.run-index) l.from)));
}
