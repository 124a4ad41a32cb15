-- The runs before the index are put last, and those from it on are left.
use Rattle.std.proofs.Common.{drop}
use Rattle.resin_step_parts.specs.Under.lstr.Runs.{IsCoalesced}
use Rattle.resin_step_keeping.proofs.Freezes.{SpelledSoFar, CoveredSoFar}
use Rattle.resin_step_keeping.proofs.runs.set_runs.Given as goal

abbrev pub invariant-loop-run : goal.invariant-loop-run
invariant-loop-run l = record {
  spelled : SpelledSoFar l.sets.keys l.runs.items l.from (drop l.run-index l.run-items) l.run-items;
  covered : CoveredSoFar l.sets.keys l.runs.items;
  coalesced : IsCoalesced l.from (drop l.run-index l.run-items);
}
