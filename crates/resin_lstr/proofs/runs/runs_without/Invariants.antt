use Rattle.std.proofs.Common.{◌≡◌, take}
use Rattle.std.specs.Prelude.{map}
use Rattle.resin_label.specs.Sets.{remove}
use Rattle.resin_lstr.specs.Runs.{spell, last_end, IsCoalesced}
use Rattle.resin_lstr.proofs.runs.runs_without.Given as goal

abbrev pub invariant-loop-run : goal.invariant-loop-run
invariant-loop-run l = record {
  coalesced : IsCoalesced 0 l.out.items;
  ends : last_end 0 l.out.items ≡ last_end 0 (take l.run-index l.runs);
  spelled : spell 0 l.out.items ≡ map (λ s. remove s l.n) (spell 0 (take l.run-index l.runs));
}
