use Rattle.std.proofs.Common.{◌≡◌, ℕ, ◌<◌, false, take}
use Rattle.resin_lstr.specs.Runs.{last_end}
use Rattle.resin_guard.proofs.Firsts.{test}
use Rattle.resin_guard.proofs.judge.first_untrusted.Given as goal

abbrev pub invariant-loop-run : goal.invariant-loop-run
invariant-loop-run l = record {
  begins : l.from ≡ last_end 0 (take l.run-index l.runs);
  none : (k : ℕ) → k < l.from → test l.runs l.bad l.safe k ≡ false;
}
