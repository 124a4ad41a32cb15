use Rattle.std.proofs.Common.{◌≡◌, ℕ, ◌<◌, false, get_or, length, take}
use Rattle.resin_guard.specs.Judged.{is_inside}
use Rattle.resin_guard.proofs.judge.covered.Given as goal

abbrev pub invariant-loop-place : goal.invariant-loop-place
invariant-loop-place l = record {
  long : length l.safe.items ≡ l.len;
  noted : (k : ℕ) → k < l.len → get_or l.safe.items k false ≡ is_inside (take l.place-index l.places) k;
}
