use Rattle.std.proofs.Common.{◌≡◌, ℕ, ◌<◌, false, length, get_or, take}
use Rattle.resin_text_fn.specs.Rows.{is_among}
use Rattle.resin_text_fn.proofs.parts.byte_set.Given as goal

abbrev pub invariant-loop-b : goal.invariant-loop-b
invariant-loop-b l = record {
  long : length l.set ≡ 256;
  is : (b : ℕ) → b < 256 → get_or l.set b false ≡ is_among (take l.b-index l.bytes) b;
}
