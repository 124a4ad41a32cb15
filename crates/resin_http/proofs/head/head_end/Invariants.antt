-- The mark ends where it ends in the bytes that are left.
use Rattle.std.proofs.Common.{◌≡◌, ◌+◌, drop, option_map}
use Rattle.resin_http.specs.Stream.{head_end}
use Rattle.resin_http.proofs.head.head_end.Given as goal

abbrev pub invariant-loop-i : goal.invariant-loop-i
invariant-loop-i l = option_map (λ n. n + l.i) (head_end (drop l.i l.bytes)) ≡ head_end l.bytes
