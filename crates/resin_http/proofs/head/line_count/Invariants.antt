-- The lines counted so far and those that are left are all lines.
use Rattle.std.proofs.Common.{◌≡◌, ◌+◌, ◌≤◌, drop}
use Rattle.resin_http.specs.Stream.{line_count}
use Rattle.resin_http.proofs.head.line_count.Given as goal

abbrev pub invariant-loop-i : goal.invariant-loop-i
invariant-loop-i l = record {
  few : l.count ≤ l.i;
  lines : l.count + line_count (drop l.i l.bytes) ≡ line_count l.bytes;
}
