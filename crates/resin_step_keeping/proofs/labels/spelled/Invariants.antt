-- The bytes that are read, before those that are left with what is left of the runs, are the whole.
use Rattle.std.proofs.Common.{◌≡◌, ◌≤◌, ◌++◌, drop, length}
use Rattle.std.specs.List.{zip}
use Rattle.resin_shadow.specs.Parts.{spelled_by}
use Rattle.resin_step_keeping.proofs.labels.spelled.Given as goal

abbrev pub invariant-loop-len : goal.invariant-loop-len
invariant-loop-len l = record {
  within : length l.text ≤ length l.bytes;
  left : l.text ++ zip (drop (length l.text) l.bytes) (spelled_by l.sets (drop l.len-index l.runs)) ≡ zip l.bytes (spelled_by l.sets l.runs);
}
