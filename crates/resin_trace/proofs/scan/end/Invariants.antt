-- The rest of the word stands where the rest of the text does.
use Rattle.std.proofs.Common.{◌≡◌, ◌≤◌, ◌+◌, length, drop}
use Rattle.resin_trace.specs.Front.{end}
use Rattle.resin_trace.proofs.scan.end.Given as goal

abbrev pub invariant-loop-i : goal.invariant-loop-i
invariant-loop-i l = record {
  is : end l.conn (l.at + l.i) (drop l.i l.word) (drop (l.at + l.i) l.text) ≡ end l.conn l.at l.word (drop l.at l.text);
  within : l.at + l.i ≤ length l.text;
}
