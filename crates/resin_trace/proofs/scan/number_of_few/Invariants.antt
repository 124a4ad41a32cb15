use Rattle.std.proofs.Common.{◌≡◌, ◌≤◌, drop}
use Rattle.resin_trace.specs.Front.{digits, number}
use Rattle.resin_trace.proofs.scan.number_of_few.Given as goal

abbrev pub invariant-loop-used : goal.invariant-loop-used
invariant-loop-used l = record {
  is : digits l.high l.value l.used (drop l.used l.text) ≡ number l.low l.high l.text;
  fits : l.value ≤ l.high;
}
