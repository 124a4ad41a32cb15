-- A front of the text was given, and no count rose.
use Rattle.std.proofs.Common.{length, ◌-◌, ◌≤◌, ◌≡◌, take}
use Rattle.resin_serve.specs.Ran.{Grew}
use Rattle.resin_serve.proofs.give.give_all.Given as goal

abbrev pub invariant-loop-place : goal.invariant-loop-place
invariant-loop-place g l = record {
  within : l.place ≤ length l.text;
  grew : Grew (g.S.Sink.written l.fn.sink) (g.S.Sink.written l.sink) (take l.place l.text);
  faults : g.S.Sink.faults l.sink ≡ g.S.Sink.faults l.fn.sink;
  stalls : g.S.Sink.stalls l.sink ≡ g.S.Sink.stalls l.fn.sink;
}

abbrev pub decreases-loop-place : goal.decreases-loop-place
decreases-loop-place g l = length l.text - l.place
