-- The records of what was taken so far were read, and their answers were served.
use Rattle.std.proofs.Common.{◌≡◌, length}
use Rattle.resin_site.specs.Under.base.Numbering.{AreNumbered}
use Rattle.resin_site.specs.Keeping.{answers, store_of}
use Rattle.resin_serve.specs.declared.give.Given.TheVariants.{Whole}
use Rattle.resin_serve.specs.Ran.{world}
use Rattle.resin_serve.specs.Gives.{CausedIn, counts, sinks}
use Rattle.resin_serve.specs.Kept.{Kept, keepers}
use Rattle.resin_serve.specs.Asked.{served}
use Rattle.resin_serve.specs.Whole_run.{RunsSo}
use Rattle.resin_serve.proofs.Serve_runs.{measure}
use Rattle.resin_serve.proofs.serving.serve_trace.Given as goal

abbrev pub invariant-reads : goal.invariant-reads
invariant-reads g l = record {
  service : l.run.service ≡ l.fn.run.service;
  numbered : AreNumbered l.run.calls;
  faults : g.S.Source.faults l.trace ≡ g.S.Source.faults l.fn.trace;
  buf : length l.buffer ≡ 65536;
  kept : Kept (keepers l.fn.run.calls.made l.fn.run.calls.failed (g.F.Files.answers l.fn.files) (g.F.Files.faults l.fn.files) (g.T.Tables.answers l.fn.tables) (g.T.Tables.faults l.fn.tables))
      (keepers l.run.calls.made l.run.calls.failed (g.F.Files.answers l.files) (g.F.Files.faults l.files) (g.T.Tables.answers l.tables) (g.T.Tables.faults l.tables));
  cause : CausedIn Whole
      (sinks (counts (g.L.Sink.faults l.fn.log) (g.L.Sink.stalls l.fn.log)) (counts (g.M.Sink.faults l.fn.mail) (g.M.Sink.stalls l.fn.mail)) (counts (g.O.Sink.faults l.fn.out) (g.O.Sink.stalls l.fn.out)))
      (sinks (counts (g.L.Sink.faults l.log) (g.L.Sink.stalls l.log)) (counts (g.M.Sink.faults l.mail) (g.M.Sink.stalls l.mail)) (counts (g.O.Sink.faults l.out) (g.O.Sink.stalls l.out)));
  so_far : RunsSo (served l.fn.run.service) (g.S.Source.left l.fn.trace) (g.S.Source.left l.trace) l.reader l.run.number l.run.calls.made l.run.calls.failed l.run.connections
      (world (g.L.Sink.written l.fn.log) (g.M.Sink.written l.fn.mail) (g.O.Sink.written l.fn.out) (store_of (g.F.Files.stored l.fn.files) (g.T.Tables.stored l.fn.tables)) (answers (g.F.Files.answers l.fn.files) (g.T.Tables.answers l.fn.tables)) l.fn.run.calls.made)
      (world (g.L.Sink.written l.log) (g.M.Sink.written l.mail) (g.O.Sink.written l.out) (store_of (g.F.Files.stored l.files) (g.T.Tables.stored l.tables)) (answers (g.F.Files.answers l.files) (g.T.Tables.answers l.tables)) l.run.calls.made);
}

abbrev pub decreases-reads : goal.decreases-reads
decreases-reads g l = measure l.reader
