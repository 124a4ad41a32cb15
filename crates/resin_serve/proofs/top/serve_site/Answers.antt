use Rattle.resin_serve.proofs.Keeping.{numbered}
use Rattle.resin_serve.proofs.Request_kept.{later_self}
use Rattle.resin_serve.proofs.Completing.{completes, no_fails}
use Rattle.resin_serve.proofs.Ends.{kept_ended, kept_begun, runs_ended, runs_begun, none_numbered}
use Rattle.resin_serve.proofs.top.serve_site.Goals as goal

pub returns-in_default-clause-run : goal.returns-in_default-clause-run
returns-in_default-clause-run g c = λ all p. runs_ended _ _ _ all _ _ _ _ _ _ _ c.ended.ensures.0 c.ended.ensures.1 p

pub returns-in_default-clause-kept : goal.returns-in_default-clause-kept
returns-in_default-clause-kept g c = kept_ended _ _ _ _ _ _ c.ended.ensures.1 c.ended.ensures.2

pub serve_trace-status-requires-clause-numbered : goal.serve_trace-status-requires-clause-numbered
serve_trace-status-requires-clause-numbered g c = none_numbered _ c.in-Ok.ensures.failed

pub returns-clause-run : goal.returns-clause-run
returns-clause-run g c = λ all p.
    runs_begun _ _ _ _ _ _ all _ _ _ _ _ _ _ _ c.in-Ok.ensures.logging c.in-Ok.ensures.fuel c.in-Ok.ensures.made (c.serve_trace-status.ensures.ran _ all (later_self _ _) p)

pub returns-clause-kept : goal.returns-clause-kept
returns-clause-kept g c = kept_begun _ _ _ _ _ _ _ c.in-Ok.ensures.made c.in-Ok.ensures.failed c.serve_trace-status.ensures.kept

pub returns-clause-numbered : goal.returns-clause-numbered
returns-clause-numbered g c = numbered _ _ c.serve_trace-status.ensures.kept c.in-Ok.ensures.made c.in-Ok.ensures.failed

pub returns-clause-complete : goal.returns-clause-complete
returns-clause-complete g c = λ all p good calm. (
  completes _ _ _ all _ _ _ _ _ _ _ _ _ (c.serve_trace-status.ensures.ran _ all (later_self _ _) p).runs good c.serve_trace-status.ensures.cause c.serve_trace-status.ensures.read calm,
  no_fails _ _ c.serve_trace-status.ensures.kept c.in-Ok.ensures.failed calm.files_stay calm.tables_stay,
)
