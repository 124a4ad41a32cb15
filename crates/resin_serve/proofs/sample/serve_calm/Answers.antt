use Rattle.std.proofs.Common.{refl}
use Rattle.resin_serve.proofs.Request_kept.{later_self}
use Rattle.resin_serve.proofs.Ends.{none_numbered}
use Rattle.resin_serve.proofs.Sampling.{comes_to_end, tells_counts}
use Rattle.resin_serve.proofs.sample.serve_calm.Goals as goal

pub serve_trace-requires-clause-numbered : goal.serve_trace-requires-clause-numbered
serve_trace-requires-clause-numbered c = none_numbered _ c.requires.failed

pub returns-clause-completes : goal.returns-clause-completes
returns-clause-completes c = comes_to_end _ _ _ _ _ _ _ (c.serve_trace.ensures.ran _ _ (later_self _ _) refl) c.requires.good c.serve_trace.ensures.cause c.serve_trace.ensures.read

pub returns-clause-counts : goal.returns-clause-counts
returns-clause-counts c =
    tells_counts _ _ _ _ _ _ _ _ _ _ _ _ _ _ _ _ _ _ _ _ c.serve_trace.ensures.kept c.requires.made c.requires.failed c.new-tables.ensures c.requires.log c.requires.good
    (c.serve_trace.ensures.numbers _ refl) (c.serve_trace.ensures.ran _ _ (later_self _ _) refl)
