use Rattle.std.proofs.Common.{sym, subst}
use Rattle.resin_trace.specs.Verdicts.{IsGood}
use Rattle.resin_serve.proofs.sample.run_sample.Goals as goal

pub count_answers-requires-clause-good : goal.count_answers-requires-clause-good
count_answers-requires-clause-good c = subst IsGood (sym c.new-trace.ensures) (c.in_ok-sample_trace.ensures.good c.requires)
