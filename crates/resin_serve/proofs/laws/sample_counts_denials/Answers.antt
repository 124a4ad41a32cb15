use Rattle.resin_serve.proofs.Denying.{each_is_a_line, log_tells_denials, sample_tells_denials}
use Rattle.resin_serve.proofs.laws.sample_counts_denials.Goals as goal

pub returns-clause-line : goal.returns-clause-line
returns-clause-line c = each_is_a_line

pub returns-clause-run : goal.returns-clause-run
returns-clause-run c = log_tells_denials

pub returns-clause-sample : goal.returns-clause-sample
returns-clause-sample c = sample_tells_denials
