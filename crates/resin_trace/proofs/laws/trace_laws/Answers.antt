use Rattle.resin_trace.proofs.Existing.{exists_for}
use Rattle.resin_trace.proofs.Once.{only_records}
use Rattle.resin_trace.proofs.Verdicts_of.{has_end, one_end}
use Rattle.resin_trace.proofs.laws.trace_laws.Goals as goal

pub returns : goal.returns
returns c = record { some = exists_for; one = only_records; some_end = has_end; one_end = one_end }
