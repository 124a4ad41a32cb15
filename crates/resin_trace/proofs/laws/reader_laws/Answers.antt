use Rattle.resin_trace.proofs.Verdicts_of.{begins, feeds, hands, breaks, finishes}
use Rattle.resin_trace.proofs.laws.reader_laws.Goals as goal

pub returns : goal.returns
returns c = record { begins = begins; feeds = feeds; hands = hands; breaks = breaks; finishes = finishes }
