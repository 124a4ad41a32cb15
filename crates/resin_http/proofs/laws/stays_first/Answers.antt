use Rattle.resin_http.proofs.StreamLemmas.{stays_first}
use Rattle.resin_http.proofs.laws.stays_first.Goals as goal

pub returns : goal.returns
returns c = stays_first
