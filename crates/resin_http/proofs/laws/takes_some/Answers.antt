use Rattle.resin_http.proofs.StreamLemmas.{takes_some}
use Rattle.resin_http.proofs.laws.takes_some.Goals as goal

pub returns : goal.returns
returns c = takes_some
