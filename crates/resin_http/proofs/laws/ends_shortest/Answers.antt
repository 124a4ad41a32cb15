use Rattle.resin_http.proofs.ShortestLemmas.{ends_shortest}
use Rattle.resin_http.proofs.laws.ends_shortest.Goals as goal

pub returns : goal.returns
returns c = ends_shortest
