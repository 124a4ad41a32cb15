use Rattle.resin_http.proofs.StreamLemmas.{answers_grow}
use Rattle.resin_http.proofs.laws.answers_grow.Goals as goal

pub returns : goal.returns
returns c = answers_grow
