use Rattle.resin_http.proofs.WaitLemmas.{mark_stays}
use Rattle.resin_http.proofs.laws.mark_stays.Goals as goal

pub returns : goal.returns
returns c = mark_stays
