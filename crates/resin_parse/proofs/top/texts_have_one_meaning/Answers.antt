use Rattle.resin_parse.proofs.Meant.{one_meaning}
use Rattle.resin_parse.proofs.top.texts_have_one_meaning.Goals as goal

pub returns : goal.returns
returns c = one_meaning
