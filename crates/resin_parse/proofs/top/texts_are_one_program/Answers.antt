use Rattle.resin_parse.proofs.Whole.{one_program}
use Rattle.resin_parse.proofs.top.texts_are_one_program.Goals as goal

pub returns : goal.returns
returns c = one_program
