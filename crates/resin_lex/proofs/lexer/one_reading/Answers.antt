use Rattle.resin_lex.proofs.Once.{read_once}
use Rattle.resin_lex.proofs.lexer.one_reading.Goals as goal

pub returns : goal.returns
returns c = read_once
