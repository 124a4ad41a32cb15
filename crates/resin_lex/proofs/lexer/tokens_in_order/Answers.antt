use Rattle.resin_lex.proofs.Once.{in_text}
use Rattle.resin_lex.proofs.lexer.tokens_in_order.Goals as goal

pub returns : goal.returns
returns c = in_text
