use Rattle.std.proofs.Common.{◌∷◌, []}
use Rattle.resin_lex.specs.declared.modes.Open.TheVariants.{Outside}
use Rattle.resin_lex.proofs.Lexed.{lexes}
use Rattle.resin_lex.proofs.Once.{front_in_text}
use Rattle.resin_lex.proofs.lexer.tokens_and_fault.Goals as goal

pub returns-clause-front : goal.returns-clause-front
returns-clause-front c = (c.in_ok-tokens.tokens, (lexes (Outside ∷ []) 0 c.args.src.now c.in_ok-tokens.tokens c.in_ok-tokens.fault c.in_ok-tokens.ensures, c.keep_before.ensures))

pub returns-clause-row : goal.returns-clause-row
returns-clause-row c = front_in_text c.args.src.now c.keep_before.new.tokens c.in_ok-tokens.fault (c.in_ok-tokens.tokens, (lexes (Outside ∷ []) 0 c.args.src.now c.in_ok-tokens.tokens c.in_ok-tokens.fault c.in_ok-tokens.ensures, c.keep_before.ensures))
