use Rattle.std.proofs.Common.{◌≡◌, take}
use Rattle.resin_lex.specs.Modes.{innermost}
use Rattle.resin_lex.proofs.lexer.innermost_quote.Given as goal

abbrev pub invariant-loop-o : goal.invariant-loop-o
invariant-loop-o l = l.found ≡ innermost (take l.o-index l.opened)
