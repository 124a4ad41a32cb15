use Rattle.resin_lex.proofs.LineTurns.{LinesSoFar}
use Rattle.resin_lex.proofs.lines.token_lines.Given as goal

abbrev pub invariant-loop-token : goal.invariant-loop-token
invariant-loop-token l = LinesSoFar l.src l.tokens l.token-index l.at l.line l.lines
