use Rattle.std.proofs.Common.{◌≤◌, ◌-◌, ℕ, List, [], ◌∷◌, ◌++◌, drop, length, Option}
use Rattle.resin_lex.specs.Reads.{Reads}
use Rattle.resin_lex.specs.declared.token.Token.{Token}
use Rattle.resin_lex.specs.declared.modes.Open.TheVariants.{Outside}
use Rattle.resin_lex.proofs.lexer.read_all.Given as goal

-- Whatever the rest is read as, the whole is read as the tokens so far and that.
abbrev pub invariant-loop-at : goal.invariant-loop-at
invariant-loop-at l = (l.at ≤ length l.src) × ((rest : List Token) (fault : Option ℕ) → Reads l.opened.items l.at (drop l.at l.src) rest fault → Reads (Outside ∷ []) 0 l.src (l.tokens ++ rest) fault)

abbrev pub decreases-loop-at : goal.decreases-loop-at
decreases-loop-at l = length l.src - l.at
