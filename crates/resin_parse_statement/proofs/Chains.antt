-- How an `if` goes on behind a link that has left something, or nothing.
use Rattle.std.proofs.Common.{◌≡◌, ℕ, true, false, List, None, refl}
use Rattle.resin_form.specs.Reading.{Got}
use Rattle.resin_lex.specs.declared.token.Token.{Token}
use Rattle.resin_program_grammar.specs.declared.chain.Around.{Around}
use Rattle.resin_program_grammar.specs.declared.chain.Chain.{Chain}
use Rattle.resin_program_grammar.specs.declared.chain.Left.{Left}
use Rattle.resin_program_grammar.specs.declared.chain.Left.TheVariants.{Nothing, Else, ElseIf}
use Rattle.resin_program_grammar.specs.Reading.{under}
use Rattle.resin_program_grammar.specs.Statements.{is_nothing, chain_on, chain_end}
use Rattle.resin_program_grammar.specs.Trees.{whole}

module _ (line : Token → ℕ) (d : ℕ) (a : Around) (c : Chain) (ts : List Token) where
  pub nothing_left : (left : Left) → is_nothing line left ≡ true → under line d (chain_on a c left) ts ≡ under line d (chain_end a c) ts
  nothing_left Nothing h = refl
  nothing_left Else h = cc
  nothing_left (ElseIf e) h = cc

  pub something_left : (left : Left) → is_nothing line left ≡ false → under line d (chain_on a c left) ts ≡ Got (whole c None, left) ts
  something_left Nothing h = cc
  something_left Else h = refl
  something_left (ElseIf e) h = refl
