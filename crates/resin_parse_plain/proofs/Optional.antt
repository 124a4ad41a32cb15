-- An optional form, and a form from its first token on, by what the next token is.
use Rattle.std.proofs.Common.{◌≡◌, ℕ, suc, true, false, List, Option, Some, Result, subst}
use Rattle.resin_form.specs.Form.{andthen, next}
use Rattle.resin_form.specs.Reading.{Got, Stop}
use Rattle.resin_form.specs.Reads.{Reads, first}
use Rattle.resin_form.specs.declared.fault.Fault.{Fault}
use Rattle.resin_lex.specs.declared.token.Token.{Token}
use Rattle.resin_grammar.specs.Reading.{is_low}
use Rattle.resin_program_grammar.specs.Combine.{Rule}
use Rattle.resin_program_grammar.specs.Declarations.{rules}
use Rattle.resin_program_grammar.specs.Reading.{under}
use Rattle.resin_program_grammar.specs.Start.{begins, behind_first, optional}
use Rattle.resin_program_grammar.proofs.StartLaws.{optional_takes, optional_ends, next_takes, next_ends}

module _ (line : Token → ℕ) (depth : ℕ) {A B : Type 0} (F : Rule A) where
  pub takes : (G : A → Rule B) (other : B) (t : Token) (old new : List Token) (r : Result B Fault) → first old ≡ Some t → begins F t ≡ true → Reads (under line depth (andthen F G) old) r new → Reads (under line depth (optional F G other) old) r new
  takes G other t old new r e h p = subst (λ o. Reads o r new) (optional_takes (rules line) is_low (suc depth) F G other t old e h) p

  pub passes : (G : A → Rule B) (other : B) (o : Option Token) (old : List Token) → first old ≡ o → ((t : Token) → o ≡ Some t → begins F t ≡ false) → under line depth (optional F G other) old ≡ Got other old
  passes G other o old e h = optional_ends (rules line) is_low (suc depth) F G other o old e h

  -- the second form goes by the first token
  pub from_first : (G : Token → A → Rule B) (other : Token → B) (t : Token) (old new : List Token) (r : Result B Fault) → first old ≡ Some t → begins F t ≡ true → Reads (under line depth (andthen F (G t)) old) r new → Reads (under line depth (next (begins F) (λ x. behind_first F (G x) (other x) x)) old) r new
  from_first G other t old new r e h p = subst (λ o. Reads o r new) (next_takes (rules line) is_low (suc depth) F G other t old e h) p

  pub no_first : (G : Token → A → Rule B) (other : Token → B) (o : Option Token) (old : List Token) → first old ≡ o → ((t : Token) → o ≡ Some t → begins F t ≡ false) → under line depth (next (begins F) (λ x. behind_first F (G x) (other x) x)) old ≡ Stop old
  no_first G other o old e h = next_ends (rules line) is_low (suc depth) (begins F) (λ x. behind_first F (G x) (other x) x) o old e h
