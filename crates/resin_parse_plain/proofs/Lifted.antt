-- What the grammar of expressions says of the larger one, and what a name stands for, one construct deeper.
use Rattle.std.proofs.Common.{◌≡◌, ℕ, zero, suc, ◌+◌, ◌<◌, true, List, ◌∷◌, Result, Ok, Err, refl, sym, ◌∙◌, ap, subst, arith}
use Rattle.std.specs.Result.{result_and}
use Rattle.resin_form.specs.Meaning.{reading}
use Rattle.resin_form.specs.Reading.{Outcome, Got, and_then}
use Rattle.resin_form.specs.Reads.{Reads}
use Rattle.resin_form.specs.declared.fault.Fault.{Fault}
use Rattle.resin_form.specs.declared.fault.Fault.TheVariants.{Syntax, TooDeep, Memory}
use Rattle.resin_form.proofs.Cases.{if_true}
use Rattle.resin_form.proofs.Alike.{lifted}
use Rattle.resin_lex.specs.declared.token.Token.{Token}
use Rattle.resin_tree.specs.declared.expression.Expr.{Expr}
use Rattle.resin_grammar.specs.Places.{Place}
use Rattle.resin_grammar.specs.Expressions as small
use Rattle.resin_grammar.specs.Reading as e
use Rattle.resin_grammar.specs.Reading.{is_low}
use Rattle.resin_program_grammar.specs.Names.{Name, Expression, Value}
use Rattle.resin_grammar.specs.Signs.{is_sign}
use Rattle.resin_grammar.specs.declared.sign.Sign.TheVariants as s
use Rattle.resin_program_grammar.specs.Combine.{expects, expression, target, condition, in_round}
use Rattle.resin_program_grammar.specs.Plain.{no_argument}
use Rattle.resin_program_grammar.specs.Declarations.{rules}
use Rattle.resin_program_grammar.specs.Reading.{under, behind}
use Rattle.resin_parse_plain.specs.Lines.{line_in}

module _ (line : Token → ℕ) where
  pub expression_reads : (depth : ℕ) (ts new : List Token) (r : Result Expr Fault) → Reads (e.under depth small.expression ts) r new → Reads (under line depth expression ts) r new
  unfolding expression
  expression_reads depth ts new r h = subst (λ o. Reads o r new) (sym (lifted Expression small.rules (rules line) (λ n. refl) is_low (suc depth) small.expression ts)) h

  pub target_reads : (depth : ℕ) (ts new : List Token) (r : Result Place Fault) → Reads (e.under depth small.target ts) r new → Reads (under line depth target ts) r new
  unfolding target
  target_reads depth ts new r h = subst (λ o. Reads o r new) (sym (lifted Expression small.rules (rules line) (λ n. refl) is_low (suc depth) small.target ts)) h

  begun : (depth : ℕ) (n : Name) (ts new : List Token) (r : Result (Value n) Fault) → Reads (behind line depth (rules line n) ts) r new → Reads (reading (rules line) is_low (suc (suc depth)) n ts) r new
  unfolding reading
  begun depth n ts new r h = h

  pub opened : (depth inner : ℕ) (n : Name) (ts new : List Token) (r : Result (Value n) Fault) → inner + 1 ≡ depth → Reads (behind line inner (rules line n) ts) r new → Reads (reading (rules line) is_low (suc depth) n ts) r new
  opened depth inner n ts new r e h = let same : suc inner ≡ depth = omega arith in subst (λ d. Reads (reading (rules line) is_low (suc d) n ts) r new) same (begun inner n ts new r h)

  -- brackets that hold nothing
  nothing_at : (inner : ℕ) (t : Token) (ts : List Token) → is_sign s.LeftRound t.kind ≡ true → under line (suc inner) no_argument (t ∷ ts) ≡ under line (suc inner) (expects s.RightRound) ts
  unfolding reading no_argument
  nothing_at inner t ts h = if_true _ _ h

  pub nothing_steps : (depth : ℕ) (t : Token) (ts old : List Token) → 0 < depth → old ≡ t ∷ ts → is_sign s.LeftRound t.kind ≡ true → under line depth no_argument old ≡ under line depth (expects s.RightRound) ts
  nothing_steps zero t ts old room o h = absurd (omega arith)
  nothing_steps (suc inner) t ts old room o h = ap (under line (suc inner) no_argument) o ∙ nothing_at inner t ts h

  -- an expression behind a bracket
  condition_at : (inner : ℕ) (t : Token) (ts : List Token) → is_sign s.LeftRound t.kind ≡ true → under line (suc inner) condition (t ∷ ts) ≡ under line inner expression ts
  unfolding reading in_round expression small.level
  condition_at inner t ts h = if_true _ _ h

  pub condition_steps : (depth inner : ℕ) (t : Token) (ts old : List Token) → inner + 1 ≡ depth → old ≡ t ∷ ts → is_sign s.LeftRound t.kind ≡ true → under line depth condition old ≡ under line inner expression ts
  condition_steps depth inner t ts old e o h =
      let same : suc inner ≡ depth = omega arith in
      ap (under line depth condition) o ∙ subst (λ d. under line d condition (t ∷ ts) ≡ under line inner expression ts) same (condition_at inner t ts h)

-- what a name stands for, read by a reader one construct deeper
pub opened_at : (ends within : List ℕ) (depth inner : ℕ) (n : Name) (ts new : List Token) (r : Result (Value n) Fault) → within ≡ ends → inner + 1 ≡ depth → Reads (behind (line_in within) inner (rules (line_in within) n) ts) r new → Reads (reading (rules (line_in ends)) is_low (suc depth) n ts) r new
opened_at ends within depth inner n ts new r l e h = subst (λ x. Reads (reading (rules (line_in x)) is_low (suc depth) n ts) r new) l (opened (line_in within) depth inner n ts new r e h)

-- a value behind tokens that give none
pub passed : {A : Type 0} (o : Outcome Token (Unit {0})) (a : A) (r : Result (Unit {0}) Fault) (new : List Token) → Reads {A = Unit {0}} o r new → Reads {A = A} (and_then o (λ _ rest. Got a rest)) (result_and r (Ok a)) new
passed o a (Ok u) new e = ap (λ o. and_then o (λ _ rest. Got a rest)) e
passed o a (Err Syntax) new e = ap (λ o. and_then o (λ _ rest. Got a rest)) e
passed o a (Err TooDeep) new e = ap (λ o. and_then o (λ _ rest. Got a rest)) e
passed o a (Err Memory) new e = tt
