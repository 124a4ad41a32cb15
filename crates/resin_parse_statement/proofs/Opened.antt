-- Names where no construct may open, tokens that cannot stand, and what a read statement leaves.
use Rattle.std.proofs.Common.{◌≡◌, ℕ, zero, suc, ◌+◌, List, [], ◌∷◌, Bool, true, false, Option, Some, None, Result, Ok, Err, refl, sym, ◌∙◌, ap, subst}
use Rattle.resin_form.specs.Form.{give}
use Rattle.resin_form.specs.Meaning.{allows_at, reading}
use Rattle.resin_form.specs.Reading.{Outcome, Got, Stop, Deep, and_then, read, read_after}
use Rattle.resin_form.specs.Reads.{Reads, first}
use Rattle.resin_form.proofs.Cases.{if_true, if_false}
use Rattle.resin_form.specs.declared.fault.Fault.{Fault}
use Rattle.resin_form.specs.declared.fault.Fault.TheVariants.{Syntax, TooDeep, Memory}
use Rattle.resin_lex.specs.declared.token.Token.{Token}
use Rattle.resin_tree.specs.declared.statement.Stmt.{Stmt}
use Rattle.resin_grammar.specs.Reading.{is_low}
use Rattle.resin_program_grammar.specs.declared.chain.Around.{Around}
use Rattle.resin_program_grammar.specs.declared.chain.Chain.{Chain}
use Rattle.resin_program_grammar.specs.declared.chain.Left.{Left}
use Rattle.resin_program_grammar.specs.declared.chain.Left.TheVariants.{Else}
use Rattle.resin_program_grammar.specs.Names.{Name, Body, Otherwise, Value}
use Rattle.resin_program_grammar.specs.Combine.{either, or_else, no_token}
use Rattle.resin_program_grammar.specs.Declarations.{rules}
use Rattle.resin_program_grammar.specs.Reading.{under, behind}
use Rattle.resin_program_grammar.specs.Statements.{alone, body, otherwise, else_end}
use Rattle.resin_program_grammar.specs.Plain.{begins_statement}
use Rattle.resin_program_grammar.specs.Trees.{whole}
use Rattle.resin_parse_plain.specs.Lines.{line_in}
use Rattle.resin_parse_plain.proofs.Lifted.{opened}

-- what a name stands for, read by a parser one construct deeper
pub opened_at : (ends within : List ℕ) (depth inner : ℕ) (n : Name) (ts new : List Token) (r : Result (Value n) Fault) → within ≡ ends → inner + 1 ≡ depth → Reads (behind (line_in within) inner (rules (line_in within) n) ts) r new → Reads (reading (rules (line_in ends)) is_low (suc depth) n ts) r new
opened_at ends within depth inner n ts new r l e h = subst (λ x. Reads (reading (rules (line_in x)) is_low (suc depth) n ts) r new) l (opened (line_in within) depth inner n ts new r e h)

module _ (line : Token → ℕ) where
  closed_at : (n : Name) (ts new : List Token) (r : Result (Value n) Fault) → Reads (read_after (allows_at is_low zero) (reading (rules line) is_low zero) (rules line n) ts) r new → Reads (reading (rules line) is_low 1 n ts) r new
  unfolding reading
  closed_at n ts new r h = h

  pub closed : (depth : ℕ) (n : Name) (ts new : List Token) (r : Result (Value n) Fault) → depth ≡ 0 → Reads (read_after (allows_at is_low zero) (reading (rules line) is_low zero) (rules line n) ts) r new → Reads (reading (rules line) is_low (suc depth) n ts) r new
  closed depth n ts new r e h = subst (λ d. Reads (reading (rules line) is_low (suc d) n ts) r new) (sym e) (closed_at n ts new r h)

  pub refused : {A : Type 0} (depth : ℕ) (a : A) (ts : List Token) → under line depth (no_token a) ts ≡ Stop ts
  unfolding no_token
  refused depth a [] = refl
  refused depth a (t ∷ ts) = refl

-- where no construct may open, a body and what stands behind `else`
module _ (line : Token → ℕ) where
  body_at_end : (a : Around) (ts : List Token) → ((t : Token) → first ts ≡ Some t → begins_statement a.in_loop t ≡ false) → read_after (allows_at is_low zero) (reading (rules line) is_low zero) (rules line (Body a)) ts ≡ Got None ts
  unfolding body
  body_at_end a [] h = refl
  body_at_end a (t ∷ ts) h = if_false _ _ (h t refl)

  body_too_deep : (a : Around) (t : Token) (ts : List Token) → begins_statement a.in_loop t ≡ true → read_after (allows_at is_low zero) (reading (rules line) is_low zero) (rules line (Body a)) (t ∷ ts) ≡ Deep ts
  unfolding body
  body_too_deep a t ts h = if_true _ _ h

  -- `next`: the next token, or none
  pub no_body : (depth : ℕ) (a : Around) (ts : List Token) (next : Option Token) → depth ≡ 0 → first ts ≡ next → ((t : Token) → next ≡ Some t → begins_statement a.in_loop t ≡ false) → reading (rules line) is_low (suc depth) (Body a) ts ≡ Got None ts
  no_body depth a ts next e f h = closed line depth (Body a) ts ts (Ok None) e (body_at_end a ts (λ t k. h t (sym f ∙ k)))

  pub deep_body : (depth : ℕ) (a : Around) (t : Token) (ts old : List Token) → depth ≡ 0 → old ≡ t ∷ ts → begins_statement a.in_loop t ≡ true → reading (rules line) is_low (suc depth) (Body a) old ≡ Deep ts
  deep_body depth a t ts old e o h = closed line depth (Body a) old ts (Err TooDeep) e (ap (read_after (allows_at is_low zero) (reading (rules line) is_low zero) (rules line (Body a))) o ∙ body_too_deep a t ts h)

  -- what ends an `if` opens nothing, so it is read alike at each depth
  ends_alike : (b : Bool) (c : Chain) (d : ℕ) (ts : List Token) → read (allows_at is_low zero) (reading (rules line) is_low zero) (either b (give (whole c None, Else)) (no_token (alone (whole c None)))) ts ≡ under line d (either b (give (whole c None, Else)) (no_token (alone (whole c None)))) ts
  unfolding no_token
  ends_alike true c d ts = refl
  ends_alike false c d [] = refl
  ends_alike false c d (t ∷ ts) = refl

  otherwise_at_end : (a : Around) (c : Chain) (d : ℕ) (ts : List Token) → ((t : Token) → first ts ≡ Some t → begins_statement a.in_loop t ≡ false) → read_after (allows_at is_low zero) (reading (rules line) is_low zero) (rules line (Otherwise a c)) ts ≡ under line d (else_end line a c) ts
  unfolding otherwise
  otherwise_at_end a c d [] h = ends_alike a.in_part c d []
  otherwise_at_end a c d (t ∷ ts) h = ap (λ o. and_then o (λ b rest. read (allows_at is_low zero) (reading (rules line) is_low zero) (or_else (else_end line a c) b) rest)) (if_false _ _ (h t refl)) ∙ ends_alike a.in_part c d (t ∷ ts)

  otherwise_too_deep : (a : Around) (c : Chain) (t : Token) (ts : List Token) → begins_statement a.in_loop t ≡ true → read_after (allows_at is_low zero) (reading (rules line) is_low zero) (rules line (Otherwise a c)) (t ∷ ts) ≡ Deep ts
  unfolding otherwise
  otherwise_too_deep a c t ts h = ap (λ o. and_then o (λ b rest. read (allows_at is_low zero) (reading (rules line) is_low zero) (or_else (else_end line a c) b) rest)) (if_true _ _ h)

  pub no_otherwise : (depth : ℕ) (a : Around) (c : Chain) (ts new : List Token) (r : Result (Stmt × Left) Fault) (next : Option Token) → depth ≡ 0 → first ts ≡ next → ((t : Token) → next ≡ Some t → begins_statement a.in_loop t ≡ false) → Reads (under line depth (else_end line a c) ts) r new → Reads (reading (rules line) is_low (suc depth) (Otherwise a c) ts) r new
  no_otherwise depth a c ts new r next e f h k = closed line depth (Otherwise a c) ts new r e (subst (λ o. Reads o r new) (sym (otherwise_at_end a c depth ts (λ t q. h t (sym f ∙ q)))) k)

  pub deep_otherwise : (depth : ℕ) (a : Around) (c : Chain) (t : Token) (ts old : List Token) → depth ≡ 0 → old ≡ t ∷ ts → begins_statement a.in_loop t ≡ true → reading (rules line) is_low (suc depth) (Otherwise a c) old ≡ Deep ts
  deep_otherwise depth a c t ts old e o h = closed line depth (Otherwise a c) old ts (Err TooDeep) e (ap (read_after (allows_at is_low zero) (reading (rules line) is_low zero) (rules line (Otherwise a c))) o ∙ otherwise_too_deep a c t ts h)

-- a statement with nothing left, and the statement
abbrev statement_of : Outcome Token (Stmt × Left) → Outcome Token Stmt
statement_of (Got st rest) = Got st.0 rest
statement_of (Stop rest) = Stop rest
statement_of (Deep rest) = Deep rest

pub alone_got : (o : Outcome Token Stmt) (st : Stmt) (left : Left) (new : List Token) → and_then o (λ st rest. Got (alone st) rest) ≡ Got (st, left) new → o ≡ Got st new
alone_got (Got a rest) st left new e = ap statement_of e
alone_got (Stop rest) st left new e = cc
alone_got (Deep rest) st left new e = cc

pub alone_err : (o : Outcome Token Stmt) (fault : Fault) (new : List Token) → Reads (and_then o (λ st rest. Got (alone st) rest)) (Err fault) new → Reads {A = Stmt} o (Err fault) new
alone_err (Got a rest) Syntax new e = cc
alone_err (Got a rest) TooDeep new e = cc
alone_err (Got a rest) Memory new e = tt
alone_err (Stop rest) Syntax new e = cc
alone_err (Stop rest) TooDeep new e = cc
alone_err (Stop rest) Memory new e = tt
alone_err (Deep rest) Syntax new e = cc
alone_err (Deep rest) TooDeep new e = cc
alone_err (Deep rest) Memory new e = tt

-- a fault of two steps is that of the first
pub first_fails : {A B : Type 0} (o : Outcome Token B) (f : B → List Token → Outcome Token A) (fault : Fault) (new : List Token) → Reads {A = B} o (Err fault) new → Reads {A = A} (and_then o f) (Err fault) new
first_fails o f Syntax new e = ap (λ o. and_then o f) e
first_fails o f TooDeep new e = ap (λ o. and_then o f) e
first_fails o f Memory new e = tt
