-- Which tokens begin an expression, and which a parameter.
use Rattle.std.proofs.Common.{◌≡◌, ℕ, zero, suc, Bool, true, false, Option, Some, None, refl, ◌∙◌, ap}
use Rattle.std.specs.Prelude.{◌||◌, is_some}
use Rattle.resin_form.specs.Form.{Named, Form, give, andthen, next, maybe, After}
use Rattle.resin_form.specs.Lift.{lift}
use Rattle.resin_lex.specs.declared.token.Token.{Token}
use Rattle.resin_lex.specs.declared.token.TokenKind.{TokenKind}
use Rattle.resin_grammar.specs.declared.sign.Sign.TheVariants as s
use Rattle.resin_grammar.specs.Signs.{is_sign}
use Rattle.resin_grammar.specs.Operators.{prefix_of, import_of}
use Rattle.resin_grammar.specs.Expressions as e
use Rattle.resin_program_grammar.specs.Start.{Start, Takes, Passes, Refuses, then_start, takes_if, start, is_taken, begins}
use Rattle.resin_program_grammar.specs.Names.{Name, Expression, Value}
use Rattle.resin_program_grammar.specs.Combine.{expression, a_variable}
use Rattle.resin_program_grammar.specs.Declarations.{parameter, any_type, begins_type}

abbrev Starting : Type 0 → Type 1
Starting A = Start Token Name Value A

abbrev passes : {A : Type 0} → Starting A → Bool
passes (Takes F) = false
passes (Passes a) = true
passes Refuses = false

-- a form that isn't over before its first token takes it exactly where the test holds
record IsFirm {A : Type 0} (st : Starting A) (b : Bool) : Type 0 where
  stays : passes st ≡ false
  is : is_taken st ≡ b

then_firm : {A B : Type 0} (st : Starting B) (k : B → Starting A) (G : B → Form Token Name Value A) (b : Bool) → IsFirm st b → IsFirm (then_start st k G) b
then_firm (Takes F) k G b h = record { stays = refl; is = h.is }
then_firm (Passes x) k G b h = (let no : true ≡ false = h.stays in cc)
then_firm Refuses k G b h = record { stays = refl; is = h.is }

maybe_firm : {A B : Type 0} (b : Bool) (F : After Token Name Value Named B) (a : B) (k : B → Starting A) (G : B → Form Token Name Value A) (c : Bool) → IsFirm (k a) c → IsFirm (then_start (takes_if b F (Passes a)) k G) (b || c)
maybe_firm true F a k G c h = record { stays = refl; is = refl }
maybe_firm false F a k G c h = h

next_firm : {A : Type 0} (b : Bool) (F : After Token Name Value Named A) → IsFirm (takes_if b F Refuses) b
next_firm true F = record { stays = refl; is = refl }
next_firm false F = record { stays = refl; is = refl }

operand_firm : (t : Token) → IsFirm (start (lift Expression e.operand) t) (e.begins_operand t.kind)
unfolding e.operand e.any_operand
operand_firm t = then_firm _ _ _ _ (then_firm _ _ _ _ (next_firm (e.begins_operand t.kind) _))

unary_firm : (t : Token) → IsFirm (start (lift Expression e.unary) t) (is_some (prefix_of t.kind) || e.begins_operand t.kind)
unfolding e.unary e.prefix_form
unary_firm t = maybe_firm (is_some (prefix_of t.kind)) _ None _ _ _ (operand_firm t)

tested_firm : (t : Token) → IsFirm (start (lift Expression e.tested) t) (is_some (prefix_of t.kind) || e.begins_operand t.kind)
unfolding e.tested
tested_firm t = then_firm _ _ _ _ (unary_firm t)

negated_firm : (t : Token) → IsFirm (start (lift Expression e.negated) t) (is_sign s.Not t.kind || (is_some (prefix_of t.kind) || e.begins_operand t.kind))
unfolding e.negated e.not_form
negated_firm t = maybe_firm (is_sign s.Not t.kind) _ None _ _ _ (tested_firm t)

binaries_firm : (n : ℕ) (t : Token) → IsFirm (start (lift Expression (e.binaries n)) t) (is_sign s.Not t.kind || (is_some (prefix_of t.kind) || e.begins_operand t.kind))
unfolding e.binaries
binaries_firm zero t = negated_firm t
binaries_firm (suc n) t = then_firm _ _ _ _ (binaries_firm n t)

chosen_firm : (t : Token) → IsFirm (start (lift Expression e.chosen) t) (is_sign s.Not t.kind || (is_some (prefix_of t.kind) || e.begins_operand t.kind))
unfolding e.chosen e.coalesced
chosen_firm t = then_firm _ _ _ _ (then_firm _ _ _ _ (binaries_firm 7 t))

expression_firm : (t : Token) → IsFirm (start expression t) (is_some (import_of t.kind) || (is_sign s.Not t.kind || (is_some (prefix_of t.kind) || e.begins_operand t.kind)))
unfolding expression e.expression e.import_form
expression_firm t = maybe_firm (is_some (import_of t.kind)) _ None _ _ _ (chosen_firm t)

pub begins_expression : (t : Token) → begins expression t ≡ (is_some (import_of t.kind) || (is_sign s.Not t.kind || (is_some (prefix_of t.kind) || e.begins_operand t.kind)))
unfolding begins
begins_expression t = (expression_firm t).is

parameter_firm : (t : Token) → IsFirm (start parameter t) (begins_type t.kind || e.is_variable t.kind)
unfolding parameter any_type a_variable
parameter_firm t = then_firm _ _ _ _ (maybe_firm (begins_type t.kind) _ tt _ _ _ (next_firm (e.is_variable t.kind) _))

pub begins_parameter : (t : Token) → begins parameter t ≡ (begins_type t.kind || e.is_variable t.kind)
unfolding begins
begins_parameter t = (parameter_firm t).is
