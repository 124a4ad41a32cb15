-- The forms of statements without others in them, and what stands in the brackets of the others. `at` is the line of the
-- statement.
use Rattle.std.specs.Prelude.{ℕ, Bool, true, false, ◌||◌, List, [], ◌∷◌, ◌++◌, Option, Some, None, is_some}
use Rattle.resin_form.specs.Form.{Named, give, next, maybe, many, taken}
use Rattle.resin_lex.specs.declared.token.Token.{Token}
use Rattle.resin_lex.specs.declared.token.TokenKind.{TokenKind}
use Rattle.resin_tree.specs.declared.expression.Expr.{Expr}
use Rattle.resin_tree.specs.declared.expression.Target.{Target}
use Rattle.resin_tree.specs.declared.statement.Simple.{Simple}
use Rattle.resin_tree.specs.declared.statement.Simple.TheVariants as simple
use Rattle.resin_tree.specs.declared.statement.Stmt.{Stmt}
use Rattle.resin_grammar.specs.declared.sign.Sign.TheVariants as s
use Rattle.resin_grammar.specs.Signs.{is_sign}
use Rattle.resin_grammar.specs.Expressions.{is_variable, name_of}
use Rattle.resin_grammar.specs.Places.{Place, target_of}
use Rattle.resin_program_grammar.specs.declared.lead.Plain.{Plain}
use Rattle.resin_program_grammar.specs.declared.lead.Plain.TheVariants as p
use Rattle.resin_program_grammar.specs.declared.word.Word.TheVariants as w
use Rattle.resin_program_grammar.specs.Words.{is_word}
use Rattle.resin_program_grammar.specs.Leads.{plain_of, compound_of, inline_of}
use Rattle.resin_program_grammar.specs.Start.{begins, behind_first, optional}
use Rattle.resin_program_grammar.specs.Trees as tree
use Rattle.resin_program_grammar.specs.Names.{Targets, NoArgument}
use Rattle.resin_program_grammar.specs.Combine.{Rule, Behind, ◌>>=◌, ◌>>◌, either, expects, wants}
use Rattle.resin_program_grammar.specs.Combine.{a_name, a_variable, opened, in_round, expression, target}

-- ---- lists

-- an expression behind others
unfoldable pub one_expression : List Expr → Rule (List Expr)
one_expression es = expression >>= λ e. give (es ++ e ∷ [])

unfoldable pub more_expressions : List Expr → Rule (List Expr)
more_expressions es = many (λ _ t. is_sign s.Comma t.kind) (λ es _. taken (one_expression es)) es

-- `e, ..`
unfoldable pub expressions : Rule (List Expr)
expressions = expression >>= λ e. more_expressions (e ∷ [])

-- the same, or none
unfoldable pub any_expressions : Rule (List Expr)
any_expressions = optional expression (λ e. more_expressions (e ∷ [])) []

unfoldable pub one_target : List Target → Rule (List Target)
one_target ts = target >>= λ t. give (ts ++ target_of t ∷ [])

unfoldable pub more_targets : List Target → Rule (List Target)
more_targets ts = many (λ _ t. is_sign s.Comma t.kind) (λ ts _. taken (one_target ts)) ts

-- `t, ..`, behind `unset (`
unfoldable pub targets : Rule (List Target)
targets = one_target [] >>= more_targets

unfoldable pub one_variable : List (List ℕ) → Rule (List (List ℕ))
one_variable vs = a_variable >>= λ v. give (vs ++ v ∷ [])

unfoldable pub more_variables : List (List ℕ) → Rule (List (List ℕ))
more_variables vs = many (λ _ t. is_sign s.Comma t.kind) (λ vs _. taken (one_variable vs)) vs

unfoldable pub variables : Rule (List (List ℕ))
variables = one_variable [] >>= more_variables

unfoldable pub one_class : List (List ℕ) → Rule (List (List ℕ))
one_class ns = a_name >>= λ n. give (ns ++ n ∷ [])

unfoldable pub more_classes : List (List ℕ) → Rule (List (List ℕ))
more_classes ns = many (λ _ t. is_word w.Bar t.kind) (λ ns _. taken (one_class ns)) ns

-- names split by `|`
unfoldable pub classes : Rule (List (List ℕ))
classes = one_class [] >>= more_classes

-- ---- statements without others in them, behind their first token

-- the statement ends with `;`
unfoldable pub ended : ℕ → Simple → Rule Stmt
ended at x = wants w.Semicolon >> give (tree.simple at x)

unfoldable pub echo : ℕ → Rule Stmt
echo at = expressions >>= λ es. ended at (simple.Echo es)

-- `exit` or `exit()`
unfoldable pub no_argument : Rule (Unit {0})
no_argument = maybe (λ t. is_sign s.LeftRound t.kind) (λ _. opened NoArgument (λ _. expects s.RightRound)) tt

unfoldable pub exit : ℕ → Rule Stmt
exit at = no_argument >> ended at simple.Exit

unfoldable pub global : ℕ → Rule Stmt
global at = variables >>= λ vs. ended at (simple.Global vs)

unfoldable pub some_expression : Rule (Option Expr)
some_expression = expression >>= λ e. give (Some e)

unfoldable pub any_expression : Rule (Option Expr)
any_expression = optional expression (λ e. give (Some e)) None

unfoldable pub return_form : ℕ → Rule Stmt
return_form at = any_expression >>= λ e. ended at (simple.Return e)

unfoldable pub throw : ℕ → Rule Stmt
throw at = expression >>= λ e. ended at (simple.Throw e)

unfoldable pub unset : ℕ → Rule Stmt
unset at = in_round Targets >>= λ ts. expects s.RightRound >> ended at (simple.Unset ts)

abbrev pub plain_statement : ℕ → Plain → Rule Stmt
plain_statement at p.Semicolon = give (tree.block at [])
plain_statement at p.Break = ended at simple.Break
plain_statement at p.Continue = ended at simple.Continue
plain_statement at p.Echo = echo at
plain_statement at p.Exit = exit at
plain_statement at p.Global = global at
plain_statement at p.Return = return_form at
plain_statement at p.Throw = throw at
plain_statement at p.Unset = unset at

-- `e;`
unfoldable pub done : ℕ → Rule Stmt
done at = expression >>= λ e. ended at (simple.Do e)

-- `e;`, behind the first token of e
unfoldable pub expression_statement : ℕ → Token → Behind Named Stmt
expression_statement at = behind_first expression (λ e. ended at (simple.Do e)) (tree.block at [])

-- `e;`, where the lines of tokens are these
unfoldable pub whole_expression_statement : (Token → ℕ) → Rule Stmt
whole_expression_statement line = next (begins expression) (λ t. expression_statement (line t) t)

-- whether a token begins a statement
unfoldable pub begins_statement : Bool → Token → Bool
begins_statement in_loop t =
    is_some (inline_of t.kind) || (is_some (plain_of in_loop t.kind) || (is_some (compound_of t.kind) || begins expression t))

-- ---- what stands in the brackets of other statements

-- a list of expressions, which may be empty, and `;`
unfoldable pub for_list : Rule (List Expr)
for_list = any_expressions >>= λ es. wants w.Semicolon >> give es

-- `e, ..; e, ..; e, ..`, behind `for (`
unfoldable pub for_steps : List Expr → List Expr → Rule (List Expr × List Expr × List Expr)
for_steps first tests = any_expressions >>= λ steps. give (first, tests, steps)

unfoldable pub for_head : Rule (List Expr × List Expr × List Expr)
for_head = for_list >>= λ first. for_list >>= λ tests. for_steps first tests

-- `e as $v` or `e as $k => $v`, behind `foreach (`
unfoldable pub foreach_variables : Expr → List ℕ → Rule (Expr × Option (List ℕ) × List ℕ)
foreach_variables e v = maybe (λ t. is_sign s.FatArrow t.kind) (λ _. taken (a_variable >>= λ value. give (e, Some v, value))) (e, None, v)

unfoldable pub foreach_head : Rule (Expr × Option (List ℕ) × List ℕ)
foreach_head = expression >>= λ e. wants w.As >> a_variable >>= foreach_variables e

-- `A | B $e` or `A | B`, behind `catch (`
unfoldable pub caught : List (List ℕ) → Rule (List (List ℕ) × Option (List ℕ))
caught ns = maybe (λ t. is_variable t.kind) (λ t. taken (give (ns, Some (name_of t.kind)))) (ns, None)

unfoldable pub catch_head : Rule (List (List ℕ) × Option (List ℕ))
catch_head = classes >>= caught

-- `e` behind `case`, or nothing behind `default`
unfoldable pub case_test : TokenKind → Rule (Option Expr)
case_test kind = either (is_word w.Default kind) (give None) (expression >>= λ e. give (Some e))
