-- What the forms of programs are made of: tokens that stand for themselves, names, brackets, and the whole grammar of
-- expressions.
use Rattle.std.specs.Prelude.{ℕ, Bool, true, false, List}
use Rattle.resin_form.specs.Form.{Begin, Named, Form, give, next, maybe, After, followed, taken, opens, call}
pub use Rattle.resin_form.specs.InARow.{◌>>=◌, ◌>>◌, either, one_of, or_else}
use Rattle.resin_form.specs.Lift.{lift}
use Rattle.resin_lex.specs.declared.token.Token.{Token}
use Rattle.resin_tree.specs.declared.expression.Expr.{Expr}
use Rattle.resin_grammar.specs.declared.sign.Sign.{Sign}
use Rattle.resin_grammar.specs.declared.sign.Sign.TheVariants as s
use Rattle.resin_grammar.specs.Signs.{is_sign}
use Rattle.resin_grammar.specs.Names as name
use Rattle.resin_grammar.specs.Places.{Place}
use Rattle.resin_grammar.specs.Expressions as expressions
use Rattle.resin_grammar.specs.Expressions.{is_name, is_variable, name_of}
use Rattle.resin_program_grammar.specs.declared.word.Word.{Word}
use Rattle.resin_program_grammar.specs.declared.word.Word.TheVariants as w
use Rattle.resin_program_grammar.specs.Words.{is_word}
use Rattle.resin_program_grammar.specs.Names.{Name, Expression, Value}

abbrev pub Rule : Type 0 → Type 1
Rule A = Form Token Name Value A

abbrev pub Behind : Begin → Type 0 → Type 1
Behind b A = After Token Name Value b A

-- a token that stands for itself
unfoldable pub expects : Sign → Rule (Unit {0})
expects sign = next (λ t. is_sign sign t.kind) (λ _. taken (give tt))

unfoldable pub wants : Word → Rule (Unit {0})
wants word = next (λ t. is_word word t.kind) (λ _. taken (give tt))

-- the same, or nothing: whether it stood there
unfoldable pub eats : Sign → Rule Bool
eats sign = maybe (λ t. is_sign sign t.kind) (λ _. taken (give true)) false

unfoldable pub a_name : Rule (List ℕ)
a_name = next (λ t. is_name t.kind) (λ t. taken (give (name_of t.kind)))

unfoldable pub a_variable : Rule (List ℕ)
a_variable = next (λ t. is_variable t.kind) (λ t. taken (give (name_of t.kind)))

-- no token can stand here. The value is never given.
unfoldable pub no_token : {A : Type 0} → A → Rule A
no_token a = next (λ _. false) (λ _. taken (give a))

-- a token that opens what this name stands for, and what follows
abbrev pub opened : {A : Type 0} → (n : Name) → (Value n → Rule A) → Behind Named A
opened n F = opens 0 (followed (call n) F)

-- `(` and what the name stands for. `)` comes next.
unfoldable pub in_round : (n : Name) → Rule (Value n)
in_round n = next (λ t. is_sign s.LeftRound t.kind) (λ _. opens 0 (call n))

-- `{` and what the name stands for. `}` comes next.
unfoldable pub in_braces : (n : Name) → Rule (Value n)
in_braces n = next (λ t. is_word w.LeftBrace t.kind) (λ _. opens 0 (call n))

-- ---- what comes from the grammar of expressions

unfoldable pub expression : Rule Expr
expression = lift Expression expressions.expression

unfoldable pub target : Rule Place
target = lift Expression expressions.target

-- `(` and an expression
abbrev pub condition : Rule Expr
condition = in_round (Expression (name.Level 14))
