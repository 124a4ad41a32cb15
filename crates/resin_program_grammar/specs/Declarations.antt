-- Functions, classes and whole programs. Types and the words `public`, `protected`, `private` and `final` are read and
-- leave no trace.
use Rattle.std.specs.Prelude.{ℕ, Bool, true, false, ◌||◌, List, [], ◌∷◌, ◌++◌, Option, Some, None}
use Rattle.resin_form.specs.Form.{Own, Named, give, next, maybe, many, After, plain, followed, taken}
use Rattle.resin_form.specs.Lift.{lift_after}
use Rattle.resin_lex.specs.declared.token.Token.{Token}
use Rattle.resin_lex.specs.declared.token.TokenKind.{TokenKind}
use Rattle.resin_tree.specs.declared.declaration.ClassDecl.{ClassDecl}
use Rattle.resin_tree.specs.declared.declaration.Constant.{Constant}
use Rattle.resin_tree.specs.declared.declaration.Function.{Function}
use Rattle.resin_tree.specs.declared.declaration.Item.{Item}
use Rattle.resin_tree.specs.declared.declaration.Item.TheVariants as item
use Rattle.resin_tree.specs.declared.declaration.Parameter.{Parameter}
use Rattle.resin_tree.specs.declared.declaration.Program.{Program}
use Rattle.resin_grammar.specs.declared.sign.Sign.TheVariants as s
use Rattle.resin_grammar.specs.Signs.{is_sign}
use Rattle.resin_grammar.specs.Expressions as expressions
use Rattle.resin_grammar.specs.Expressions.{is_name}
use Rattle.resin_program_grammar.specs.declared.members.Members.{Members}
use Rattle.resin_program_grammar.specs.declared.word.Word.TheVariants as w
use Rattle.resin_program_grammar.specs.Words.{is_word}
use Rattle.resin_program_grammar.specs.Leads.{is_modifier}
use Rattle.resin_program_grammar.specs.Start.{optional}
use Rattle.resin_program_grammar.specs.Trees as tree
use Rattle.resin_program_grammar.specs.Names.{Name, Expression, Statements, Body, Link, Otherwise, Part, PartLink, ForHead, ForeachHead, Cases}
use Rattle.resin_program_grammar.specs.Names.{CatchHead, Targets, NoArgument, FunctionParameters, ClassMembers, ConstantItems, Digits, Value}
use Rattle.resin_program_grammar.specs.Combine.{Rule, Behind, ◌>>=◌, ◌>>◌, either, one_of, expects}
use Rattle.resin_program_grammar.specs.Combine.{wants, a_name, a_variable, opened, in_round, in_braces}
use Rattle.resin_program_grammar.specs.Constants.{constant, items, digits}
use Rattle.resin_program_grammar.specs.Plain.{begins_statement, for_head, foreach_head, catch_head, targets}
use Rattle.resin_program_grammar.specs.Statements.{inside, statement, inner_statements, braces, body, link, otherwise, part, part_link, cases}

-- ---- types: an optional `?` and names split by `|`

abbrev pub begins_type : TokenKind → Bool
begins_type kind = is_sign s.Question kind || is_name kind

unfoldable pub one_type : Rule (Unit {0})
one_type = a_name >> give tt

unfoldable pub more_types : Rule (Unit {0})
more_types = many (λ _ t. is_word w.Bar t.kind) (λ _ _. taken one_type) tt

unfoldable pub type_behind : TokenKind → Rule (Unit {0})
type_behind kind = either (is_sign s.Question kind) (one_type >> more_types) more_types

unfoldable pub a_type : Rule (Unit {0})
a_type = next (λ t. begins_type t.kind) (λ t. taken (type_behind t.kind))

unfoldable pub any_type : Rule (Unit {0})
any_type = maybe (λ t. begins_type t.kind) (λ t. taken (type_behind t.kind)) tt

-- `: T` behind the parameters, or nothing
unfoldable pub result_type : Rule (Unit {0})
result_type = maybe (λ t. is_sign s.Colon t.kind) (λ _. taken a_type) tt

-- ---- functions

-- `= c`, or nothing
unfoldable pub default : Rule (Option Constant)
default = maybe (λ t. is_sign s.Assign t.kind) (λ _. taken (constant >>= λ c. give (Some c))) None

unfoldable pub parameter : Rule Parameter
parameter = any_type >> a_variable >>= λ v. default >>= λ c. give (tree.parameter v c)

unfoldable pub one_parameter : List Parameter → Rule (List Parameter)
one_parameter ps = parameter >>= λ p. give (ps ++ p ∷ [])

unfoldable pub more_parameters : List Parameter → Rule (List Parameter)
more_parameters ps = many (λ _ t. is_sign s.Comma t.kind) (λ ps _. taken (one_parameter ps)) ps

-- one at least
unfoldable pub some_parameters : Rule (List Parameter)
some_parameters = parameter >>= λ p. more_parameters (p ∷ [])

unfoldable pub parameters : Rule (List Parameter)
parameters = optional parameter (λ p. more_parameters (p ∷ [])) []

-- `name(..) { s.. }`, behind `function`
unfoldable pub function : ℕ → Rule Function
function at =
    a_name >>= λ n. in_round FunctionParameters >>= λ ps. expects s.RightRound >> result_type >> braces false >>= λ ss.
    give (tree.function at n ps ss)

-- ---- classes

unfoldable pub property : Members → Rule Members
property ms = a_variable >>= λ v. default >>= λ c. give (tree.with_property ms v c)

unfoldable pub more_properties : Members → Rule Members
more_properties ms = many (λ _ t. is_sign s.Comma t.kind) (λ ms _. taken (property ms)) ms

-- `T $p = c, ..;`, behind `var` or a modifier
unfoldable pub properties : Members → Rule Members
properties ms = any_type >> property ms >>= more_properties >>= λ ms. wants w.Semicolon >> give ms

unfoldable pub method : Members → ℕ → Rule Members
method ms at = function at >>= λ f. give (tree.with_method ms f)

unfoldable pub modifiers : Rule (Unit {0})
modifiers = many (λ _ t. is_modifier t.kind) (λ _ _. taken (give tt)) tt

unfoldable pub eats_function : Rule Bool
eats_function = maybe (λ t. is_word w.Function t.kind) (λ _. taken (give true)) false

abbrev pub method_or_properties : Members → ℕ → Bool → Rule Members
method_or_properties ms at true = method ms at
method_or_properties ms at false = properties ms

-- behind a modifier
unfoldable pub modified : Members → ℕ → Rule Members
modified ms at = modifiers >> eats_function >>= method_or_properties ms at

abbrev pub begins_member : TokenKind → Bool
begins_member kind = is_word w.Var kind || (is_word w.Function kind || is_modifier kind)

-- a member behind its first token, which is on this line
unfoldable pub member : Members → ℕ → TokenKind → Rule Members
member ms at kind = either (is_word w.Var kind) (properties ms) (either (is_word w.Function kind) (method ms at) (modified ms at))

unfoldable pub parent : Rule (Option (List ℕ))
parent = maybe (λ t. is_word w.Extends t.kind) (λ _. taken (a_name >>= λ n. give (Some n))) None

-- `Name extends Name { .. }`, behind `class`
unfoldable pub class : ℕ → Rule ClassDecl
class at = a_name >>= λ n. parent >>= λ p. in_braces ClassMembers >>= λ ms. expects s.RightBrace >> give (tree.class at n p ms)

-- `class ..`, behind `final`
unfoldable pub finals : Rule (Unit {0})
finals = many (λ _ t. is_word w.Final t.kind) (λ _ _. taken (give tt)) tt

unfoldable pub final_class : ℕ → Rule ClassDecl
final_class at = finals >> wants w.Class >> class at

-- ---- programs

abbrev pub begins_item : Token → Bool
begins_item t = is_word w.Function t.kind || (is_word w.Class t.kind || (is_word w.Final t.kind || begins_statement false t))

module _ (line : Token → ℕ) where
  unfoldable pub more_members : Members → Rule Members
  more_members ms = many (λ _ t. begins_member t.kind) (λ ms t. taken (member ms (line t) t.kind)) ms

  unfoldable pub members : Rule Members
  members = more_members tree.no_members

  -- a function, a class or a statement, behind its first token
  unfoldable pub top_item : Token → Behind Named Item
  top_item t = one_of (is_word w.Function t.kind) (plain (function (line t) >>= λ f. give (item.Function f)))
      (one_of (is_word w.Class t.kind) (plain (class (line t) >>= λ c. give (item.Class c)))
      (one_of (is_word w.Final t.kind) (plain (final_class (line t) >>= λ c. give (item.Class c)))
      (followed (statement line (inside false) t) (λ st. give (item.Statement st.0)))))

  unfoldable pub one_item : Rule Item
  one_item = next begins_item top_item

  unfoldable pub more_items : List Item → Rule (List Item)
  more_items items = many (λ _ t. begins_item t) (λ items t. followed (top_item t) (λ i. give (items ++ i ∷ []))) items

  unfoldable pub top_items : Rule (List Item)
  top_items = more_items []

  unfoldable pub program : Rule Program
  program = top_items >>= λ items. give (record { items = items })

  abbrev pub rules : (n : Name) → Behind Own (Value n)
  rules (Expression n) = lift_after Expression (expressions.rules n)
  rules (Statements in_loop) = plain (inner_statements line in_loop)
  rules (Body a) = plain (body line a)
  rules (Link a c) = plain (link a c true)
  rules (Otherwise a c) = plain (otherwise line a c)
  rules (Part in_loop c e at) = plain (part line in_loop c e at)
  rules (PartLink in_loop c) = plain (part_link line in_loop c)
  rules ForHead = plain for_head
  rules ForeachHead = plain foreach_head
  rules Cases = plain (cases line)
  rules CatchHead = plain catch_head
  rules Targets = plain targets
  rules NoArgument = plain (give tt)
  rules FunctionParameters = plain parameters
  rules ClassMembers = plain members
  rules (ConstantItems close) = plain (items close)
  rules Digits = plain digits
