-- The grammar of expressions, level by level (the table of levels stands in Operators). A form chooses by the next token
-- alone, and a repetition goes on as long as it can: so the right side of an assignment reaches as far as the grammar
-- lets it. What nests: each bracket, the `{` of a text, and the operand to the right of each operator. `stands` marks
-- the operators and postfixes that open nothing, to the right of a tree of this height.
use Rattle.std.specs.Prelude.{ℕ, zero, suc, ◌+◌, ◌-◌, Bool, true, false, not, ◌&&◌, ◌||◌, ◌==◌, nat_le}
use Rattle.std.specs.Prelude.{List, [], ◌∷◌, ◌++◌, Option, Some, None, is_some, is_none}
use Rattle.resin_form.specs.Form.{Begin, Own, Named, Form, give, next, maybe, many, After, plain, followed, taken, opens, stands, call}
pub use Rattle.resin_form.specs.InARow.{◌>>=◌, ◌>>◌, either, one_of, or_else}
use Rattle.resin_lex.specs.declared.token.Token.{Token}
use Rattle.resin_lex.specs.declared.token.TokenKind.{TokenKind}
use Rattle.resin_lex.specs.declared.token.TokenKind.TheVariants as k
use Rattle.resin_lex.specs.declared.token.Mark.TheVariants as m
use Rattle.resin_scan.specs.declared.keywords.Keyword.TheVariants as word
use Rattle.resin_tree.specs.declared.expression.Expr.{Expr}
use Rattle.resin_tree.specs.declared.expression.ArrayItem.{ArrayItem}
use Rattle.resin_tree.specs.declared.expression.ConstantName.{ConstantName}
use Rattle.resin_tree.specs.declared.expression.Import.{Import}
use Rattle.resin_tree.specs.declared.expression.Unary.{Unary}
use Rattle.resin_grammar.specs.declared.sign.Sign.{Sign}
use Rattle.resin_grammar.specs.declared.sign.Sign.TheVariants as s
use Rattle.resin_grammar.specs.declared.operators.Prefix.{Prefix}
use Rattle.resin_grammar.specs.declared.operators.Prefix.TheVariants as prefix
use Rattle.resin_grammar.specs.declared.operators.Writing.{Writing}
use Rattle.resin_grammar.specs.declared.operators.Writing.TheVariants as write
use Rattle.resin_grammar.specs.Signs.{is_sign}
use Rattle.resin_grammar.specs.Operators.{level_of, groups, operator_of, prefix_of, writing_of, import_of, constant_of}
use Rattle.resin_grammar.specs.Heights.{height}
use Rattle.resin_grammar.specs.Places.{Place, place, at_index, at_next, at_property, has_next, tree_of, target_of, place_height}
use Rattle.resin_grammar.specs.declared.place.Operand.{Operand}
use Rattle.resin_grammar.specs.declared.place.Operand.TheVariants.{Target, Tree, Closed}
use Rattle.resin_grammar.specs.Trees as tree
use Rattle.resin_grammar.specs.Names.{Name, Level, Bracketed, Index, IndexOrNext, Items, Arguments}
use Rattle.resin_grammar.specs.Names.{Asked, Changed, Branches, Otherwise, Interpolated, Value}

abbrev pub Rule : Type 0 → Type 1
Rule A = Form Token Name Value A

abbrev pub Behind : Begin → Type 0 → Type 1
Behind b A = After Token Name Value b A

-- one token that stands for itself
unfoldable pub expects : Sign → Rule (Unit {0})
expects sign = next (λ t. is_sign sign t.kind) (λ _. taken (give tt))

-- the same, or nothing: whether it stood there
unfoldable pub eats : Sign → Rule Bool
eats sign = maybe (λ t. is_sign sign t.kind) (λ _. taken (give true)) false

-- a token that opens what this name stands for, to the right of a tree of this height
abbrev pub opened : {A : Type 0} → ℕ → (n : Name) → (Value n → Rule A) → Behind Named A
opened high n F = opens high (followed (call n) F)

-- the name or the variable's name that a token spells
abbrev pub name_of : TokenKind → List ℕ
name_of (k.Name n) = n
name_of (k.Variable n) = n
name_of _ = []

abbrev pub is_name : TokenKind → Bool
is_name (k.Name n) = true
is_name _ = false

abbrev pub is_variable : TokenKind → Bool
is_variable (k.Variable n) = true
is_variable _ = false

-- a name
unfoldable pub a_name : Rule (List ℕ)
a_name = next (λ t. is_name t.kind) (λ t. taken (give (name_of t.kind)))

-- ---- level 1: operands

-- `f (` and what follows
unfoldable pub function_call : List ℕ → Behind Named Operand
function_call f = opened 0 Arguments (λ es. give (Tree (tree.function_call f es)))

-- a name: a call, or a constant that stands alone
abbrev pub called_or : Option ConstantName → List ℕ → Rule Operand
called_or (Some c) f = maybe (λ t. is_sign s.LeftRound t.kind) (λ _. function_call f) (Tree (tree.constant c))
called_or None f = next (λ t. is_sign s.LeftRound t.kind) (λ _. function_call f)

unfoldable pub named : List ℕ → Rule Operand
named f = called_or (constant_of f) f

unfoldable pub bracketed : Behind Named Operand
bracketed = opened 0 Bracketed (λ e. give (Tree e))

unfoldable pub array : Sign → Behind Named Operand
array close = opened 0 (Items close) (λ items. give (Tree (tree.array items)))

-- `array(..)`
unfoldable pub long_array : Rule Operand
long_array = next (λ t. is_sign s.LeftRound t.kind) (λ _. array s.RightRound)

-- `new C` and `new C(..)` take no postfix
unfoldable pub new_arguments : List ℕ → Behind Named Operand
new_arguments c = opened 0 Arguments (λ es. give (Closed (tree.new_object c es)))

unfoldable pub new_of : List ℕ → Rule Operand
new_of c = maybe (λ t. is_sign s.LeftRound t.kind) (λ _. new_arguments c) (Closed (tree.new_object c []))

unfoldable pub new_object : Rule Operand
new_object = a_name >>= new_of

-- `parent::m(..)`
unfoldable pub parent_arguments : List ℕ → Behind Named Operand
parent_arguments m = opened 0 Arguments (λ es. give (Tree (tree.parent_call m es)))

unfoldable pub parent_method : List ℕ → Rule Operand
parent_method m = next (λ t. is_sign s.LeftRound t.kind) (λ _. parent_arguments m)

unfoldable pub parent_call : Rule Operand
parent_call = expects s.DoubleColon >> a_name >>= parent_method

unfoldable pub asked : Behind Named Operand
asked = opened 0 Asked (λ es. give (Tree (tree.isset es)))

unfoldable pub isset : Rule Operand
isset = next (λ t. is_sign s.LeftRound t.kind) (λ _. asked)

unfoldable pub emptied : Behind Named Operand
emptied = opened 0 Bracketed (λ e. give (Tree (tree.empty e)))

unfoldable pub empty : Rule Operand
empty = next (λ t. is_sign s.LeftRound t.kind) (λ _. emptied)

-- ---- texts with interpolation

-- the key behind a variable in a text, or its property
abbrev pub is_simple_postfix : TokenKind → Bool
is_simple_postfix (k.IndexText x) = true
is_simple_postfix (k.IndexVariable v) = true
is_simple_postfix (k.Property p) = true
is_simple_postfix _ = false

unfoldable pub text_index : List ℕ → List ℕ → Behind Named Expr
text_index v x = opens 0 (plain (give (tree.index (tree.variable v) (tree.text x))))

unfoldable pub variable_index : List ℕ → List ℕ → Behind Named Expr
variable_index v w = opens 0 (plain (give (tree.index (tree.variable v) (tree.variable w))))

unfoldable pub text_property : List ℕ → List ℕ → Rule Expr
text_property v p = give (tree.property (tree.variable v) p)

unfoldable pub text_variable : List ℕ → Rule Expr
text_variable v = give (tree.variable v)

-- a key in its brackets is one token, which opens and closes them
abbrev pub simple_postfix : List ℕ → TokenKind → Behind Named Expr
simple_postfix v (k.IndexText x) = text_index v x
simple_postfix v (k.IndexVariable w) = variable_index v w
simple_postfix v (k.Property p) = plain (text_property v p)
simple_postfix v _ = plain (text_variable v)

unfoldable pub simple : List ℕ → Rule Expr
simple v = maybe (λ t. is_simple_postfix t.kind) (λ t. simple_postfix v t.kind) (tree.variable v)

unfoldable pub interpolated : Behind Named Expr
interpolated = opened 0 Interpolated (λ e. give e)

abbrev pub begins_part : TokenKind → Bool
begins_part (k.Stretch x) = true
begins_part (k.Variable v) = true
begins_part k.BraceOpen = true
begins_part _ = false

unfoldable pub stretch : List ℕ → Rule Expr
stretch x = give (tree.text x)

abbrev pub part : TokenKind → Behind Named Expr
part (k.Stretch x) = plain (stretch x)
part (k.Variable v) = plain (simple v)
part _ = interpolated

unfoldable pub part_after : List Expr → TokenKind → Behind Named (List Expr)
part_after es kind = followed (part kind) (λ e. give (es ++ e ∷ []))

unfoldable pub parts : List Expr → Rule (List Expr)
parts es = many (λ _ t. begins_part t.kind) (λ es t. part_after es t.kind) es

unfoldable pub text : Rule Operand
text = parts [] >>= λ es. expects s.TextClose >> give (Tree (tree.join es))

-- ---- the token that begins an operand, and what follows it

abbrev pub begins_operand : TokenKind → Bool
begins_operand (k.Int n) = true
begins_operand (k.Text x) = true
begins_operand (k.Variable v) = true
begins_operand (k.Name n) = true
begins_operand (k.Mark m.LeftRound) = true
begins_operand (k.Mark m.LeftSquare) = true
begins_operand (k.Keyword word.Array) = true
begins_operand (k.Keyword word.New) = true
begins_operand (k.Keyword word.Parent) = true
begins_operand (k.Keyword word.Isset) = true
begins_operand (k.Keyword word.Empty) = true
begins_operand k.TextOpen = true
begins_operand _ = false

unfoldable pub literal_text : List ℕ → Rule Operand
literal_text x = give (Tree (tree.text x))

unfoldable pub variable_target : List ℕ → Rule Operand
variable_target v = give (Target (place v))

abbrev pub first_operand : TokenKind → Behind Named Operand
first_operand (k.Int n) = plain (give (Tree (tree.int n)))
first_operand (k.Text x) = plain (literal_text x)
first_operand (k.Variable v) = plain (variable_target v)
first_operand (k.Name n) = plain (named n)
first_operand (k.Mark m.LeftRound) = bracketed
first_operand (k.Mark m.LeftSquare) = array s.RightSquare
first_operand (k.Keyword word.Array) = plain long_array
first_operand (k.Keyword word.New) = plain new_object
first_operand (k.Keyword word.Parent) = plain parent_call
first_operand (k.Keyword word.Isset) = plain isset
first_operand (k.Keyword word.Empty) = plain empty
first_operand _ = plain text

unfoldable pub any_operand : Rule Operand
any_operand = next (λ t. begins_operand t.kind) (λ t. first_operand t.kind)

-- ---- postfixes

-- behind a tree: `[e]`, `->p` and `->m(..)`
unfoldable pub index_of_tree : Expr → Behind Named Expr
index_of_tree e = opened (height e) Index (λ i. give (tree.index e i))

unfoldable pub method_of_tree : Expr → List ℕ → Behind Named Expr
method_of_tree e m = opened 0 Arguments (λ es. give (tree.method_call e m es))

unfoldable pub named_member : Expr → List ℕ → Rule Expr
named_member e n = maybe (λ t. is_sign s.LeftRound t.kind) (λ _. method_of_tree e n) (tree.property e n)

unfoldable pub member_of_tree : Expr → Behind Named Expr
member_of_tree e = stands (height e) (plain (a_name >>= named_member e))

abbrev pub is_postfix : TokenKind → Bool
is_postfix kind = is_sign s.LeftSquare kind || is_sign s.Arrow kind

unfoldable pub postfix : Expr → TokenKind → Behind Named Expr
postfix e kind = one_of (is_sign s.LeftSquare kind) (index_of_tree e) (member_of_tree e)

unfoldable pub postfixes : Expr → Rule Expr
postfixes e = many (λ _ t. is_postfix t.kind) (λ e t. postfix e t.kind) e

-- behind a target: these, and `[]`. What a method answers is a target no more.
abbrev pub at_bracket : Place → Option Expr → Place
at_bracket p (Some e) = at_index p e
at_bracket p None = at_next p

unfoldable pub index_of_target : Place → Behind Named Operand
index_of_target p = opened (place_height p) IndexOrNext (λ i. give (Target (at_bracket p i)))

unfoldable pub method_of_target : Place → List ℕ → Behind Named Operand
method_of_target p m = opened 0 Arguments (λ es. give (Tree (tree.method_call (tree_of p) m es)))

unfoldable pub property_of_target : Place → List ℕ → Rule Operand
property_of_target p n = give (Target (at_property p n))

unfoldable pub named_of_target : Place → List ℕ → Rule Operand
named_of_target p n = maybe (λ t. not (has_next p) && is_sign s.LeftRound t.kind) (λ _. method_of_target p n) (Target (at_property p n))

unfoldable pub member_of_target : Place → Behind Named Operand
member_of_target p = stands (place_height p) (plain (a_name >>= named_of_target p))

unfoldable pub target_postfix : Place → TokenKind → Behind Named Operand
target_postfix p kind = one_of (is_sign s.LeftSquare kind) (index_of_target p) (member_of_target p)

abbrev pub takes_postfix : Operand → TokenKind → Bool
takes_postfix (Target p) kind = is_postfix kind
takes_postfix (Tree e) kind = false
takes_postfix (Closed e) kind = false

abbrev pub operand_postfix : Operand → TokenKind → Behind Named Operand
operand_postfix (Target p) kind = target_postfix p kind
operand_postfix (Tree e) kind = plain (give (Tree e))
operand_postfix (Closed e) kind = plain (give (Closed e))

unfoldable pub target_postfixes : Operand → Rule Operand
target_postfixes o = many (λ o t. takes_postfix o t.kind) (λ o t. operand_postfix o t.kind) o

-- ---- the end of an operand: a target may be written to

-- `= e` and its kin, `++` and `--`
unfoldable pub assigned : Writing → Place → Behind Named Expr
assigned w p = opened (place_height p) (Level 14) (λ e. give (tree.assignment w (target_of p) e))

unfoldable pub incremented : Place → Behind Named Expr
incremented p = stands (place_height p) (plain (give (tree.post_increment (target_of p))))

unfoldable pub decremented : Place → Behind Named Expr
decremented p = stands (place_height p) (plain (give (tree.post_decrement (target_of p))))

abbrev pub written : Option Writing → Place → Behind Named Expr
written (Some write.Increment) p = incremented p
written (Some write.Decrement) p = decremented p
written (Some w) p = assigned w p
written None p = assigned write.Assign p

unfoldable pub read_target : Place → Rule Expr
read_target p = give (tree_of p)

-- behind a target that holds `[]` only `=` may stand
abbrev pub target_end : Bool → Place → Rule Expr
target_end true p = next (λ t. is_sign s.Assign t.kind) (λ _. assigned write.Assign p)
target_end false p = maybe (λ t. is_some (writing_of t.kind)) (λ t. written (writing_of t.kind) p) (tree_of p)

abbrev pub operand_end : Operand → Rule Expr
operand_end (Target p) = target_end (has_next p) p
operand_end (Tree e) = postfixes e
operand_end (Closed e) = give e

unfoldable pub operand : Rule Expr
operand = any_operand >>= target_postfixes >>= operand_end

-- a target alone: a variable with `[e]` and `->p`
unfoldable pub step_index : Place → Behind Named Place
step_index p = opened (place_height p) Index (λ i. give (at_index p i))

unfoldable pub step_property : Place → Behind Named Place
step_property p = stands (place_height p) (plain (a_name >>= λ n. give (at_property p n)))

unfoldable pub step : Place → TokenKind → Behind Named Place
step p kind = one_of (is_sign s.LeftSquare kind) (step_index p) (step_property p)

unfoldable pub steps : Place → Rule Place
steps p = many (λ _ t. is_postfix t.kind) (λ p t. step p t.kind) p

unfoldable pub target : Rule Place
target = next (λ t. is_variable t.kind) (λ t. taken (steps (place (name_of t.kind))))

-- ---- levels 2 to 4

unfoldable pub unary_of : Unary → Behind Named Expr
unary_of op = opened 0 (Level 2) (λ e. give (tree.unary op e))

unfoldable pub increment_of : Behind Named Expr
increment_of = opened 0 Changed (λ p. give (tree.pre_increment (target_of p)))

unfoldable pub decrement_of : Behind Named Expr
decrement_of = opened 0 Changed (λ p. give (tree.pre_decrement (target_of p)))

abbrev pub prefixed : Option Prefix → Behind Named Expr
prefixed (Some (prefix.Unary op)) = unary_of op
prefixed (Some prefix.Increment) = increment_of
prefixed (Some prefix.Decrement) = decrement_of
prefixed None = decrement_of

-- behind a token that begins a prefix form: what it gives, as the form before it was none
abbrev pub given : {b : Begin} → Behind b Expr → Behind b (Option Expr)
given F = followed F (λ e. give (Some e))

unfoldable pub prefix_form : Rule (Option Expr)
prefix_form = maybe (λ t. is_some (prefix_of t.kind)) (λ t. given (prefixed (prefix_of t.kind))) None

-- level 2
unfoldable pub unary : Rule Expr
unary = prefix_form >>= or_else operand

-- `instanceof C`
unfoldable pub instance_of : Expr → Behind Named Expr
instance_of e = stands (height e) (plain (a_name >>= λ c. give (tree.instance_of e c)))

unfoldable pub class_test : Expr → Rule Expr
class_test e = maybe (λ t. is_sign s.InstanceOf t.kind) (λ _. instance_of e) e

-- level 3
unfoldable pub tested : Rule Expr
tested = unary >>= class_test

unfoldable pub negation : Behind Named Expr
negation = opened 0 (Level 4) (λ e. give (tree.not_of e))

unfoldable pub not_form : Rule (Option Expr)
not_form = maybe (λ t. is_sign s.Not t.kind) (λ _. given negation) None

-- level 4
unfoldable pub negated : Rule Expr
negated = not_form >>= or_else tested

-- ---- levels 5 to 12

-- an operator of a level, and the operand to its right
unfoldable pub joined : ℕ → Expr → TokenKind → Behind Named Expr
joined level left kind = opened (height left) (Level (level - 1)) (λ right. give (tree.binary (operator_of kind) left right))

-- operators of a level again and again, grouped to the left
unfoldable pub chain : ℕ → Expr → Rule Expr
chain level left = many (λ _ t. level_of t.kind == level) (λ left t. joined level left t.kind) left

-- one, or none
unfoldable pub once : ℕ → Expr → Rule Expr
once level left = maybe (λ t. level_of t.kind == level) (λ t. joined level left t.kind) left

unfoldable pub operations : ℕ → Expr → Rule Expr
operations level left = either (groups level) (chain level left) (once level left)

-- level 4 + n
unfoldable pub binaries : ℕ → Rule Expr
binaries zero = negated
binaries (suc n) = binaries n >>= operations (n + 5)

-- `?? b`
unfoldable pub default_of : Expr → Behind Named Expr
default_of a = opened (height a) (Level 12) (λ b. give (tree.coalesce a b))

unfoldable pub defaulted : Expr → Rule Expr
defaulted a = maybe (λ t. is_sign s.Coalesce t.kind) (λ _. default_of a) a

-- level 12

unfoldable pub coalesced : Rule Expr
coalesced = binaries 7 >>= defaulted

-- ---- levels 13 and 14

-- behind `c ?`: the tree, and whether it may be the c of another `?:`
unfoldable pub branches : Expr → Behind Named (Expr × Bool)
branches c = opened (height c) Branches (λ ab. give (tree.choice c ab.0 ab.1, is_none ab.0))

unfoldable pub first_choice : Expr → Rule (Expr × Bool)
first_choice c = maybe (λ t. is_sign s.Question t.kind) (λ _. branches c) (c, false)

unfoldable pub otherwise : Expr → Behind Named Expr
otherwise c = opened (height c) Otherwise (λ b. give (tree.choice c None b))

-- `?:` again and again
unfoldable pub shorts : Expr → Rule Expr
shorts c = many (λ _ t. is_sign s.Question t.kind) (λ c _. otherwise c) c

abbrev pub goes_on : Expr × Bool → Rule Expr
goes_on e = either e.1 (shorts e.0) (give e.0)

unfoldable pub choice : Expr → Rule Expr
choice c = first_choice c >>= goes_on

-- level 13
unfoldable pub chosen : Rule Expr
chosen = coalesced >>= choice

unfoldable pub imported : Option Import → Behind Named Expr
imported kind = opened 0 (Level 14) (λ e. give (tree.import_by kind e))

unfoldable pub import_form : Rule (Option Expr)
import_form = maybe (λ t. is_some (import_of t.kind)) (λ t. given (imported (import_of t.kind))) None

-- level 14: a whole expression
unfoldable pub expression : Rule Expr
expression = import_form >>= or_else chosen

-- an expression of level 2, or of one from 4 on: the levels that a right operand may have
unfoldable pub level : ℕ → Rule Expr
level n = either (nat_le n 2) unary (either (nat_le n 11) (binaries (n - 4)) (either (nat_le n 12) coalesced expression))

-- ---- what the names stand for

-- `e` and then this bracket
unfoldable pub closed_by : Sign → Rule Expr
closed_by close = expression >>= λ e. expects close >> give e

abbrev pub index_unless : Bool → Rule (Option Expr)
index_unless true = give None
index_unless false = closed_by s.RightSquare >>= λ e. give (Some e)

unfoldable pub index_or_next : Rule (Option Expr)
index_or_next = eats s.RightSquare >>= index_unless

-- `e` or `e => e`, behind the items so far
abbrev pub valued : List ArrayItem → Expr → Bool → Rule (List ArrayItem)
valued items a true = expression >>= λ v. give (items ++ tree.item (Some a) v ∷ [])
valued items a false = give (items ++ tree.item None a ∷ [])

unfoldable pub pair_after : List ArrayItem → Rule (List ArrayItem)
pair_after items = expression >>= λ a. eats s.FatArrow >>= valued items a

-- the items so far, and whether the bracket has come
abbrev pub item_unless : List ArrayItem → Bool → Rule (List ArrayItem × Bool)
item_unless items true = give (items, true)
item_unless items false = pair_after items >>= λ longer. give (longer, false)

-- the closing bracket, or an item
unfoldable pub item : Sign → List ArrayItem → Rule (List ArrayItem × Bool)
item close items = eats close >>= item_unless items

unfoldable pub more_items : Sign → List ArrayItem × Bool → Rule (List ArrayItem × Bool)
more_items close done = many (λ done t. not done.1 && is_sign s.Comma t.kind) (λ done _. taken (item close done.0)) done

-- the closing bracket, unless it has come
abbrev pub ended : {A : Type 0} → Sign → A × Bool → Rule A
ended close done = either done.1 (give done.0) (expects close >> give done.0)

unfoldable pub items : Sign → Rule (List ArrayItem)
items close = item close [] >>= more_items close >>= ended close

abbrev pub argument_unless : List Expr → Bool → Rule (List Expr × Bool)
argument_unless es true = give (es, true)
argument_unless es false = expression >>= λ e. give (es ++ e ∷ [], false)

-- the closing bracket, or an argument
unfoldable pub argument : List Expr → Rule (List Expr × Bool)
argument es = eats s.RightRound >>= argument_unless es

unfoldable pub more_arguments : List Expr × Bool → Rule (List Expr × Bool)
more_arguments done = many (λ done t. not done.1 && is_sign s.Comma t.kind) (λ done _. taken (argument done.0)) done

unfoldable pub arguments : Rule (List Expr)
arguments = argument [] >>= more_arguments >>= ended s.RightRound

-- an operand of `isset`: a variable with `[e]` and `->p`, read as an expression
unfoldable pub asked_property : Expr → Behind Named Expr
asked_property e = stands (height e) (plain (a_name >>= λ n. give (tree.property e n)))

unfoldable pub asked_step : Expr → TokenKind → Behind Named Expr
asked_step e kind = one_of (is_sign s.LeftSquare kind) (index_of_tree e) (asked_property e)

unfoldable pub asked_steps : Expr → Rule Expr
asked_steps e = many (λ _ t. is_postfix t.kind) (λ e t. asked_step e t.kind) e

unfoldable pub asked_operand : Rule Expr
asked_operand = next (λ t. is_variable t.kind) (λ t. taken (asked_steps (tree.variable (name_of t.kind))))

unfoldable pub one_asked : List Expr → Rule (List Expr)
one_asked es = asked_operand >>= λ e. give (es ++ e ∷ [])

unfoldable pub more_asked : List Expr → Rule (List Expr)
more_asked es = many (λ _ t. is_sign s.Comma t.kind) (λ es _. taken (one_asked es)) es

unfoldable pub all_asked : Rule (List Expr)
all_asked = one_asked [] >>= more_asked >>= λ es. expects s.RightRound >> give es

-- `: b`
unfoldable pub otherwise_branch : Rule Expr
otherwise_branch = expects s.Colon >> coalesced

abbrev pub branches_by : Bool → Rule (Option Expr × Expr)
branches_by true = coalesced >>= λ b. give (None, b)
branches_by false = closed_by s.Colon >>= λ a. coalesced >>= λ b. give (Some a, b)

unfoldable pub both_branches : Rule (Option Expr × Expr)
both_branches = eats s.Colon >>= branches_by

-- a variable with its postfixes, and the closing brace
unfoldable pub braced_value : Rule Expr
braced_value = next (λ t. is_variable t.kind) (λ t. taken (postfixes (tree.variable (name_of t.kind))))

unfoldable pub braced : Rule Expr
braced = braced_value >>= λ e. expects s.RightBrace >> give e

abbrev pub rules : (n : Name) → Behind Own (Value n)
rules (Level n) = plain (level n)
rules Bracketed = plain (closed_by s.RightRound)
rules Index = plain (closed_by s.RightSquare)
rules IndexOrNext = plain index_or_next
rules (Items close) = plain (items close)
rules Arguments = plain arguments
rules Asked = plain all_asked
rules Changed = plain target
rules Branches = plain both_branches
rules Otherwise = plain otherwise_branch
rules Interpolated = plain braced
