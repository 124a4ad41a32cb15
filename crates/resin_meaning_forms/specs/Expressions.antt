-- Expressions (PHP manual, "Language Reference"). Each evaluation costs a tick at its start, and is open until it ends.
use Rattle.std.specs.Prelude.{List, [], ◌∷◌, ◌++◌, Bool, true, false, not, if◌then◌else◌, Option, None, Some}
use Rattle.resin_builtin.specs.Under.lstr.Texts.{Text as LabelledText}
use Rattle.resin_builtin.specs.Under.value.declared.key.Key.{Key}
use Rattle.resin_builtin.specs.Under.value.declared.value.Value.{Value}
use Rattle.resin_builtin.specs.Under.value.declared.value.Value.TheVariants.{Bool as Boolean, Arr}
use Rattle.resin_builtin.specs.Under.value.Trees.{Tree, text}
use Rattle.resin_builtin.specs.Under.value.Seen.{tree_of, trees_of}
use Rattle.resin_builtin.specs.Under.value.Values.{value_of}
use Rattle.resin_builtin.specs.Under.value.Arrays.{Array}
use Rattle.resin_builtin.specs.Under.value.Changes.{empty}
use Rattle.resin_builtin.specs.Under.value.Compare.{is_true}
use Rattle.resin_target.specs.Under.ops.Conversions.{text_of}
use Rattle.resin_builtin.specs.Under.array_fn.Filled.{added_at}
use Rattle.resin_target.specs.Under.tree.declared.expression.Access.{Access, Access-F, out-Access}
use Rattle.resin_target.specs.Under.tree.declared.expression.ArrayItem.{ArrayItem}
use Rattle.resin_target.specs.Under.tree.declared.expression.Expr.{Expr, Expr-F, out-Expr}
use Rattle.resin_target.specs.Under.tree.declared.expression.Operation.{Operation, Operation-F, out-Operation}
use Rattle.resin_target.specs.Under.tree.declared.expression.Test.{Test, Test-F, out-Test}
use Rattle.resin_target.specs.Under.machine.Variables.{read}
use Rattle.resin_meaning_tables.specs.Under.meaning.Programs.{Prog, give, act, ◌>>=◌}
use Rattle.resin_meaning_forms.specs.Parts.{Evals, computed, charged, given, ◌>>◌}
use Rattle.resin_meaning_forms.specs.Operands.{is_nothing, keyed, index_of, soft_index_of, property_of}
use Rattle.resin_meaning_forms.specs.Invoke.{literal_of}
use Rattle.resin_meaning_forms.specs.Operators.{unary, combined, compared, instance_of, too_long}
use Rattle.resin_meaning_forms.specs.Assignments.{assignment_form}
use Rattle.resin_meaning_forms.specs.Calls.{values, call_form}

-- ---- arrays and interpolation

abbrev pub item_key : Evals → Option Expr → Prog (Option Value)
item_key ev None = give None
item_key ev (Some e) = ev.expr e >>= λ k. give (Some k)

abbrev pub turned_key : Option Value → Prog (Option Key)
turned_key None = give None
turned_key (Some k) = keyed k >>= λ key. give (Some key)

-- the items of an array, one after the other: the key's expression, the value, and then the value is put at the key, or at the next one
abbrev pub items : Evals → Array → List ArrayItem → Prog Array
items ev a [] = give a
items ev a (i ∷ is) = do
  k ← item_key ev i.key
  v ← ev.expr i.value
  key ← turned_key k
  b ← computed (added_at key (tree_of v) a)
  items ev b is

abbrev pub array_form : Evals → List ArrayItem → Prog Value
array_form ev is = items ev empty is >>= λ a. give (Arr a)

-- values as texts, from the left, one behind the other
abbrev pub joined : LabelledText → List Tree → Prog LabelledText
joined t [] = give t
joined t (v ∷ vs) = do
  u ← computed (text_of v)
  both ← computed (too_long (t ++ u))
  joined both vs

-- a text with interpolation: all parts are evaluated, then charged, then turned into texts
abbrev pub interpolated : Evals → List Expr → Prog Value
interpolated ev es = do
  vs ← values ev es
  charged (trees_of vs)
  t ← joined [] (trees_of vs)
  given (text t)

-- ---- groups of forms

abbrev pub access_form : Evals → Access → Prog Value
access_form ev a = elim (out-Access a) [
  | Access-F.«Access::Index» b e ↦ ev.expr b >>= λ v. ev.expr e >>= λ k. index_of v k
  | Access-F.«Access::Property» b p ↦ ev.expr b >>= λ v. property_of v p
]

abbrev pub operation_form : Evals → Operation → Prog Value
operation_form ev o = elim (out-Operation o) [
  | Operation-F.Unary op a ↦ ev.expr a >>= λ x. unary ev op x
  | Operation-F.Combine op a b ↦ ev.expr a >>= λ x. ev.expr b >>= λ y. combined ev op x y
  | Operation-F.Compare op a b ↦ ev.expr a >>= λ x. ev.expr b >>= λ y. compared op x y
  | Operation-F.InstanceOf a c ↦ ev.expr a >>= λ x. instance_of c x
]

abbrev pub holds : Value → Bool
holds v = is_true (tree_of v)

-- each operand of `isset` in turn, up to the first that is null
abbrev pub all_set : Evals → List Expr → Prog Value
all_set ev [] = give (Boolean true)
all_set ev (e ∷ es) = ev.soft e >>= λ v. if is_nothing v then give (Boolean false) else all_set ev es

abbrev pub test_form : Evals → Test → Prog Value
test_form ev t = elim (out-Test t) [
  | Test-F.And a b ↦ ev.expr a >>= λ x. if holds x then (ev.expr b >>= λ y. give (Boolean (holds y))) else give (Boolean false)
  | Test-F.Or a b ↦ ev.expr a >>= λ x. if holds x then give (Boolean true) else (ev.expr b >>= λ y. give (Boolean (holds y)))
  | Test-F.Coalesce a b ↦ ev.soft a >>= λ x. if is_nothing x then ev.expr b else give x
  | Test-F.Choice c a b ↦ ev.expr c >>= λ x. if holds x then ev.expr a else ev.expr b
  | Test-F.Either c b ↦ ev.expr c >>= λ x. if holds x then give x else ev.expr b
  | Test-F.Isset es ↦ all_set ev es
  | Test-F.Empty e ↦ ev.soft e >>= λ x. give (Boolean (not (holds x)))
]

abbrev pub expr_form : Evals → Expr → Prog Value
expr_form ev e = elim (out-Expr e) [
  | Expr-F.Literal l ↦ give (value_of (literal_of l))
  | Expr-F.Variable x ↦ act (read x)
  | Expr-F.Array is ↦ array_form ev is
  | Expr-F.Join es ↦ interpolated ev es
  | Expr-F.Access a ↦ access_form ev a
  | Expr-F.Operation o ↦ operation_form ev o
  | Expr-F.Test t ↦ test_form ev t
  | Expr-F.Assignment a ↦ assignment_form ev a
  | Expr-F.Call c ↦ call_form ev c
]

-- ---- the same where a value is only asked for: along the postfixes

abbrev pub soft_access_form : Evals → Access → Prog Value
soft_access_form ev a = elim (out-Access a) [
  | Access-F.«Access::Index» b e ↦ ev.soft b >>= λ v. ev.expr e >>= λ k. soft_index_of v k
  | Access-F.«Access::Property» b p ↦ ev.soft b >>= λ v. property_of v p
]

abbrev pub soft_form : Evals → Expr → Prog Value
soft_form ev e = elim (out-Expr e) [
  | Expr-F.Access a ↦ soft_access_form ev a
  | Expr-F.Literal l ↦ expr_form ev e
  | Expr-F.Variable x ↦ expr_form ev e
  | Expr-F.Array is ↦ expr_form ev e
  | Expr-F.Join es ↦ expr_form ev e
  | Expr-F.Operation o ↦ expr_form ev e
  | Expr-F.Test t ↦ expr_form ev e
  | Expr-F.Assignment a ↦ expr_form ev e
  | Expr-F.Call c ↦ expr_form ev e
]
