-- The programs of Expressions are framed.
use Rattle.std.specs.Prelude.{ℕ}
use Rattle.std.specs.Prelude.{List, [], ◌∷◌, ◌++◌, Bool, true, false, not, if◌then◌else◌, Option, None, Some}
use Rattle.resin_meaning_forms.specs.Under.lstr.Texts.{Text as LabelledText}
use Rattle.resin_meaning_forms.specs.Under.value.declared.key.Key.{Key}
use Rattle.resin_meaning_forms.specs.Under.value.declared.value.Value.{Value}
use Rattle.resin_meaning_forms.specs.Under.value.declared.value.Value.TheVariants.{Bool as Boolean, Arr}
use Rattle.resin_meaning_forms.specs.Under.value.Trees.{Tree, text}
use Rattle.resin_meaning_forms.specs.Under.value.Seen.{tree_of, trees_of}
use Rattle.resin_meaning_forms.specs.Under.value.Values.{value_of}
use Rattle.resin_meaning_forms.specs.Under.value.Arrays.{Array}
use Rattle.resin_meaning_forms.specs.Under.value.Changes.{empty}
use Rattle.resin_meaning_forms.specs.Under.value.Compare.{is_true}
use Rattle.resin_meaning_forms.specs.Under.ops.Conversions.{text_of}
use Rattle.resin_meaning_forms.specs.Under.array_fn.Filled.{added_at}
use Rattle.resin_meaning_forms.specs.Under.tree.declared.expression.Access.{Access, Access-F, out-Access}
use Rattle.resin_meaning_forms.specs.Under.tree.declared.expression.ArrayItem.{ArrayItem}
use Rattle.resin_meaning_forms.specs.Under.tree.declared.expression.Expr.{Expr, Expr-F, out-Expr}
use Rattle.resin_meaning_forms.specs.Under.tree.declared.expression.Operation.{Operation, Operation-F, out-Operation}
use Rattle.resin_meaning_forms.specs.Under.tree.declared.expression.Test.{Test, Test-F, out-Test}
use Rattle.resin_meaning_forms.specs.Under.machine.Variables.{read}
use Rattle.resin_meaning_forms.specs.Under.meaning.Programs.{Prog, give, act, ◌>>=◌}
use Rattle.resin_meaning_forms.specs.Parts.{Evals, computed, charged, given, ◌>>◌}
use Rattle.resin_meaning_forms.specs.Operands.{is_nothing, keyed, index_of, soft_index_of, property_of}
use Rattle.resin_meaning_forms.specs.Invoke.{literal_of}
use Rattle.resin_meaning_forms.specs.Operators.{unary, combined, compared, instance_of, too_long}
use Rattle.resin_meaning_forms.specs.Assignments.{assignment_form}
use Rattle.resin_meaning_forms.specs.Calls.{values, call_form}
use Rattle.resin_meaning_forms.specs.Expressions.{item_key, turned_key, items, array_form, joined, interpolated, access_form, operation_form, holds, all_set, test_form, expr_form, soft_access_form, soft_form}
use Rattle.resin_frame.specs.Frames.{IsFramed}
use Rattle.resin_frame.proofs.Frames.{FramedEvals, framing}
use Rattle.resin_frame.proofs.framed_forms.Operands.{index_of_framed, keyed_framed, property_of_framed, soft_index_of_framed}
use Rattle.resin_frame.proofs.framed_forms.Parts.{charged_framed, given_framed}
use Rattle.resin_frame.proofs.framed_forms.Calls.{call_form_framed, values_framed}
use Rattle.resin_frame.proofs.framed_forms.Operators.{combined_framed, compared_framed, instance_of_framed, unary_framed}
use Rattle.resin_frame.proofs.framed_forms.Assignments.{assignment_form_framed}

pub item_key_framed : {own : Option (List ℕ)} (ev : Evals) (a1 : Option Expr) → FramedEvals own ev → IsFramed {A = (Option Value)} own (item_key ev a1)
item_key_framed ev None h = search framing depth 12
item_key_framed ev (Some e) h = search (framing, h.expr) depth 12

pub turned_key_framed : {own : Option (List ℕ)} (a0 : Option Value) → IsFramed {A = (Option Key)} own (turned_key a0)
turned_key_framed None = search framing depth 12
turned_key_framed (Some k) = search (framing, keyed_framed) depth 12

pub items_framed : {own : Option (List ℕ)} (ev : Evals) (a : Array) (a2 : List ArrayItem) → FramedEvals own ev → IsFramed {A = Array} own (items ev a a2)
items_framed ev a [] h = search framing depth 12
items_framed {own = own} ev a (i ∷ is) h = let ih = λ (y1 : Array). items_framed {own = own} ev y1 is h in search (framing, item_key_framed, turned_key_framed, h.expr, ih) depth 12

pub array_form_framed : {own : Option (List ℕ)} (ev : Evals) (is : List ArrayItem) → FramedEvals own ev → IsFramed {A = Value} own (array_form ev is)
array_form_framed ev is h = search (framing, items_framed) depth 12

pub joined_framed : {own : Option (List ℕ)} (t : LabelledText) (a1 : List Tree) → IsFramed {A = LabelledText} own (joined t a1)
joined_framed t [] = search framing depth 12
joined_framed {own = own} t (v ∷ vs) = let ih = λ (y0 : LabelledText). joined_framed {own = own} y0 vs in search (framing, ih) depth 12

pub interpolated_framed : {own : Option (List ℕ)} (ev : Evals) (es : List Expr) → FramedEvals own ev → IsFramed {A = Value} own (interpolated ev es)
interpolated_framed ev es h = search (framing, charged_framed, given_framed, values_framed, joined_framed) depth 12

pub access_form_framed : {own : Option (List ℕ)} (ev : Evals) (a : Access) → FramedEvals own ev → IsFramed {A = Value} own (access_form ev a)
access_form_framed {own = own} ev a h = elim (out-Access a) as (λ x. IsFramed {A = Value} own (elim x [
  | Access-F.«Access::Index» b e ↦ ev.expr b >>= λ v. ev.expr e >>= λ k. index_of v k
  | Access-F.«Access::Property» b p ↦ ev.expr b >>= λ v. property_of v p
])) [
  | Access-F.«Access::Index» b e ↦ search (framing, index_of_framed, property_of_framed, h.expr) depth 12
  | Access-F.«Access::Property» b p ↦ search (framing, index_of_framed, property_of_framed, h.expr) depth 12
]

pub operation_form_framed : {own : Option (List ℕ)} (ev : Evals) (o : Operation) → FramedEvals own ev → IsFramed {A = Value} own (operation_form ev o)
operation_form_framed {own = own} ev o h = elim (out-Operation o) as (λ x. IsFramed {A = Value} own (elim x [
  | Operation-F.Unary op a ↦ ev.expr a >>= λ x. unary ev op x
  | Operation-F.Combine op a b ↦ ev.expr a >>= λ x. ev.expr b >>= λ y. combined ev op x y
  | Operation-F.Compare op a b ↦ ev.expr a >>= λ x. ev.expr b >>= λ y. compared op x y
  | Operation-F.InstanceOf a c ↦ ev.expr a >>= λ x. instance_of c x
])) [
  | Operation-F.Unary op a ↦ search (framing, combined_framed, unary_framed, compared_framed, instance_of_framed, h.expr) depth 12
  | Operation-F.Combine op a b ↦ search (framing, combined_framed, unary_framed, compared_framed, instance_of_framed, h.expr) depth 12
  | Operation-F.Compare op a b ↦ search (framing, combined_framed, unary_framed, compared_framed, instance_of_framed, h.expr) depth 12
  | Operation-F.InstanceOf a c ↦ search (framing, combined_framed, unary_framed, compared_framed, instance_of_framed, h.expr) depth 12
]

pub all_set_framed : {own : Option (List ℕ)} (ev : Evals) (a1 : List Expr) → FramedEvals own ev → IsFramed {A = Value} own (all_set ev a1)
all_set_framed ev [] h = search framing depth 12
all_set_framed {own = own} ev (e ∷ es) h = let ih = all_set_framed {own = own} ev es h in search (framing, h.soft) depth 12

pub test_form_framed : {own : Option (List ℕ)} (ev : Evals) (t : Test) → FramedEvals own ev → IsFramed {A = Value} own (test_form ev t)
test_form_framed {own = own} ev t h = elim (out-Test t) as (λ x. IsFramed {A = Value} own (elim x [
  | Test-F.And a b ↦ ev.expr a >>= λ x. if holds x then (ev.expr b >>= λ y. give (Boolean (holds y))) else give (Boolean false)
  | Test-F.Or a b ↦ ev.expr a >>= λ x. if holds x then give (Boolean true) else (ev.expr b >>= λ y. give (Boolean (holds y)))
  | Test-F.Coalesce a b ↦ ev.soft a >>= λ x. if is_nothing x then ev.expr b else give x
  | Test-F.Choice c a b ↦ ev.expr c >>= λ x. if holds x then ev.expr a else ev.expr b
  | Test-F.Either c b ↦ ev.expr c >>= λ x. if holds x then give x else ev.expr b
  | Test-F.Isset es ↦ all_set ev es
  | Test-F.Empty e ↦ ev.soft e >>= λ x. give (Boolean (not (holds x)))
])) [
  | Test-F.And a b ↦ search (framing, all_set_framed, h.expr, h.soft) depth 12
  | Test-F.Or a b ↦ search (framing, all_set_framed, h.expr, h.soft) depth 12
  | Test-F.Coalesce a b ↦ search (framing, all_set_framed, h.expr, h.soft) depth 12
  | Test-F.Choice c a b ↦ search (framing, all_set_framed, h.expr, h.soft) depth 12
  | Test-F.Either c b ↦ search (framing, all_set_framed, h.expr, h.soft) depth 12
  | Test-F.Isset es ↦ search (framing, all_set_framed, h.expr, h.soft) depth 12
  | Test-F.Empty e ↦ search (framing, all_set_framed, h.expr, h.soft) depth 12
]

pub expr_form_framed : {own : Option (List ℕ)} (ev : Evals) (e : Expr) → FramedEvals own ev → IsFramed {A = Value} own (expr_form ev e)
expr_form_framed {own = own} ev e h = elim (out-Expr e) as (λ x. IsFramed {A = Value} own (elim x [
  | Expr-F.Literal l ↦ give (value_of (literal_of l))
  | Expr-F.Variable x ↦ act (read x)
  | Expr-F.Array is ↦ array_form ev is
  | Expr-F.Join es ↦ interpolated ev es
  | Expr-F.Access a ↦ access_form ev a
  | Expr-F.Operation o ↦ operation_form ev o
  | Expr-F.Test t ↦ test_form ev t
  | Expr-F.Assignment a ↦ assignment_form ev a
  | Expr-F.Call c ↦ call_form ev c
])) [
  | Expr-F.Literal l ↦ search (framing, call_form_framed, assignment_form_framed, array_form_framed, interpolated_framed, access_form_framed, operation_form_framed, test_form_framed) depth 12
  | Expr-F.Variable x ↦ search (framing, call_form_framed, assignment_form_framed, array_form_framed, interpolated_framed, access_form_framed, operation_form_framed, test_form_framed) depth 12
  | Expr-F.Array is ↦ search (framing, call_form_framed, assignment_form_framed, array_form_framed, interpolated_framed, access_form_framed, operation_form_framed, test_form_framed) depth 12
  | Expr-F.Join es ↦ search (framing, call_form_framed, assignment_form_framed, array_form_framed, interpolated_framed, access_form_framed, operation_form_framed, test_form_framed) depth 12
  | Expr-F.Access a ↦ search (framing, call_form_framed, assignment_form_framed, array_form_framed, interpolated_framed, access_form_framed, operation_form_framed, test_form_framed) depth 12
  | Expr-F.Operation o ↦ search (framing, call_form_framed, assignment_form_framed, array_form_framed, interpolated_framed, access_form_framed, operation_form_framed, test_form_framed) depth 12
  | Expr-F.Test t ↦ search (framing, call_form_framed, assignment_form_framed, array_form_framed, interpolated_framed, access_form_framed, operation_form_framed, test_form_framed) depth 12
  | Expr-F.Assignment a ↦ search (framing, call_form_framed, assignment_form_framed, array_form_framed, interpolated_framed, access_form_framed, operation_form_framed, test_form_framed) depth 12
  | Expr-F.Call c ↦ search (framing, call_form_framed, assignment_form_framed, array_form_framed, interpolated_framed, access_form_framed, operation_form_framed, test_form_framed) depth 12
]

pub soft_access_form_framed : {own : Option (List ℕ)} (ev : Evals) (a : Access) → FramedEvals own ev → IsFramed {A = Value} own (soft_access_form ev a)
soft_access_form_framed {own = own} ev a h = elim (out-Access a) as (λ x. IsFramed {A = Value} own (elim x [
  | Access-F.«Access::Index» b e ↦ ev.soft b >>= λ v. ev.expr e >>= λ k. soft_index_of v k
  | Access-F.«Access::Property» b p ↦ ev.soft b >>= λ v. property_of v p
])) [
  | Access-F.«Access::Index» b e ↦ search (framing, soft_index_of_framed, property_of_framed, h.expr, h.soft) depth 12
  | Access-F.«Access::Property» b p ↦ search (framing, soft_index_of_framed, property_of_framed, h.expr, h.soft) depth 12
]

pub soft_form_framed : {own : Option (List ℕ)} (ev : Evals) (e : Expr) → FramedEvals own ev → IsFramed {A = Value} own (soft_form ev e)
soft_form_framed {own = own} ev e h = elim (out-Expr e) as (λ x. IsFramed {A = Value} own (elim x [
  | Expr-F.Access a ↦ soft_access_form ev a
  | Expr-F.Literal l ↦ expr_form ev e
  | Expr-F.Variable x ↦ expr_form ev e
  | Expr-F.Array is ↦ expr_form ev e
  | Expr-F.Join es ↦ expr_form ev e
  | Expr-F.Operation o ↦ expr_form ev e
  | Expr-F.Test t ↦ expr_form ev e
  | Expr-F.Assignment a ↦ expr_form ev e
  | Expr-F.Call c ↦ expr_form ev e
])) [
  | Expr-F.Access a ↦ search (framing, expr_form_framed, soft_access_form_framed) depth 12
  | Expr-F.Literal l ↦ search (framing, expr_form_framed, soft_access_form_framed) depth 12
  | Expr-F.Variable x ↦ search (framing, expr_form_framed, soft_access_form_framed) depth 12
  | Expr-F.Array is ↦ search (framing, expr_form_framed, soft_access_form_framed) depth 12
  | Expr-F.Join es ↦ search (framing, expr_form_framed, soft_access_form_framed) depth 12
  | Expr-F.Operation o ↦ search (framing, expr_form_framed, soft_access_form_framed) depth 12
  | Expr-F.Test t ↦ search (framing, expr_form_framed, soft_access_form_framed) depth 12
  | Expr-F.Assignment a ↦ search (framing, expr_form_framed, soft_access_form_framed) depth 12
  | Expr-F.Call c ↦ search (framing, expr_form_framed, soft_access_form_framed) depth 12
]
