-- The programs of Operators are framed.
use Rattle.std.specs.Prelude.{Option}
use Rattle.std.specs.Prelude.{ℕ, ℤ, pos, negsuc, ◌&&◌, ◌-ℤ◌, nat_le, List, ◌++◌, length, Bool, false, not, if◌then◌else◌, Result, Ok, Err}
use Rattle.std.specs.Option.{option_map_or}
use Rattle.std.specs.Ordering.{is_lt, is_le, is_gt, is_ge}
use Rattle.std.specs.declared.cmp.Ordering.{Ordering}
use Rattle.std.specs.declared.cmp.Ordering.TheVariants.{Less as Below, Equal as Same, Greater as Above}
use Rattle.resin_meaning_forms.specs.Under.label.Sets.{NumberSet, empty as no_labels}
use Rattle.resin_meaning_forms.specs.Under.lstr.declared.limits.TheConstants.{LONGEST}
use Rattle.resin_meaning_forms.specs.Under.lstr.Texts.{Text as LabelledText}
use Rattle.resin_meaning_forms.specs.Under.scalar.declared.faults.CallStop.{CallStop}
use Rattle.resin_meaning_forms.specs.Under.scalar.declared.faults.CallStop.TheVariants.{Fault as CallFault}
use Rattle.resin_meaning_forms.specs.Under.scalar.declared.faults.ScriptFault.TheVariants.{BadOperand, ObjectComparison, FloatNeeded, FuelSpent, TextTooLong}
use Rattle.resin_meaning_forms.specs.Under.scalar.declared.ticks.Spent.{Spent}
use Rattle.resin_meaning_forms.specs.Under.value.declared.compare.CompareFault.{CompareFault}
use Rattle.resin_meaning_forms.specs.Under.value.declared.compare.CompareFault.TheVariants.{Object, Operand, Float, Spent as NoTicks}
use Rattle.resin_meaning_forms.specs.Under.value.declared.value.Value.{Value}
use Rattle.resin_meaning_forms.specs.Under.value.declared.value.Value.TheVariants.{Bool as Boolean, Int}
use Rattle.resin_meaning_forms.specs.Under.value.Trees.{Tree, integer, text, object}
use Rattle.resin_meaning_forms.specs.Under.value.Seen.{tree_of}
use Rattle.resin_meaning_forms.specs.Under.value.Compare.{is_true, equal_trees, identical_trees, order_trees}
use Rattle.resin_meaning_forms.specs.Under.ops.Conversions.{text_of, number_of_value, int_of_value}
use Rattle.resin_meaning_forms.specs.Under.ops.Arithmetic.{arith_of, within as fitting}
use Rattle.resin_meaning_forms.specs.Under.ops.declared.operator.Arith.{Arith}
use Rattle.resin_meaning_forms.specs.Under.ops.declared.operator.Arith.TheVariants.{Add as Plus, Sub as Minus, Mul as Times, Div as Over, Rem as Modulo}
use Rattle.resin_meaning_forms.specs.Under.array_fn.Filled.{and_then}
use Rattle.resin_meaning_forms.specs.Under.tree.declared.expression.Unary.{Unary}
use Rattle.resin_meaning_forms.specs.Under.tree.declared.expression.Unary.TheVariants as sign
use Rattle.resin_meaning_forms.specs.Under.tree.declared.expression.Combining.{Combining}
use Rattle.resin_meaning_forms.specs.Under.tree.declared.expression.Combining.TheVariants.{Multiply, Divide, Remainder, Add, Subtract, Concat}
use Rattle.resin_meaning_forms.specs.Under.tree.declared.expression.Comparison.{Comparison}
use Rattle.resin_meaning_forms.specs.Under.tree.declared.expression.Comparison.TheVariants.{Less, LessOrEqual, Greater, GreaterOrEqual, Equal, NotEqual, Identical, NotIdentical, Compare}
use Rattle.resin_meaning_forms.specs.Under.heap.Classes.{find_class, is_a}
use Rattle.resin_meaning_forms.specs.Under.heap.Objects.{class_at}
use Rattle.resin_meaning_forms.specs.Under.machine.State.{State}
use Rattle.resin_meaning_forms.specs.Under.machine.Steps.{Act}
use Rattle.resin_meaning_forms.specs.Under.machine.Objects.{settled, is_object}
use Rattle.resin_meaning_forms.specs.Under.meaning.Programs.{Prog, give, act, ◌>>=◌}
use Rattle.resin_meaning_forms.specs.Parts.{Evals, computed, ruled, charge_text, charge_both, given, looked, ◌>>◌}
use Rattle.resin_meaning_forms.specs.Merges.{merge, folded}
use Rattle.resin_meaning_forms.specs.Operators.{own_set, set_of_number, labelled, too_long, concatenated, calculated, combined_by, combined, signed, negated, applied, unary, compare_fault, or_fault, or_spent, with_ticks, equal, identical, order, sign_of, compared_by, compared, fits, instance_of}
use Rattle.resin_frame.specs.Frames.{IsFramed}
use Rattle.resin_frame.proofs.Frames.{framed_bind, framed_looked, FramedEvals, framing}
use Rattle.resin_frame.proofs.Numbers.{fits_numberless}
use Rattle.resin_frame.proofs.framed_forms.Merges.{folded_framed, merge_framed}
use Rattle.resin_frame.proofs.framed_forms.Parts.{charge_both_framed, charge_text_framed, given_framed}

pub set_of_number_framed : {own : Option (List ℕ)} (ev : Evals) (t : Tree) → FramedEvals own ev → IsFramed {A = NumberSet} own (set_of_number ev t)
set_of_number_framed ev (text t) h = search (framing, folded_framed) depth 12
set_of_number_framed ev t h = search framing depth 12

pub concatenated_framed : {own : Option (List ℕ)} (x : Tree) (y : Tree) → IsFramed {A = Value} own (concatenated x y)
concatenated_framed x y = search (framing, given_framed) depth 12

pub calculated_framed : {own : Option (List ℕ)} (ev : Evals) (op : Arith) (x : Tree) (y : Tree) → FramedEvals own ev → IsFramed {A = Value} own (calculated ev op x y)
calculated_framed ev op x y h = search (framing, merge_framed, set_of_number_framed) depth 12

pub combined_by_framed : {own : Option (List ℕ)} (ev : Evals) (a1 : Combining) (x : Tree) (y : Tree) → FramedEvals own ev → IsFramed {A = Value} own (combined_by ev a1 x y)
combined_by_framed ev Multiply x y h = search (framing, calculated_framed) depth 12
combined_by_framed ev Divide x y h = search (framing, calculated_framed) depth 12
combined_by_framed ev Remainder x y h = search (framing, calculated_framed) depth 12
combined_by_framed ev Add x y h = search (framing, calculated_framed) depth 12
combined_by_framed ev Subtract x y h = search (framing, calculated_framed) depth 12
combined_by_framed ev Concat x y h = search (framing, concatenated_framed) depth 12

pub combined_framed : {own : Option (List ℕ)} (ev : Evals) (op : Combining) (x : Value) (y : Value) → FramedEvals own ev → IsFramed {A = Value} own (combined ev op x y)
combined_framed ev op x y h = search (framing, charge_both_framed, combined_by_framed) depth 12

pub signed_framed : {own : Option (List ℕ)} (ev : Evals) (x : Tree) (number : Result ℤ CallStop) → FramedEvals own ev → IsFramed {A = Value} own (signed ev x number)
signed_framed ev x number h = search (framing, set_of_number_framed) depth 12

pub applied_framed : {own : Option (List ℕ)} (ev : Evals) (a1 : Unary) (x : Tree) → FramedEvals own ev → IsFramed {A = Value} own (applied ev a1 x)
applied_framed ev sign.Minus x h = search (framing, signed_framed) depth 12
applied_framed ev sign.Plus x h = search (framing, signed_framed) depth 12
applied_framed ev sign.Not x h = search framing depth 12
applied_framed ev sign.ToInt x h = search (framing, signed_framed) depth 12
applied_framed ev sign.ToText x h = search (framing, given_framed) depth 12
applied_framed ev sign.ToBool x h = search framing depth 12

pub unary_framed : {own : Option (List ℕ)} (ev : Evals) (op : Unary) (x : Value) → FramedEvals own ev → IsFramed {A = Value} own (unary ev op x)
unary_framed ev op x h = search (framing, charge_text_framed, applied_framed) depth 12

pub equal_framed : {own : Option (List ℕ)} (x : Tree) (y : Tree) → IsFramed {A = Bool} own (equal x y)
equal_framed x y = search framing depth 12

pub identical_framed : {own : Option (List ℕ)} (x : Tree) (y : Tree) → IsFramed {A = Bool} own (identical x y)
identical_framed x y = search framing depth 12

pub order_framed : {own : Option (List ℕ)} (x : Tree) (y : Tree) → IsFramed {A = Ordering} own (order x y)
order_framed x y = search framing depth 12

pub compared_by_framed : {own : Option (List ℕ)} (a0 : Comparison) (x : Tree) (y : Tree) → IsFramed {A = Value} own (compared_by a0 x y)
compared_by_framed Less x y = search (framing, order_framed) depth 12
compared_by_framed LessOrEqual x y = search (framing, order_framed) depth 12
compared_by_framed Greater x y = search (framing, order_framed) depth 12
compared_by_framed GreaterOrEqual x y = search (framing, order_framed) depth 12
compared_by_framed Equal x y = search (framing, equal_framed) depth 12
compared_by_framed NotEqual x y = search (framing, equal_framed) depth 12
compared_by_framed Identical x y = search (framing, identical_framed) depth 12
compared_by_framed NotIdentical x y = search (framing, identical_framed) depth 12
compared_by_framed Compare x y = search (framing, order_framed) depth 12

pub compared_framed : {own : Option (List ℕ)} (op : Comparison) (x : Value) (y : Value) → IsFramed {A = Value} own (compared op x y)
compared_framed op x y = search (framing, charge_both_framed, compared_by_framed) depth 12

pub instance_of_framed : {own : Option (List ℕ)} (name : List ℕ) (x : Value) → IsFramed {A = Value} own (instance_of name x)
instance_of_framed name x =
    framed_bind _ _ (charge_text_framed (tree_of x)) (λ u. framed_bind _ _ (framed_looked (fits name (tree_of x)) (fits_numberless name (tree_of x))) (λ b. search framing))
