-- Operators whose operands are all evaluated (PHP manual, "Arithmetic", "String", "Comparison" and "Type Operators", in this project's profile): the
-- texts taken are charged, then the operands are turned, then the work is done, then the sets are merged, and then a text given is charged.
use Rattle.std.specs.Prelude.{ℕ, ℤ, pos, negsuc, ◌&&◌, ◌-ℤ◌, nat_le, List, ◌++◌, length, Bool, false, not, if◌then◌else◌, Result, Ok, Err}
use Rattle.std.specs.Option.{option_map_or}
use Rattle.std.specs.Ordering.{is_lt, is_le, is_gt, is_ge}
use Rattle.std.specs.declared.cmp.Ordering.{Ordering}
use Rattle.std.specs.declared.cmp.Ordering.TheVariants.{Less as Below, Equal as Same, Greater as Above}
use Rattle.resin_builtin.specs.Under.label.Sets.{NumberSet, empty as no_labels}
use Rattle.resin_builtin.specs.Under.lstr.declared.limits.TheConstants.{LONGEST}
use Rattle.resin_builtin.specs.Under.lstr.Texts.{Text as LabelledText}
use Rattle.resin_builtin.specs.Under.scalar.declared.faults.CallStop.{CallStop}
use Rattle.resin_builtin.specs.Under.scalar.declared.faults.CallStop.TheVariants.{Fault as CallFault}
use Rattle.resin_builtin.specs.Under.scalar.declared.faults.ScriptFault.TheVariants.{BadOperand, ObjectComparison}
use Rattle.resin_builtin.specs.Under.scalar.declared.faults.ScriptFault.TheVariants.{FloatNeeded, FuelSpent, TextTooLong}
use Rattle.resin_builtin.specs.Under.scalar.declared.ticks.Spent.{Spent}
use Rattle.resin_builtin.specs.Under.value.declared.compare.CompareFault.{CompareFault}
use Rattle.resin_builtin.specs.Under.value.declared.compare.CompareFault.TheVariants.{Object, Operand, Float, Spent as NoTicks}
use Rattle.resin_builtin.specs.Under.value.declared.value.Value.{Value}
use Rattle.resin_builtin.specs.Under.value.declared.value.Value.TheVariants.{Bool as Boolean, Int}
use Rattle.resin_builtin.specs.Under.value.Trees.{Tree, integer, text, object}
use Rattle.resin_builtin.specs.Under.value.Seen.{tree_of}
use Rattle.resin_builtin.specs.Under.value.Compare.{is_true, equal_trees, identical_trees, order_trees}
use Rattle.resin_target.specs.Under.ops.Conversions.{text_of, number_of_value, int_of_value}
use Rattle.resin_target.specs.Under.ops.Arithmetic.{arith_of, within as fitting}
use Rattle.resin_target.specs.Under.ops.declared.operator.Arith.{Arith}
use Rattle.resin_target.specs.Under.ops.declared.operator.Arith.TheVariants.{Add as Plus, Sub as Minus, Mul as Times, Div as Over, Rem as Modulo}
use Rattle.resin_builtin.specs.Under.array_fn.Filled.{and_then}
use Rattle.resin_target.specs.Under.tree.declared.expression.Unary.{Unary}
use Rattle.resin_target.specs.Under.tree.declared.expression.Unary.TheVariants as sign
use Rattle.resin_target.specs.Under.tree.declared.expression.Combining.{Combining}
use Rattle.resin_target.specs.Under.tree.declared.expression.Combining.TheVariants.{Multiply, Divide, Remainder, Add, Subtract, Concat}
use Rattle.resin_target.specs.Under.tree.declared.expression.Comparison.{Comparison}
use Rattle.resin_target.specs.Under.tree.declared.expression.Comparison.TheVariants.{Less, LessOrEqual, Greater, GreaterOrEqual}
use Rattle.resin_target.specs.Under.tree.declared.expression.Comparison.TheVariants.{Equal, NotEqual, Identical, NotIdentical, Compare}
use Rattle.resin_target.specs.Under.heap.Classes.{find_class, is_a}
use Rattle.resin_target.specs.Under.heap.Objects.{class_at}
use Rattle.resin_target.specs.Under.machine.State.{State}
use Rattle.resin_target.specs.Under.machine.Steps.{Act}
use Rattle.resin_target.specs.Under.machine.Objects.{settled, is_object}
use Rattle.resin_meaning_tables.specs.Under.meaning.Programs.{Prog, give, act, ◌>>=◌}
use Rattle.resin_meaning_forms.specs.Parts.{Evals, computed, ruled, charge_text, charge_both, given, looked, ◌>>◌}
use Rattle.resin_meaning_forms.specs.Merges.{merge, folded}

-- ---- sets

-- the set of an integer; no other value has one of its own
abbrev pub own_set : Tree → NumberSet
own_set (integer n s) = s
own_set t = no_labels

-- what a value carries that was turned into a number: an integer its own set, a text its sets folded into one, and every other value nothing
abbrev pub set_of_number : Evals → Tree → Prog NumberSet
set_of_number ev (text t) = folded ev t
set_of_number ev t = give (own_set t)

-- an integer with a set
abbrev pub labelled : ℤ → NumberSet → Value
labelled n s = Int n s

-- ---- texts

abbrev pub too_long : LabelledText → Result LabelledText CallStop
too_long t = if nat_le (length t) LONGEST then Ok t else Err (CallFault TextTooLong)

-- two texts, one behind the other
abbrev pub concatenated : Tree → Tree → Prog Value
concatenated x y = do
  a ← computed (text_of x)
  b ← computed (text_of y)
  t ← computed (too_long (a ++ b))
  given (text t)

-- ---- arithmetic

-- both operands as numbers, the left one first; then the number is computed; then each text is folded, the left one first; then the sets are merged
abbrev pub calculated : Evals → Arith → Tree → Tree → Prog Value
calculated ev op x y = do
  a ← computed (ruled (number_of_value x))
  b ← computed (ruled (number_of_value y))
  n ← computed (arith_of op a b)
  left ← set_of_number ev x
  right ← set_of_number ev y
  s ← merge ev left right
  give (labelled n s)

abbrev pub combined_by : Evals → Combining → Tree → Tree → Prog Value
combined_by ev Multiply x y = calculated ev Times x y
combined_by ev Divide x y = calculated ev Over x y
combined_by ev Remainder x y = calculated ev Modulo x y
combined_by ev Add x y = calculated ev Plus x y
combined_by ev Subtract x y = calculated ev Minus x y
combined_by ev Concat x y = concatenated x y

-- a number or a text made of two values, as an operator and `+=` and its kin make it
abbrev pub combined : Evals → Combining → Value → Value → Prog Value
combined ev op x y = charge_both (tree_of x) (tree_of y) >> combined_by ev op (tree_of x) (tree_of y)

-- ---- one operand

-- a number computed from an operand, with what the operand carries
abbrev pub signed : Evals → Tree → Result ℤ CallStop → Prog Value
signed ev x number = do
  n ← computed number
  s ← set_of_number ev x
  give (labelled n s)

-- the number with the other sign
abbrev pub negated : Tree → Result ℤ CallStop
negated x = and_then (ruled (number_of_value x)) (λ n. fitting (pos 0 -ℤ n))

abbrev pub applied : Evals → Unary → Tree → Prog Value
applied ev sign.Minus x = signed ev x (negated x)
applied ev sign.Plus x = signed ev x (ruled (number_of_value x))
applied ev sign.Not x = give (Boolean (not (is_true x)))
applied ev sign.ToInt x = signed ev x (ruled (int_of_value x))
applied ev sign.ToText x = computed (text_of x) >>= λ t. given (text t)
applied ev sign.ToBool x = give (Boolean (is_true x))

abbrev pub unary : Evals → Unary → Value → Prog Value
unary ev op x = charge_text (tree_of x) >> applied ev op (tree_of x)

-- ---- comparisons

abbrev pub compare_fault : CompareFault → CallStop
compare_fault Object = CallFault ObjectComparison
compare_fault Operand = CallFault BadOperand
compare_fault Float = CallFault FloatNeeded
compare_fault NoTicks = CallFault FuelSpent

abbrev pub or_fault : {A : Type 0} → Result A CompareFault → Result A CallStop
or_fault (Ok v) = Ok v
or_fault (Err e) = Err (compare_fault e)

abbrev pub or_spent : {A : Type 0} → Result A Spent → Result A CallStop
or_spent (Ok v) = Ok v
or_spent (Err e) = Err (CallFault FuelSpent)

-- a comparison that charges a tick for each pair in arrays that it looks at
abbrev pub with_ticks : (ℕ → Result Bool CallStop × ℕ) → Act Bool
with_ticks compare m = let a = compare m.ticks in settled a.0 (record m { ticks = a.1 })

abbrev pub equal : Tree → Tree → Prog Bool
equal x y = act (with_ticks (λ n. let a = equal_trees x y n in (or_fault a.0, a.1)))

abbrev pub identical : Tree → Tree → Prog Bool
identical x y = act (with_ticks (λ n. let a = identical_trees x y n in (or_spent a.0, a.1)))

abbrev pub order : Tree → Tree → Prog Ordering
order x y = computed (or_fault (order_trees x y))

-- -1, 0 or 1
abbrev pub sign_of : Ordering → ℤ
sign_of Below = negsuc 0
sign_of Same = pos 0
sign_of Above = pos 1

abbrev pub compared_by : Comparison → Tree → Tree → Prog Value
compared_by Less x y = order x y >>= λ o. give (Boolean (is_lt o))
compared_by LessOrEqual x y = order x y >>= λ o. give (Boolean (is_le o))
compared_by Greater x y = order x y >>= λ o. give (Boolean (is_gt o))
compared_by GreaterOrEqual x y = order x y >>= λ o. give (Boolean (is_ge o))
compared_by Equal x y = equal x y >>= λ b. give (Boolean b)
compared_by NotEqual x y = equal x y >>= λ b. give (Boolean (not b))
compared_by Identical x y = identical x y >>= λ b. give (Boolean b)
compared_by NotIdentical x y = identical x y >>= λ b. give (Boolean (not b))
compared_by Compare x y = order x y >>= λ o. give (labelled (sign_of o) no_labels)

abbrev pub compared : Comparison → Value → Value → Prog Value
compared op x y = charge_both (tree_of x) (tree_of y) >> compared_by op (tree_of x) (tree_of y)

-- ---- classes

-- an object is of a class, or of one under it; no object is of a class that isn't declared
abbrev pub fits : List ℕ → Tree → State → Bool
fits name (object o) m = is_object m.heap o && option_map_or (λ c. is_a m.classes (class_at m.heap o) c) (find_class m.classes name) false
fits name t m = false

abbrev pub instance_of : List ℕ → Value → Prog Value
instance_of name x = do
  charge_text (tree_of x)
  b ← looked (fits name (tree_of x))
  give (Boolean b)
