-- What stands at an index and at a property of a value (PHP manual, "Arrays", "String access and modification by character", "Properties"). What
-- isn't there reads as null.
use Rattle.std.specs.Prelude.{◌≡◌, ℕ, Bool, List, [], ◌∷◌, Option, None, Some, Result, Ok, Err, unwrap_or, if◌then◌else◌}
use Rattle.resin_ops.specs.Under.scalar.declared.faults.ScriptFault.TheVariants.{BadOperand}
use Rattle.resin_ops.specs.Under.scalar.declared.faults.CallStop.{CallStop}
use Rattle.resin_ops.specs.Under.scalar.declared.faults.CallStop.TheVariants.{Throw, Fault as CallFault, Memory as CallMemory}
use Rattle.resin_ops.specs.Under.value.declared.key.Key.{Key}
use Rattle.resin_ops.specs.Under.value.declared.value.Value.{Value}
use Rattle.resin_ops.specs.Under.value.declared.value.Value.TheVariants.{Null, Bool as Truth, Int, Text, Arr, Obj}
use Rattle.resin_ops.specs.Under.value.Values.{value_of}
use Rattle.resin_ops.specs.Under.value.Trees.{Tree, null}
use Rattle.resin_ops.specs.Under.value.Seen.{tree_of}
use Rattle.resin_ops.specs.Under.value.Arrays.{Array}
use Rattle.resin_ops.specs.Under.value.Changes.{lookup}
use Rattle.resin_machine.specs.Under.heap.Objects.{field, fields_at}
use Rattle.resin_machine.specs.State.{State}
use Rattle.resin_machine.specs.Objects.{is_object}
use Rattle.resin_ops.specs.Conversions.{key_of}
use Rattle.resin_ops.specs.Places.{indexed}
pub use Rattle.resin_ops.specs.Under.scalar.Stops.{GivesOrNoMemory}

-- goes on with a value
abbrev pub on : {A B : Type 0} → Result A CallStop → (A → Result B CallStop) → Result B CallStop
on (Ok v) f = f v
on (Err stop) f = Err stop

-- the value at a key of an array
abbrev pub value_at : Key → Array → Value
value_at k a = value_of (unwrap_or (lookup k a.entries) null)

-- a key that a text has no byte at is a fault, or, where reading is lenient, null
abbrev pub byte_of : Bool → Result Tree CallStop → Result Value CallStop
byte_of lenient (Ok t) = Ok (value_of t)
byte_of lenient (Err stop) = if lenient then Ok Null else Err stop

-- `a[e]`, where e has a value: an array has values at its keys, a text bytes, and null, a boolean or an integer nothing at any; an object has no
-- index. In `isset`, `empty` and the left of `??` reading is lenient: a text key into a text, and an index into an object, read as null there
abbrev pub at_index : Bool → Value → Value → Result Value CallStop
at_index lenient e Null = Ok Null
at_index lenient e (Truth b) = Ok Null
at_index lenient e (Int n s) = Ok Null
at_index lenient e (Text t) = on (key_of (tree_of e)) (λ k. byte_of lenient (indexed k t))
at_index lenient e (Arr a) = on (key_of (tree_of e)) (λ k. Ok (value_at k a))
at_index lenient e (Obj o) = if lenient then Ok Null else Err (CallFault BadOperand)

-- the value of a property of an object; a number without an object has none
abbrev pub field_of : ℕ → List ℕ → State → Value
field_of o name m = if is_object m.heap o then unwrap_or (field name (fields_at m.heap o)) Null else Null

-- `a->p`: a value that is no object has nothing there
abbrev pub at_property : List ℕ → Value → State → Value
at_property name Null m = Null
at_property name (Truth b) m = Null
at_property name (Int n s) m = Null
at_property name (Text t) m = Null
at_property name (Arr a) m = Null
at_property name (Obj o) m = field_of o name m
