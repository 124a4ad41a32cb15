-- Steps on targets: reading one, storing into one, unsetting one. Its keys are turned as the step comes to them, from the left (this project).
use Rattle.std.specs.Prelude.{◌≡◌, ℕ, Bool, true, false, List, [], ◌∷◌, Option, None, Some, Result, Ok, Err, unwrap_or, if◌then◌else◌}
use Rattle.std.specs.Option.{option_map}
use Rattle.resin_ops.specs.Under.scalar.declared.faults.ScriptFault.TheVariants.{BadOperand}
use Rattle.resin_ops.specs.Under.scalar.declared.faults.CallStop.{CallStop}
use Rattle.resin_ops.specs.Under.scalar.declared.faults.CallStop.TheVariants.{Fault as CallFault}
use Rattle.resin_ops.specs.Under.value.declared.value.Value.{Value}
use Rattle.resin_ops.specs.Under.value.declared.value.Value.TheVariants.{Null, Bool as Truth, Int, Text, Arr, Obj}
use Rattle.resin_machine.specs.State.{State}
use Rattle.resin_machine.specs.Steps.{Act, faults}
use Rattle.resin_machine.specs.Variables.{variable, assign, taken_from, without_variable}
use Rattle.resin_machine.specs.Objects.{settled, set_field, take_field, unset_field}
use Rattle.resin_target.specs.declared.path.Index.{Index}
use Rattle.resin_target.specs.declared.path.Index.TheVariants.{At, Next}
use Rattle.resin_target.specs.declared.path.Hop.{Hop}
use Rattle.resin_target.specs.declared.path.Path.{Path}
use Rattle.resin_target.specs.declared.place.Place.{Place}
use Rattle.resin_target.specs.declared.place.Place.TheVariants.{Variable, Property}
use Rattle.resin_target.specs.Reads.{on, at_index, at_property, field_of}
use Rattle.resin_target.specs.Stores.{found, stored, erased}

-- the value at a place; null where nothing stands there
abbrev pub standing : Place → State → Value
standing (Variable name) m = unwrap_or (variable name m) Null
standing (Property o name) m = field_of o name m

-- ---- reading

-- the value under indices, as an expression reads it; nothing stands at `[]`
abbrev pub read_indices : List Index → Value → Result Value CallStop
read_indices [] here = Ok here
read_indices (At e ∷ is) here = on (at_index false e here) (λ v. read_indices is v)
read_indices (Next ∷ is) here = read_indices is Null

-- the value of a property behind indices
abbrev pub read_hop : Hop → Value → State → Result Value CallStop
read_hop h here m = on (read_indices h.indices here) (λ v. Ok (at_property h.property v m))

abbrev pub read_hops : List Hop → Value → State → Result Value CallStop
read_hops [] here m = Ok here
read_hops (h ∷ hs) here m = on (read_hop h here m) (λ v. read_hops hs v m)

-- the value of a target
abbrev pub value_of : List ℕ → Path → State → Result Value CallStop
value_of name path m = on (read_hops path.hops (standing (Variable name) m) m) (λ v. read_indices path.indices v)

abbrev pub fetch : List ℕ → Path → Act Value
fetch name path m = settled (value_of name path m) m

-- ---- the place of a target

-- the object that a value is; null is none
abbrev pub object_in : Value → Result (Option ℕ) CallStop
object_in Null = Ok None
object_in (Obj o) = Ok (Some o)
object_in (Truth b) = Err (CallFault BadOperand)
object_in (Int n s) = Err (CallFault BadOperand)
object_in (Text t) = Err (CallFault BadOperand)
object_in (Arr a) = Err (CallFault BadOperand)

-- goes on with a place, if there is one
abbrev pub on_place : Option Place → (Place → Result (Option Place) CallStop) → Result (Option Place) CallStop
on_place None f = Ok None
on_place (Some at) f = f at

-- the property that indices lead to from a place: none where null stands before it
abbrev pub hopped : Hop → Place → State → Result (Option Place) CallStop
hopped h at m = on (found h.indices (standing at m)) (λ v. on (object_in v) (λ o. Ok (option_map (λ n. Property n h.property) o)))

-- the variable, or the property of an object, that the postfixes up to the last property lead to: none where null stands before one of them
abbrev pub reached : List Hop → Place → State → Result (Option Place) CallStop
reached [] at m = Ok (Some at)
reached (h ∷ hs) at m = on (hopped h at m) (λ further. on_place further (λ p. reached hs p m))

-- ---- storing

abbrev pub put_at_place : Place → Value → Act (Unit {0})
put_at_place (Variable name) v = assign name v
put_at_place (Property o name) v = set_field o name v

-- takes the value at a place out, to be changed and put back: null stands there meanwhile
abbrev pub take_place : Place → Act Value
take_place (Variable name) m = (Ok (unwrap_or (variable name m) Null), taken_from name m)
take_place (Property o name) m = take_field o name m

-- puts the value there, if there is one
abbrev pub put_result : Place → Result Value CallStop → Act (Unit {0})
put_result at (Ok v) m = put_at_place at v m
put_result at (Err stop) m = settled (Err stop) m

-- a store under indices of a place
abbrev pub store_there : Place → List Index → Value → Act (Unit {0})
store_there at is v m = put_result at (stored is v (standing at m)) m

abbrev pub store_at : List Index → Value → Result (Option Place) CallStop → Act (Unit {0})
store_at is v (Ok (Some at)) m = store_there at is v m
store_at is v (Ok None) m = faults BadOperand m
store_at is v (Err stop) m = settled (Err stop) m

-- `t = v`: a property is set of an object alone
abbrev pub store : List ℕ → Path → Value → Act (Unit {0})
store name path v m = store_at path.indices v (reached path.hops (Variable name) m) m

-- ---- unsetting

-- a variable or a property goes
abbrev pub remove_place : Place → Act (Unit {0})
remove_place (Variable name) m = (Ok tt, without_variable name m)
remove_place (Property o name) m = unset_field o name m

abbrev pub is_null : Value → Bool
is_null Null = true
is_null (Truth b) = false
is_null (Int n s) = false
is_null (Text t) = false
is_null (Arr a) = false
is_null (Obj o) = false

abbrev pub erase_key : Place → List Index → Act (Unit {0})
erase_key at is m = put_result at (erased is (standing at m)) m

-- the place goes, or a key under indices of it: under null nothing is unset, and nothing is made
abbrev pub erase_there : Place → List Index → Act (Unit {0})
erase_there at [] m = remove_place at m
erase_there at (i ∷ is) m = if is_null (standing at m) then (Ok tt, m) else erase_key at (i ∷ is) m

abbrev pub erase_at : List Index → Result (Option Place) CallStop → Act (Unit {0})
erase_at is (Ok (Some at)) m = erase_there at is m
erase_at is (Ok None) m = (Ok tt, m)
erase_at is (Err stop) m = settled (Err stop) m

-- `unset(t)`
abbrev pub erase : List ℕ → Path → Act (Unit {0})
erase name path m = erase_at path.indices (reached path.hops (Variable name) m) m
