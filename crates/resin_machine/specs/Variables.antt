-- Steps on variables (PHP manual, "Variable scope"). The inputs and `$_SESSION` are visible in every call.
use Rattle.std.specs.Prelude.{ℕ, Bool, List, codes, Option, Some, Ok, unwrap_or, is_some, if◌then◌else◌}
use Rattle.std.specs.List.{list_any}
use Rattle.std.specs.Str.{bytes_eq}
use Rattle.std.specs.FinMap.{get, insert, remove}
use Rattle.resin_heap.specs.Under.value.declared.value.Value.{Value}
use Rattle.resin_heap.specs.Under.value.declared.value.Value.TheVariants.{Null, Arr}
use Rattle.resin_heap.specs.Under.value.Arrays.{Array}
use Rattle.resin_stage.specs.Under.scope.Frames.{value_of, assigned, without_name, with_bound, entered, left}
use Rattle.resin_machine.specs.State.{State, input_names}
use Rattle.resin_machine.specs.Steps.{Act}

-- the name is that of an input
abbrev pub is_input : List ℕ → Bool
is_input name = list_any (bytes_eq name) input_names

-- the name is that of `$_SESSION`
abbrev pub is_session : List ℕ → Bool
is_session name = bytes_eq name (codes "_SESSION")

-- the value of a variable, if there is one
abbrev pub variable : List ℕ → State → Option Value
variable name m = if is_input name then get m.inputs name else (if is_session name then Some m.session else value_of name m.frames)

-- `$_SESSION` as a value
abbrev pub with_session : Value → State → State
with_session v m = record m { session = v }

abbrev pub with_variable : List ℕ → Value → State → State
with_variable name v m =
    if is_input name then record m { inputs = insert m.inputs name v } else
    (if is_session name then with_session v m else record m { frames = assigned name v m.frames })

-- a variable that isn't there reads as null
abbrev pub read : List ℕ → Act Value
read name m = (Ok (unwrap_or (variable name m) Null), m)

abbrev pub assign : List ℕ → Value → Act (Unit {0})
assign name v m = (Ok tt, with_variable name v m)

-- the state after a value was taken out of a variable, to be changed and put back: null stands there meanwhile
abbrev pub taken_from : List ℕ → State → State
taken_from name m = if is_some (variable name m) then with_variable name Null m else m

-- `$_SESSION` is null then
abbrev pub without_variable : List ℕ → State → State
without_variable name m =
    if is_input name then record m { inputs = remove m.inputs name } else
    (if is_session name then with_session Null m else record m { frames = without_name name m.frames })

-- `global`: the name means the variable of the top level. At the top level, for an input and for `$_SESSION` nothing happens
abbrev pub bind_global : List ℕ → Act (Unit {0})
bind_global name m = (Ok tt, if is_input name then m else (if is_session name then m else record m { frames = with_bound name m.frames }))

-- `$_SESSION` becomes this array
abbrev pub set_session : Array → Act (Unit {0})
set_session a m = (Ok tt, with_session (Arr a) m)

-- a call opens, of a method that this class declares, or of a function
abbrev pub in_call : Option ℕ → State → State
in_call class m = record m { frames = entered m.frames; running = class }

-- the innermost call is over
abbrev pub after_call : State → State → State
after_call was m = record m { frames = left m.frames; running = was.running }
