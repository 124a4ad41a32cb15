-- Steps on functions, classes and objects (PHP manual, "Functions", "Classes and Objects"), and the exceptions that the runtime throws.
use Rattle.std.specs.Prelude.{ℕ, pos, ◌+◌, ◌&&◌, nat_lt, nat_le, Bool, false, List, [], ◌∷◌, ◌++◌, length, codes}
use Rattle.std.specs.Prelude.{Option, None, Some, Result, Ok, Err, unwrap_or, is_some, is_none, if◌then◌else◌}
use Rattle.std.specs.Option.{option_map_or}
use Rattle.std.specs.Str.{str_to_ascii_lowercase}
use Rattle.std.specs.FinMap.{get, insert}
use Rattle.resin_heap.specs.Under.label.Sets.{empty as no_labels}
use Rattle.resin_heap.specs.Under.lstr.Texts.{carrying}
use Rattle.resin_heap.specs.Under.lstr.Texts.{Text as LabelledText}
use Rattle.resin_heap.specs.Under.scalar.declared.faults.CallStop.{CallStop}
use Rattle.resin_heap.specs.Under.scalar.declared.faults.CallStop.TheVariants.{Throw, Fault as CallFault, Memory as CallMemory}
use Rattle.resin_heap.specs.Under.scalar.declared.faults.ErrorKind.{ErrorKind}
use Rattle.resin_heap.specs.Under.scalar.declared.faults.ErrorKind.TheVariants.{Plain, Arithmetic, DivisionByZero}
use Rattle.resin_heap.specs.Under.scalar.declared.faults.ErrorKind.TheVariants.{«Type» as TypeKind, ArgumentCount, Value as ValueKind}
use Rattle.resin_heap.specs.Under.scalar.declared.faults.ScriptFault.TheVariants.{FuelSpent, UndefinedFunction}
use Rattle.resin_heap.specs.Under.scalar.declared.faults.ScriptFault.TheVariants.{UndefinedClass, Redeclared, BadOperand}
use Rattle.resin_heap.specs.Under.value.declared.value.Value.{Value}
use Rattle.resin_heap.specs.Under.value.declared.value.Value.TheVariants.{Null, Int, Text}
use Rattle.resin_heap.specs.Under.value.Values.{FieldList}
use Rattle.resin_heap.specs.Under.tree.declared.declaration.Function.{Function}
use Rattle.resin_heap.specs.Under.tree.declared.declaration.ClassDecl.{ClassDecl}
use Rattle.resin_heap.specs.Classes.{Table, find_class}
use Rattle.resin_heap.specs.Objects.{field, with_field, without_field, class_at, fields_at, with_fields}
use Rattle.resin_heap.specs.Prelude.{number_of}
use Rattle.resin_heap.specs.declared.heap.Object.{Object}
use Rattle.resin_heap.specs.declared.classes.ClassFault.{ClassFault}
use Rattle.resin_heap.specs.declared.classes.ClassFault.TheVariants.{Redeclared as IsThere, NoParent, Memory as NoMemory}
use Rattle.resin_heap.specs.declared.prelude.PreludeClass.{PreludeClass}
use Rattle.resin_heap.specs.declared.prelude.PreludeClass.TheVariants.{Error, ArithmeticError, DivisionByZeroError}
use Rattle.resin_heap.specs.declared.prelude.PreludeClass.TheVariants.{TypeError, ArgumentCountError, ValueError}
use Rattle.resin_machine.specs.declared.stop.Stop.{Stop}
use Rattle.resin_machine.specs.declared.stop.Stop.TheVariants.{Thrown, Fault, Memory}
use Rattle.resin_machine.specs.State.{State}
use Rattle.resin_machine.specs.Steps.{Act, faults}

-- the last number of an object, and the most classes
abbrev pub last_number : ℕ
last_number = 4294967295

-- function names ignore ASCII case
abbrev pub function_named : List ℕ → State → Option Function
function_named name m = get m.functions (str_to_ascii_lowercase name)

-- declares a function, unless a function of a script has its name
abbrev pub declare_function : Function → Act (Unit {0})
declare_function f m =
    if is_some (function_named f.name m)
    then faults Redeclared m
    else (Ok tt, record m { functions = insert m.functions (str_to_ascii_lowercase f.name) f })

abbrev pub found_function : Option Function → Act Function
found_function None m = faults UndefinedFunction m
found_function (Some f) m = (Ok f, m)

abbrev pub find_function : List ℕ → Act Function
find_function name m = found_function (function_named name m) m

-- a declaration names a parent that isn't there
abbrev pub lacks_parent : Table → ClassDecl → Bool
lacks_parent t d = option_map_or (λ name. is_none (find_class t name)) d.parent false

-- declares a class
abbrev pub declare_class : ClassDecl → Act (Unit {0})
declare_class d m =
    if nat_lt (length m.classes) last_number
    then (if is_some (find_class m.classes d.name) then faults Redeclared m
    else (if lacks_parent m.classes d then faults UndefinedClass m else (Ok tt, record m { classes = m.classes ++ d ∷ [] })))
    else faults FuelSpent m

-- what a class that can't be declared means at a line
abbrev pub class_stop : ClassFault → ℕ → Stop
class_stop IsThere line = Fault Redeclared line
class_stop NoParent line = Fault UndefinedClass line
class_stop NoMemory line = Memory

abbrev pub found_class : Option ℕ → Act ℕ
found_class None m = faults UndefinedClass m
found_class (Some c) m = (Ok c, m)

abbrev pub find_class_of : List ℕ → Act ℕ
find_class_of name m = found_class (find_class m.classes name) m

-- an object without fields, of the next number
abbrev pub make_object : ℕ → Act ℕ
make_object class m =
    if nat_lt (length m.heap) last_number
    then (Ok (length m.heap + 1), record m { heap = m.heap ++ record { class = class; fields = [] } ∷ [] })
    else faults FuelSpent m

-- there is an object of this number; of the values of a request each is one
abbrev pub is_object : List Object → ℕ → Bool
is_object heap o = nat_lt 0 o && nat_le o (length heap)

-- goes on with an object; another number is no object
abbrev pub with_object : {A : Type 0} → ℕ → Act A → Act A
with_object o a m = if is_object m.heap o then a m else faults BadOperand m

-- the class of an object
abbrev pub class_of : ℕ → Act ℕ
class_of o = with_object o (λ m. (Ok (class_at m.heap o), m))

-- a property that isn't there reads as null
abbrev pub read_field : ℕ → List ℕ → Act Value
read_field o name = with_object o (λ m. (Ok (unwrap_or (field name (fields_at m.heap o)) Null), m))

-- the state with other fields of an object
abbrev pub with_fields_of : ℕ → (FieldList → FieldList) → State → State
with_fields_of o change m = record m { heap = with_fields m.heap o (change (fields_at m.heap o)) }

abbrev pub set_field : ℕ → List ℕ → Value → Act (Unit {0})
set_field o name v = with_object o (λ m. (Ok tt, with_fields_of o (with_field name v) m))

-- takes the value out of a field, to be changed and put back: null stands there meanwhile
abbrev pub take_field : ℕ → List ℕ → Act Value
take_field o name =
    with_object o (λ m. (
      Ok (unwrap_or (field name (fields_at m.heap o)) Null),
      if is_some (field name (fields_at m.heap o)) then with_fields_of o (with_field name Null) m else m,
    ))

abbrev pub unset_field : ℕ → List ℕ → Act (Unit {0})
unset_field o name = with_object o (λ m. (Ok tt, with_fields_of o (without_field name) m))

-- ---- exceptions of the runtime

-- the fields of an exception with a message, and the code 0
abbrev pub exception_of : LabelledText → FieldList
exception_of message = (codes "message", Text message) ∷ (codes "code", Int (pos 0) no_labels) ∷ []

-- throws a new exception of a class of the runtime; it is an object, and takes the next number
abbrev pub throw_new : {A : Type 0} → PreludeClass → List ℕ → Act A
throw_new class message m =
    if nat_lt (length m.heap) last_number
    then (
      Err (Thrown (length m.heap + 1)),
      record m { heap = m.heap ++ record { class = number_of class; fields = exception_of (carrying no_labels message) } ∷ [] },
    )
    else faults FuelSpent m

-- the class of an error
abbrev pub class_of_error : ErrorKind → PreludeClass
class_of_error Plain = Error
class_of_error Arithmetic = ArithmeticError
class_of_error DivisionByZero = DivisionByZeroError
class_of_error TypeKind = TypeError
class_of_error ArgumentCount = ArgumentCountError
class_of_error ValueKind = ValueError

-- what an operator or a builtin answers, as a step: a throw makes an exception, and a fault comes at the running line
abbrev pub settled : {A : Type 0} → Result A CallStop → Act A
settled (Ok v) m = (Ok v, m)
settled (Err (Throw kind)) m = throw_new (class_of_error kind) [] m
settled (Err (CallFault f)) m = faults f m
settled (Err CallMemory) m = (Err Memory, m)
