-- Calls (PHP manual, "Functions" and "Classes and Objects"): what a call reaches is found first, then its arguments are evaluated.
use Rattle.std.specs.Prelude.{ℕ, ◌==◌, List, [], ◌∷◌, ◌++◌, map, if◌then◌else◌, Option, None, Some, Result, Ok, Err, codes}
use Rattle.std.specs.Option.{option_and_then}
use Rattle.std.specs.Str.{str_to_ascii_lowercase}
use Rattle.resin_target.specs.Under.journal.declared.channel.Channel.TheVariants.{Func}
use Rattle.resin_builtin.specs.Under.scalar.declared.faults.ScriptFault.TheVariants.{UndefinedClass, BadOperand}
use Rattle.resin_builtin.specs.Under.value.declared.value.Value.{Value}
use Rattle.resin_builtin.specs.Under.value.declared.value.Value.TheVariants.{Null, Text, Arr, Obj}
use Rattle.resin_builtin.specs.Under.value.Trees.{Tree}
use Rattle.resin_builtin.specs.Under.value.Seen.{tree_of}
use Rattle.resin_builtin.specs.Under.value.Values.{value_of}
use Rattle.resin_target.specs.Under.tree.declared.declaration.Constant.{Constant}
use Rattle.resin_target.specs.Under.tree.declared.declaration.Property.{Property}
use Rattle.resin_target.specs.Under.tree.declared.expression.Call.{Call, Call-F, out-Call}
use Rattle.resin_target.specs.Under.tree.declared.expression.Expr.{Expr}
use Rattle.resin_target.specs.Under.heap.Classes.{parent_of, properties_of}
use Rattle.resin_target.specs.Under.heap.Prelude.{number_of}
use Rattle.resin_target.specs.Under.heap.declared.prelude.PreludeClass.TheVariants.{Throwable}
use Rattle.resin_target.specs.Under.scope.Chained.{function_chain}
use Rattle.resin_target.specs.Under.machine.declared.stop.Stop.TheVariants.{Thrown}
use Rattle.resin_target.specs.Under.machine.Variables.{read}
use Rattle.resin_target.specs.Under.machine.Objects.{class_of, find_class_of, make_object, set_field}
use Rattle.resin_target.specs.Under.machine.Leaving.{deny_filter}
use Rattle.resin_meaning_tables.specs.Under.meaning.Programs.{Prog, give, stop, act, tried, quietly, ◌>>=◌}
use Rattle.resin_meaning_forms.specs.declared.callee.Callee.{Callee}
use Rattle.resin_meaning_forms.specs.declared.callee.Callee.TheVariants.{Script, Builtin, State as OfState, Channel}
use Rattle.resin_meaning_forms.specs.Parts.{Evals, faulted, looked, ◌>>◌}
use Rattle.resin_meaning_forms.specs.Invoke.{constant_program, call_script, call_object, run_method, Method, method_named, find_method}
use Rattle.resin_meaning_forms.specs.Merges.{list_of, values_in}
use Rattle.resin_meaning_forms.specs.Names.{find_callee}
use Rattle.resin_meaning_forms.specs.Writes.{plain}
use Rattle.resin_meaning_forms.specs.Functions.{builtin, state_function}
use Rattle.resin_meaning_forms.specs.Channels.{channel_function}
use Rattle.resin_meaning_forms.specs.Imports.{import_value}

-- these values, and those of expressions behind them, from the left
abbrev pub values_on : Evals → List Value → List Expr → Prog (List Value)
values_on ev vs [] = give vs
values_on ev vs (e ∷ es) = ev.expr e >>= λ v. values_on ev (vs ++ v ∷ []) es

-- the values of expressions, from the left
abbrev pub values : Evals → List Expr → Prog (List Value)
values ev es = values_on ev [] es

-- ---- by name

-- what a function filter answers: an array, whose values are the arguments from then on
abbrev pub array_answer : Value → Prog (List Tree)
array_answer (Arr a) = give (values_in a)
array_answer v = faulted BadOperand

-- a filter is asked about the arguments of a function
abbrev pub filter_function : Evals → List ℕ → ℕ → List Tree → Prog (List Tree)
filter_function ev name f ts = do
  list ← list_of ts
  answer ← call_object ev f (codes "filter_func") (Text (plain name) ∷ list ∷ [])
  array_answer answer

-- the exception of a filter is noted, and goes on
abbrev pub function_filtered : ℕ → Result (List Tree) ℕ → Prog (List Tree)
function_filtered f (Ok ts) = give ts
function_filtered f (Err thrown) = act (deny_filter 0 Func f 0 thrown) >> stop (Thrown thrown)

-- the filters of a function are asked in turn, each about the answer of the one before
abbrev pub ask_function_filters : Evals → List ℕ → List ℕ → List Tree → Prog (List Tree)
ask_function_filters ev name [] ts = give ts
ask_function_filters ev name (f ∷ fs) ts = do
  end ← tried (quietly (filter_function ev name f ts))
  answer ← function_filtered f end
  ask_function_filters ev name fs answer

abbrev pub invoked : Evals → Callee → List Tree → Prog Value
invoked ev (Script f) ts = call_script ev f (map value_of ts)
invoked ev (Builtin b) ts = builtin ev b ts
invoked ev (OfState f) ts = state_function ev f ts
invoked ev (Channel f) ts = channel_function ev f ts

-- the arguments as the filters of a function leave them, whose chain is taken as it stands then; the filters are told the name in lower case
abbrev pub filtered : Evals → List ℕ → List Tree → Prog (List Tree)
filtered ev name ts =
    looked (λ m. function_chain (str_to_ascii_lowercase name) m.chains) >>= λ chain.
    ask_function_filters ev (str_to_ascii_lowercase name) chain ts

-- a function that was found is called
abbrev pub call_found : Evals → List ℕ → Callee → List Value → Prog Value
call_found ev name callee vs = filtered ev name (map tree_of vs) >>= invoked ev callee

-- a call by name whose arguments are evaluated
abbrev pub call_named : Evals → List ℕ → List Value → Prog Value
call_named ev name vs = find_callee name >>= λ callee. call_found ev name callee vs

-- ---- methods

-- the object that a value is
abbrev pub object_of : Value → Prog ℕ
object_of (Obj o) = give o
object_of v = faulted BadOperand

-- the class above the one that declares the running method
abbrev pub or_orphan : Option ℕ → Prog ℕ
or_orphan (Some class) = give class
or_orphan None = faulted UndefinedClass

abbrev pub parent_class : Prog ℕ
parent_class = looked (λ m. option_and_then (parent_of m.classes) m.running) >>= or_orphan

-- ---- objects

-- a property that is given no value is null
abbrev pub property_value : Option Constant → Prog Value
property_value None = give Null
property_value (Some c) = constant_program c

-- a new object gets its properties in the order in which they are declared, those of the topmost class first
abbrev pub set_property : ℕ → Property → Prog (Unit {0})
set_property o p = property_value p.default >>= λ v. act (set_field o p.name v)

abbrev pub set_properties : ℕ → List Property → Prog (Unit {0})
set_properties o [] = give tt
set_properties o (p ∷ ps) = set_property o p >> set_properties o ps

-- no object is of the class Throwable itself
abbrev pub makeable : ℕ → Prog ℕ
makeable class = if class == number_of Throwable then faulted UndefinedClass else give class

-- the class of `new`
abbrev pub class_to_make : List ℕ → Prog ℕ
class_to_make name = act (find_class_of name) >>= makeable

-- the constructor runs, where there is one; else the arguments are passed over
abbrev pub constructed : Evals → ℕ → List Value → Option Method → Prog (Unit {0})
constructed ev o vs None = give tt
constructed ev o vs (Some found) = run_method ev found.0 found.1 o vs >> give tt

-- a new object with its properties
abbrev pub with_properties : ℕ → Prog ℕ
with_properties class = do
  o ← act (make_object class)
  properties ← looked (λ m. properties_of m.classes class)
  set_properties o properties
  give o

abbrev pub new_object : Evals → ℕ → List Value → Prog Value
new_object ev class vs = do
  o ← with_properties class
  constructor ← looked (method_named class (codes "__construct"))
  constructed ev o vs constructor
  give (Obj o)

-- ---- the forms

abbrev pub call_form : Evals → Call → Prog Value
call_form ev c = elim (out-Call c) [
  | Call-F.Function name es ↦ (do
    callee ← find_callee name
    vs ← values ev es
    call_found ev name callee vs)
  | Call-F.Method a name es ↦ (do
    v ← ev.expr a
    o ← object_of v
    class ← act (class_of o)
    found ← find_method class name
    vs ← values ev es
    run_method ev found.0 found.1 o vs)
  | Call-F.Parent name es ↦ (do
    class ← parent_class
    found ← find_method class name
    this ← act (read (codes "this"))
    o ← object_of this
    vs ← values ev es
    run_method ev found.0 found.1 o vs)
  | Call-F.New name es ↦ (do
    class ← class_to_make name
    vs ← values ev es
    new_object ev class vs)
  | Call-F.Import kind e ↦ ev.expr e >>= λ v. import_value ev kind v
]
