-- The programs of Calls are framed.
use Rattle.std.specs.Prelude.{ℕ, ◌==◌, List, [], ◌∷◌, ◌++◌, map, if◌then◌else◌, Option, None, Some, Result, Ok, Err, codes}
use Rattle.std.specs.Option.{option_and_then}
use Rattle.std.specs.Str.{str_to_ascii_lowercase}
use Rattle.resin_meaning_forms.specs.Under.journal.declared.channel.Channel.TheVariants.{Func}
use Rattle.resin_meaning_forms.specs.Under.scalar.declared.faults.ScriptFault.TheVariants.{UndefinedClass, BadOperand}
use Rattle.resin_meaning_forms.specs.Under.value.declared.value.Value.{Value}
use Rattle.resin_meaning_forms.specs.Under.value.declared.value.Value.TheVariants.{Null, Text, Arr, Obj}
use Rattle.resin_meaning_forms.specs.Under.value.Trees.{Tree}
use Rattle.resin_meaning_forms.specs.Under.value.Seen.{tree_of}
use Rattle.resin_meaning_forms.specs.Under.value.Values.{value_of}
use Rattle.resin_meaning_forms.specs.Under.tree.declared.declaration.Constant.{Constant}
use Rattle.resin_meaning_forms.specs.Under.tree.declared.declaration.Property.{Property}
use Rattle.resin_meaning_forms.specs.Under.tree.declared.expression.Call.{Call, Call-F, out-Call}
use Rattle.resin_meaning_forms.specs.Under.tree.declared.expression.Expr.{Expr}
use Rattle.resin_meaning_forms.specs.Under.heap.Classes.{parent_of, properties_of}
use Rattle.resin_meaning_forms.specs.Under.heap.Prelude.{number_of}
use Rattle.resin_meaning_forms.specs.Under.heap.declared.prelude.PreludeClass.TheVariants.{Throwable}
use Rattle.resin_meaning_forms.specs.Under.scope.Chained.{function_chain}
use Rattle.resin_meaning_forms.specs.Under.machine.declared.stop.Stop.TheVariants.{Thrown}
use Rattle.resin_meaning_forms.specs.Under.machine.Variables.{read}
use Rattle.resin_meaning_forms.specs.Under.machine.Objects.{class_of, find_class_of, make_object, set_field}
use Rattle.resin_meaning_forms.specs.Under.machine.Leaving.{deny_filter}
use Rattle.resin_meaning_forms.specs.Under.meaning.Programs.{Prog, give, stop, act, tried, quietly, ◌>>=◌}
use Rattle.resin_meaning_forms.specs.declared.callee.Callee.{Callee}
use Rattle.resin_meaning_forms.specs.declared.callee.Callee.TheVariants.{Script, Builtin, State as OfState, Channel}
use Rattle.resin_meaning_forms.specs.Parts.{Evals, faulted, looked, ◌>>◌}
use Rattle.resin_meaning_forms.specs.Invoke.{constant_program, call_script, call_object, run_method, Method, method_named, find_method}
use Rattle.resin_meaning_forms.specs.Merges.{list_of, values_in}
use Rattle.resin_meaning_forms.specs.Names.{find_callee}
use Rattle.resin_meaning_forms.specs.Writes.{plain}
use Rattle.resin_meaning_forms.specs.Functions.{builtin, state_function}
use Rattle.resin_meaning_forms.specs.Channels.{channel_function}
use Rattle.resin_meaning_forms.specs.Imports.{import_value}
use Rattle.resin_meaning_forms.specs.Calls.{values_on, values, array_answer, filter_function, function_filtered, ask_function_filters, invoked, filtered, call_found, call_named, object_of, or_orphan, parent_class, property_value, set_property, set_properties, makeable, class_to_make, constructed, with_properties, new_object, call_form}
use Rattle.resin_frame.specs.Frames.{IsFramed}
use Rattle.resin_frame.proofs.Frames.{FramedEvals, framing}
use Rattle.resin_frame.proofs.framed_forms.Invoke.{call_object_framed, call_script_framed, constant_program_framed, find_method_framed, run_method_framed}
use Rattle.resin_frame.proofs.framed_forms.Merges.{list_of_framed}
use Rattle.resin_frame.proofs.framed_forms.Functions.{builtin_framed, state_function_framed}
use Rattle.resin_frame.proofs.framed_forms.Channels.{channel_function_framed}
use Rattle.resin_frame.proofs.framed_forms.Names.{find_callee_framed}
use Rattle.resin_frame.proofs.framed_forms.Imports.{import_value_framed}

pub values_on_framed : {own : Option (List ℕ)} (ev : Evals) (vs : List Value) (a2 : List Expr) → FramedEvals own ev → IsFramed {A = (List Value)} own (values_on ev vs a2)
values_on_framed ev vs [] h = search framing depth 12
values_on_framed {own = own} ev vs (e ∷ es) h = let ih = λ (y1 : List Value). values_on_framed {own = own} ev y1 es h in search (framing, h.expr, ih) depth 12

pub values_framed : {own : Option (List ℕ)} (ev : Evals) (es : List Expr) → FramedEvals own ev → IsFramed {A = (List Value)} own (values ev es)
values_framed ev es h = search (framing, values_on_framed) depth 12

pub array_answer_framed : {own : Option (List ℕ)} (v : Value) → IsFramed {A = (List Tree)} own (array_answer v)
array_answer_framed (Arr a) = search framing depth 12
array_answer_framed v = search framing depth 12

pub filter_function_framed : {own : Option (List ℕ)} (ev : Evals) (name : List ℕ) (f : ℕ) (ts : List Tree) → FramedEvals own ev → IsFramed {A = (List Tree)} own (filter_function ev name f ts)
filter_function_framed ev name f ts h = search (framing, call_object_framed, list_of_framed, array_answer_framed) depth 12

pub function_filtered_framed : {own : Option (List ℕ)} (f : ℕ) (a1 : Result (List Tree) ℕ) → IsFramed {A = (List Tree)} own (function_filtered f a1)
function_filtered_framed f (Ok ts) = search framing depth 12
function_filtered_framed f (Err thrown) = search framing depth 12

pub ask_function_filters_framed : {own : Option (List ℕ)} (ev : Evals) (name : List ℕ) (a2 : List ℕ) (ts : List Tree) → FramedEvals own ev → IsFramed {A = (List Tree)} own (ask_function_filters ev name a2 ts)
ask_function_filters_framed ev name [] ts h = search framing depth 12
ask_function_filters_framed {own = own} ev name (f ∷ fs) ts h = let ih = λ (y3 : List Tree). ask_function_filters_framed {own = own} ev name fs y3 h in search (framing, filter_function_framed, function_filtered_framed, ih) depth 12

pub invoked_framed : {own : Option (List ℕ)} (ev : Evals) (a1 : Callee) (ts : List Tree) → FramedEvals own ev → IsFramed {A = Value} own (invoked ev a1 ts)
invoked_framed ev (Script f) ts h = search (framing, call_script_framed) depth 12
invoked_framed ev (Builtin b) ts h = search (framing, builtin_framed) depth 12
invoked_framed ev (OfState f) ts h = search (framing, state_function_framed) depth 12
invoked_framed ev (Channel f) ts h = search (framing, channel_function_framed) depth 12

pub filtered_framed : {own : Option (List ℕ)} (ev : Evals) (name : List ℕ) (ts : List Tree) → FramedEvals own ev → IsFramed {A = (List Tree)} own (filtered ev name ts)
filtered_framed ev name ts h = search (framing, ask_function_filters_framed) depth 12

pub call_found_framed : {own : Option (List ℕ)} (ev : Evals) (name : List ℕ) (callee : Callee) (vs : List Value) → FramedEvals own ev → IsFramed {A = Value} own (call_found ev name callee vs)
call_found_framed ev name callee vs h = search (framing, filtered_framed, invoked_framed) depth 12

pub call_named_framed : {own : Option (List ℕ)} (ev : Evals) (name : List ℕ) (vs : List Value) → FramedEvals own ev → IsFramed {A = Value} own (call_named ev name vs)
call_named_framed ev name vs h = search (framing, find_callee_framed, call_found_framed) depth 12

pub object_of_framed : {own : Option (List ℕ)} (v : Value) → IsFramed {A = ℕ} own (object_of v)
object_of_framed (Obj o) = search framing depth 12
object_of_framed v = search framing depth 12

pub or_orphan_framed : {own : Option (List ℕ)} (a0 : Option ℕ) → IsFramed {A = ℕ} own (or_orphan a0)
or_orphan_framed (Some class) = search framing depth 12
or_orphan_framed None = search framing depth 12

pub parent_class_framed : {own : Option (List ℕ)} → IsFramed {A = ℕ} own parent_class
parent_class_framed = search (framing, or_orphan_framed) depth 12

pub property_value_framed : {own : Option (List ℕ)} (a0 : Option Constant) → IsFramed {A = Value} own (property_value a0)
property_value_framed None = search framing depth 12
property_value_framed (Some c) = search (framing, constant_program_framed) depth 12

pub set_property_framed : {own : Option (List ℕ)} (o : ℕ) (p : Property) → IsFramed {A = (Unit {0})} own (set_property o p)
set_property_framed o p = search (framing, property_value_framed) depth 12

pub set_properties_framed : {own : Option (List ℕ)} (o : ℕ) (a1 : List Property) → IsFramed {A = (Unit {0})} own (set_properties o a1)
set_properties_framed o [] = search framing depth 12
set_properties_framed {own = own} o (p ∷ ps) = let ih = set_properties_framed {own = own} o ps in search (framing, set_property_framed) depth 12

pub makeable_framed : {own : Option (List ℕ)} (class : ℕ) → IsFramed {A = ℕ} own (makeable class)
makeable_framed class = search framing depth 12

pub class_to_make_framed : {own : Option (List ℕ)} (name : List ℕ) → IsFramed {A = ℕ} own (class_to_make name)
class_to_make_framed name = search (framing, makeable_framed) depth 12

pub constructed_framed : {own : Option (List ℕ)} (ev : Evals) (o : ℕ) (vs : List Value) (a3 : Option Method) → FramedEvals own ev → IsFramed {A = (Unit {0})} own (constructed ev o vs a3)
constructed_framed ev o vs None h = search framing depth 12
constructed_framed ev o vs (Some found) h = search (framing, run_method_framed) depth 12

pub with_properties_framed : {own : Option (List ℕ)} (class : ℕ) → IsFramed {A = ℕ} own (with_properties class)
with_properties_framed class = search (framing, set_properties_framed) depth 12

pub new_object_framed : {own : Option (List ℕ)} (ev : Evals) (class : ℕ) (vs : List Value) → FramedEvals own ev → IsFramed {A = Value} own (new_object ev class vs)
new_object_framed ev class vs h = search (framing, constructed_framed, with_properties_framed) depth 12

pub call_form_framed : {own : Option (List ℕ)} (ev : Evals) (c : Call) → FramedEvals own ev → IsFramed {A = Value} own (call_form ev c)
call_form_framed {own = own} ev c h = elim (out-Call c) as (λ x. IsFramed {A = Value} own (elim x [
  | Call-F.Function name es ↦ (do
    callee ← find_callee name
    vs ← values ev es
    call_found ev name callee vs)
  | Call-F.Method a name es ↦ (do
    v ← ev.expr a
    o ← object_of v
    class ← act (class_of o)
    found ← find_method class name
    vs ← values ev es
    run_method ev found.0 found.1 o vs)
  | Call-F.Parent name es ↦ (do
    class ← parent_class
    found ← find_method class name
    this ← act (read (codes "this"))
    o ← object_of this
    vs ← values ev es
    run_method ev found.0 found.1 o vs)
  | Call-F.New name es ↦ (do
    class ← class_to_make name
    vs ← values ev es
    new_object ev class vs)
  | Call-F.Import kind e ↦ ev.expr e >>= λ v. import_value ev kind v
])) [
  | Call-F.Function name es ↦ search (framing, run_method_framed, find_method_framed, find_callee_framed, import_value_framed, values_framed, call_found_framed, object_of_framed, parent_class_framed, class_to_make_framed, new_object_framed, h.expr) depth 12
  | Call-F.Method a name es ↦ search (framing, run_method_framed, find_method_framed, find_callee_framed, import_value_framed, values_framed, call_found_framed, object_of_framed, parent_class_framed, class_to_make_framed, new_object_framed, h.expr) depth 12
  | Call-F.Parent name es ↦ search (framing, run_method_framed, find_method_framed, find_callee_framed, import_value_framed, values_framed, call_found_framed, object_of_framed, parent_class_framed, class_to_make_framed, new_object_framed, h.expr) depth 12
  | Call-F.New name es ↦ search (framing, run_method_framed, find_method_framed, find_callee_framed, import_value_framed, values_framed, call_found_framed, object_of_framed, parent_class_framed, class_to_make_framed, new_object_framed, h.expr) depth 12
  | Call-F.Import kind e ↦ search (framing, run_method_framed, find_method_framed, find_callee_framed, import_value_framed, values_framed, call_found_framed, object_of_framed, parent_class_framed, class_to_make_framed, new_object_framed, h.expr) depth 12
]
