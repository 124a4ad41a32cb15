-- The programs of Invoke are framed.
use Rattle.std.specs.Prelude.{ℕ, pos, negsuc, true, false, List, [], ◌∷◌, codes, Option, None, Some, Result, Ok}
use Rattle.std.specs.Option.{option_map, option_and_then}
use Rattle.resin_meaning_forms.specs.Under.label.Sets.{empty as no_labels}
use Rattle.resin_meaning_forms.specs.Under.lstr.Texts.{carrying}
use Rattle.resin_meaning_forms.specs.Under.scalar.declared.faults.CallStop.{CallStop}
use Rattle.resin_meaning_forms.specs.Under.scalar.declared.faults.ScriptFault.TheVariants.{UndefinedMethod}
use Rattle.resin_meaning_forms.specs.Under.value.declared.value.Value.{Value}
use Rattle.resin_meaning_forms.specs.Under.value.declared.value.Value.TheVariants.{Null, Arr, Obj}
use Rattle.resin_meaning_forms.specs.Under.value.Trees.{Tree, null, boolean, integer, text, object}
use Rattle.resin_meaning_forms.specs.Under.value.Values.{value_of}
use Rattle.resin_meaning_forms.specs.Under.ops.Conversions.{key_of}
use Rattle.resin_meaning_forms.specs.Under.value.Arrays.{Array}
use Rattle.resin_meaning_forms.specs.Under.value.Changes.{empty}
use Rattle.resin_meaning_forms.specs.Under.array_fn.Filled.{and_then, filled, added_at, in_order, Addition}
use Rattle.resin_meaning_forms.specs.Under.builtin.Rows.{mapped, tree_of_array}
use Rattle.resin_meaning_forms.specs.Under.tree.declared.declaration.Constant.{Constant, Constant-F, fold-Constant}
use Rattle.resin_meaning_forms.specs.Under.tree.declared.declaration.ConstantItem.{ConstantItem, ConstantItem-F, fold-ConstantItem}
use Rattle.resin_meaning_forms.specs.Under.tree.declared.declaration.Function.{Function}
use Rattle.resin_meaning_forms.specs.Under.tree.declared.declaration.Parameter.{Parameter}
use Rattle.resin_meaning_forms.specs.Under.tree.declared.expression.Literal.{Literal}
use Rattle.resin_meaning_forms.specs.Under.tree.declared.expression.Literal.TheVariants as literal
use Rattle.resin_meaning_forms.specs.Under.tree.declared.expression.ConstantName.{ConstantName}
use Rattle.resin_meaning_forms.specs.Under.tree.declared.expression.ConstantName.TheVariants as name
use Rattle.resin_meaning_forms.specs.Under.tree.declared.statement.Stmt.{Stmt}
use Rattle.resin_meaning_forms.specs.Under.heap.Classes.{method_of, function_at}
use Rattle.resin_meaning_forms.specs.Under.heap.Prelude.{prelude_method_at}
use Rattle.resin_meaning_forms.specs.Under.heap.declared.classes.MethodAt.{MethodAt}
use Rattle.resin_meaning_forms.specs.Under.heap.declared.prelude.PreludeClass.TheVariants.{ArgumentCountError, PolicyException}
use Rattle.resin_meaning_forms.specs.Under.heap.declared.prelude.PreludeMethod.{PreludeMethod}
use Rattle.resin_meaning_forms.specs.Under.heap.declared.prelude.PreludeMethod.TheVariants.{Construct, GetMessage, GetCode, Allow, MergeToItself, Refuse, FilterRead, FilterWrite, FilterFunction}
use Rattle.resin_meaning_forms.specs.Under.machine.State.{State}
use Rattle.resin_meaning_forms.specs.Under.machine.Variables.{read, assign}
use Rattle.resin_meaning_forms.specs.Under.machine.Objects.{class_of, read_field, set_field}
use Rattle.resin_meaning_forms.specs.Under.meaning.Programs.{Prog, give, act, framed, ◌>>=◌}
use Rattle.resin_meaning_forms.specs.declared.course.Course.{Course}
use Rattle.resin_meaning_forms.specs.declared.course.Course.TheVariants.{Next, Break, Continue, Return}
use Rattle.resin_meaning_forms.specs.Parts.{Evals, computed, faulted, thrown_new, looked, ◌>>◌}
use Rattle.resin_meaning_forms.specs.Invoke.{constant_of, literal_of, ItemValue, item_of, addition_of, with_item, with_items, constant_layer, constant_value, item_value, mapped_value, constant_program, default_value, first_of, behind_first, argument_for, bind, block, result_of, own_body, script_body, bound_body, method_body, call_script, bound_method, run_method, Method, declared_at, method_named, or_undefined, find_method, call_object}
use Rattle.resin_frame.specs.Frames.{IsFramed}
use Rattle.resin_frame.proofs.Frames.{framed_bind, FramedEvals, framing}

pub constant_program_framed : {own : Option (List ℕ)} (c : Constant) → IsFramed {A = Value} own (constant_program c)
constant_program_framed c = search framing depth 12

pub default_value_framed : {own : Option (List ℕ)} (a0 : Option Constant) → IsFramed {A = Value} own (default_value a0)
default_value_framed None = search framing depth 12
default_value_framed (Some c) = search (framing, constant_program_framed) depth 12

pub argument_for_framed : {own : Option (List ℕ)} (p : Parameter) (a1 : Option Value) → IsFramed {A = Value} own (argument_for p a1)
argument_for_framed p (Some v) = search framing depth 12
argument_for_framed p None = search (framing, default_value_framed) depth 12

pub bind_framed : {own : Option (List ℕ)} (a0 : List Parameter) (vs : List Value) → IsFramed {A = (Unit {0})} own (bind a0 vs)
bind_framed [] vs = search framing depth 12
bind_framed {own = own} (p ∷ ps) vs = let ih = λ (y1 : List Value). bind_framed {own = own} ps y1 in search (framing, argument_for_framed, ih) depth 12

pub block_framed : {own : Option (List ℕ)} (ev : Evals) (a1 : List Stmt) → FramedEvals own ev → IsFramed {A = Course} own (block ev a1)
block_framed ev [] h = search framing depth 12
block_framed {own = own} ev (s ∷ ss) h = let ih = block_framed {own = own} ev ss h in framed_bind _ _ (search (framing, h.stmt) depth 12) (λ x. elim x as (λ y. IsFramed {A = Course} own (elim y [ Next ↦ block ev ss | Break ↦ give Break | Continue ↦ give Continue | Return v ↦ give (Return v) ])) [ Next ↦ search (framing, h.stmt) depth 12 | Break ↦ search (framing, h.stmt) depth 12 | Continue ↦ search (framing, h.stmt) depth 12 | Return v ↦ search (framing, h.stmt) depth 12 ])

pub own_body_framed : {own : Option (List ℕ)} (a0 : PreludeMethod) (this : ℕ) → IsFramed {A = Value} own (own_body a0 this)
own_body_framed Construct this = search framing depth 12
own_body_framed GetMessage this = search framing depth 12
own_body_framed GetCode this = search framing depth 12
own_body_framed Allow this = search framing depth 12
own_body_framed MergeToItself this = search framing depth 12
own_body_framed Refuse this = search framing depth 12
own_body_framed FilterRead this = search framing depth 12
own_body_framed FilterWrite this = search framing depth 12
own_body_framed FilterFunction this = search framing depth 12

pub script_body_framed : {own : Option (List ℕ)} (ev : Evals) (f : Function) → FramedEvals own ev → IsFramed {A = Value} own (script_body ev f)
script_body_framed ev f h = search (framing, block_framed) depth 12

pub bound_body_framed : {own : Option (List ℕ)} (ev : Evals) (f : Function) (vs : List Value) → FramedEvals own ev → IsFramed {A = Value} own (bound_body ev f vs)
bound_body_framed ev f vs h = search (framing, bind_framed, script_body_framed) depth 12

pub method_body_framed : {own : Option (List ℕ)} (ev : Evals) (a1 : Option PreludeMethod) (f : Function) (this : ℕ) → FramedEvals own ev → IsFramed {A = Value} own (method_body ev a1 f this)
method_body_framed ev (Some own) f this h = search (framing, own_body_framed) depth 12
method_body_framed ev None f this h = search (framing, script_body_framed) depth 12

pub call_script_framed : {own : Option (List ℕ)} (ev : Evals) (f : Function) (vs : List Value) → FramedEvals own ev → IsFramed {A = Value} own (call_script ev f vs)
call_script_framed ev f vs h = search (framing, bound_body_framed) depth 12

pub bound_method_framed : {own : Option (List ℕ)} (ev : Evals) (at : MethodAt) (f : Function) (this : ℕ) (vs : List Value) → FramedEvals own ev → IsFramed {A = Value} own (bound_method ev at f this vs)
bound_method_framed ev at f this vs h = search (framing, bind_framed, method_body_framed) depth 12

pub run_method_framed : {own : Option (List ℕ)} (ev : Evals) (at : MethodAt) (f : Function) (this : ℕ) (vs : List Value) → FramedEvals own ev → IsFramed {A = Value} own (run_method ev at f this vs)
run_method_framed ev at f this vs h = search (framing, bound_method_framed) depth 12

pub or_undefined_framed : {own : Option (List ℕ)} (a0 : Option Method) → IsFramed {A = Method} own (or_undefined a0)
or_undefined_framed (Some found) = search framing depth 12
or_undefined_framed None = search framing depth 12

pub find_method_framed : {own : Option (List ℕ)} (class : ℕ) (name : List ℕ) → IsFramed {A = Method} own (find_method class name)
find_method_framed class name = search (framing, or_undefined_framed) depth 12

pub call_object_framed : {own : Option (List ℕ)} (ev : Evals) (o : ℕ) (name : List ℕ) (vs : List Value) → FramedEvals own ev → IsFramed {A = Value} own (call_object ev o name vs)
call_object_framed ev o name vs h = search (framing, run_method_framed, find_method_framed) depth 12
