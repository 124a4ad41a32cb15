-- Calls of functions and methods once they are found and their arguments are evaluated (PHP manual, "Functions" and "Classes and Objects"), and the
-- bodies of the methods of the runtime's own classes, which cost nothing.
use Rattle.std.specs.Prelude.{ℕ, pos, negsuc, true, false, List, [], ◌∷◌, codes, Option, None, Some, Result, Ok}
use Rattle.std.specs.Option.{option_map, option_and_then}
use Rattle.resin_builtin.specs.Under.label.Sets.{empty as no_labels}
use Rattle.resin_builtin.specs.Under.lstr.Texts.{carrying}
use Rattle.resin_builtin.specs.Under.scalar.declared.faults.CallStop.{CallStop}
use Rattle.resin_builtin.specs.Under.scalar.declared.faults.ScriptFault.TheVariants.{UndefinedMethod}
use Rattle.resin_builtin.specs.Under.value.declared.value.Value.{Value}
use Rattle.resin_builtin.specs.Under.value.declared.value.Value.TheVariants.{Null, Arr, Obj}
use Rattle.resin_builtin.specs.Under.value.Trees.{Tree, null, boolean, integer, text, object}
use Rattle.resin_builtin.specs.Under.value.Values.{value_of}
use Rattle.resin_target.specs.Under.ops.Conversions.{key_of}
use Rattle.resin_builtin.specs.Under.value.Arrays.{Array}
use Rattle.resin_builtin.specs.Under.value.Changes.{empty}
use Rattle.resin_builtin.specs.Under.array_fn.Filled.{and_then, filled, added_at, in_order, Addition}
use Rattle.resin_builtin.specs.Rows.{mapped, tree_of_array}
use Rattle.resin_target.specs.Under.tree.declared.declaration.Constant.{Constant, Constant-F, fold-Constant}
use Rattle.resin_target.specs.Under.tree.declared.declaration.ConstantItem.{ConstantItem, ConstantItem-F, fold-ConstantItem}
use Rattle.resin_target.specs.Under.tree.declared.declaration.Function.{Function}
use Rattle.resin_target.specs.Under.tree.declared.declaration.Parameter.{Parameter}
use Rattle.resin_target.specs.Under.tree.declared.expression.Literal.{Literal}
use Rattle.resin_target.specs.Under.tree.declared.expression.Literal.TheVariants as literal
use Rattle.resin_target.specs.Under.tree.declared.expression.ConstantName.{ConstantName}
use Rattle.resin_target.specs.Under.tree.declared.expression.ConstantName.TheVariants as name
use Rattle.resin_target.specs.Under.tree.declared.statement.Stmt.{Stmt}
use Rattle.resin_target.specs.Under.heap.Classes.{method_of, function_at}
use Rattle.resin_target.specs.Under.heap.Prelude.{prelude_method_at}
use Rattle.resin_target.specs.Under.heap.declared.classes.MethodAt.{MethodAt}
use Rattle.resin_target.specs.Under.heap.declared.prelude.PreludeClass.TheVariants.{ArgumentCountError, PolicyException}
use Rattle.resin_target.specs.Under.heap.declared.prelude.PreludeMethod.{PreludeMethod}
use Rattle.resin_target.specs.Under.heap.declared.prelude.PreludeMethod.TheVariants.{Construct, GetMessage, GetCode, Allow, MergeToItself}
use Rattle.resin_target.specs.Under.heap.declared.prelude.PreludeMethod.TheVariants.{Refuse, FilterRead, FilterWrite, FilterFunction}
use Rattle.resin_target.specs.Under.machine.State.{State}
use Rattle.resin_target.specs.Under.machine.Variables.{read, assign}
use Rattle.resin_target.specs.Under.machine.Objects.{class_of, read_field, set_field}
use Rattle.resin_meaning_tables.specs.Under.meaning.Programs.{Prog, give, act, framed, ◌>>=◌}
use Rattle.resin_meaning_forms.specs.declared.course.Course.{Course}
use Rattle.resin_meaning_forms.specs.declared.course.Course.TheVariants.{Next, Break, Continue, Return}
use Rattle.resin_meaning_forms.specs.Parts.{Evals, computed, faulted, thrown_new, looked, ◌>>◌}

-- ---- constants

abbrev pub constant_of : ConstantName → Tree
constant_of name.Null = null
constant_of name.True = boolean true
constant_of name.False = boolean false
constant_of name.IntMax = integer (pos 9223372036854775807) no_labels
constant_of name.IntMin = integer (negsuc 9223372036854775807) no_labels
constant_of name.EndOfLine = text (carrying no_labels (10 ∷ []))
constant_of name.FileAppend = integer (pos 8) no_labels
constant_of name.PadLeft = integer (pos 0) no_labels
constant_of name.PadRight = integer (pos 1) no_labels

-- a literal; it carries nothing
abbrev pub literal_of : Literal → Tree
literal_of (literal.Int n) = integer n no_labels
literal_of (literal.Text bytes) = text (carrying no_labels bytes)
literal_of (literal.Constant c) = constant_of c

-- an item of a constant array: what its key and its value are
abbrev pub ItemValue : Type 0
ItemValue = Option (Result Tree CallStop) × Result Tree CallStop

abbrev pub item_of : ConstantItem-F (Result Tree CallStop) ItemValue → ItemValue
item_of i = (i.key, i.value)

-- what an item adds to an array: its key is turned once its value is there
abbrev pub addition_of : ItemValue → Result Addition CallStop
addition_of (None, value) = and_then value (λ v. Ok (None, v))
addition_of (Some key, value) = and_then key (λ k. and_then value (λ v. and_then (key_of k) (λ at. Ok (Some at, v))))

abbrev pub with_item : Result Array CallStop → ItemValue → Result Array CallStop
with_item so_far i = and_then so_far (λ a. and_then (addition_of i) (λ e. added_at e.0 e.1 a))

abbrev pub with_items : Result Array CallStop → List ItemValue → Result Array CallStop
with_items so_far [] = so_far
with_items so_far (i ∷ is) = with_items (with_item so_far i) is

abbrev pub constant_layer : Constant-F (Result Tree CallStop) ItemValue → Result Tree CallStop
constant_layer (Constant-F.Literal l) = Ok (literal_of l)
constant_layer (Constant-F.Array is) = mapped tree_of_array (with_items (Ok empty) is)

-- the value of a constant expression, which is made each time that it is asked for
unfoldable pub constant_value : Constant → Result Tree CallStop
constant_value = fold-Constant (Result Tree CallStop) ItemValue constant_layer item_of

-- what the key and the value of an item are
unfoldable pub item_value : ConstantItem → ItemValue
item_value = fold-ConstantItem (Result Tree CallStop) ItemValue constant_layer item_of

-- a tree as a value
abbrev pub mapped_value : Result Tree CallStop → Result Value CallStop
mapped_value r = mapped value_of r

abbrev pub constant_program : Constant → Prog Value
constant_program c = computed (constant_value c) >>= λ t. give (value_of t)

-- ---- parameters

-- an argument that isn't given is the default, and ArgumentCountError where there is none
abbrev pub default_value : Option Constant → Prog Value
default_value None = thrown_new ArgumentCountError
default_value (Some c) = constant_program c

abbrev pub first_of : List Value → Option Value
first_of [] = None
first_of (v ∷ vs) = Some v

abbrev pub behind_first : List Value → List Value
behind_first [] = []
behind_first (v ∷ vs) = vs

abbrev pub argument_for : Parameter → Option Value → Prog Value
argument_for p (Some v) = give v
argument_for p None = default_value p.default

-- each parameter gets its argument, from the first on; further arguments are ignored
abbrev pub bind : List Parameter → List Value → Prog (Unit {0})
bind [] vs = give tt
bind (p ∷ ps) vs = do
  v ← argument_for p (first_of vs)
  _ ← act (assign p.name v)
  bind ps (behind_first vs)

-- ---- bodies

-- statements, one after the other, as long as each ends with going on
abbrev pub block : Evals → List Stmt → Prog Course
block ev [] = give Next
block ev (s ∷ ss) = ev.stmt s >>= elim [ Next ↦ block ev ss | Break ↦ give Break | Continue ↦ give Continue | Return v ↦ give (Return v) ]

-- what a call answers: the value of `return`, else null
abbrev pub result_of : Course → Value
result_of (Return v) = v
result_of Next = Null
result_of Break = Null
result_of Continue = Null

-- what a method of the runtime's own classes does on the object, in a call that has its arguments
abbrev pub own_body : PreludeMethod → ℕ → Prog Value
own_body Construct this = do
  message ← act (read (codes "message"))
  code ← act (read (codes "code"))
  _ ← act (set_field this (codes "message") message)
  _ ← act (set_field this (codes "code") code)
  give Null
own_body GetMessage this = act (read_field this (codes "message"))
own_body GetCode this = act (read_field this (codes "code"))
own_body Allow this = give Null
own_body MergeToItself this = do
  a ← computed (filled (in_order (object this ∷ [])))
  give (Arr a)
own_body Refuse this = thrown_new PolicyException
own_body FilterRead this = act (read (codes "data"))
own_body FilterWrite this = act (read (codes "data"))
own_body FilterFunction this = act (read (codes "args"))

abbrev pub script_body : Evals → Function → Prog Value
script_body ev f = block ev f.body >>= λ course. give (result_of course)

-- the same with its parameters
abbrev pub bound_body : Evals → Function → List Value → Prog Value
bound_body ev f vs = bind f.parameters vs >> script_body ev f

abbrev pub method_body : Evals → Option PreludeMethod → Function → ℕ → Prog Value
method_body ev (Some own) f this = own_body own this
method_body ev None f this = script_body ev f

-- ---- calls

-- a function of a script, in a call of its own
abbrev pub call_script : Evals → Function → List Value → Prog Value
call_script ev f vs = framed None (bound_body ev f vs)

-- a method with `$this` and its parameters
abbrev pub bound_method : Evals → MethodAt → Function → ℕ → List Value → Prog Value
bound_method ev at f this vs = act (assign (codes "this") (Obj this)) >> (bind f.parameters vs >> method_body ev (prelude_method_at at) f this)

-- a method on an object, in a call of its own, in which `$this` is the object
abbrev pub run_method : Evals → MethodAt → Function → ℕ → List Value → Prog Value
run_method ev at f this vs =
    framed (Some at.class) (bound_method ev at f this vs)

-- a method that was found, with its declaration
abbrev pub Method : Type 0
Method = MethodAt × Function

abbrev pub declared_at : MethodAt → State → Option Method
declared_at at m = option_map (λ f. (at, f)) (function_at m.classes at)

-- the method of a name that the objects of a class have, if they have one
abbrev pub method_named : ℕ → List ℕ → State → Option Method
method_named class name m = option_and_then (λ at. declared_at at m) (method_of m.classes class name)

abbrev pub or_undefined : Option Method → Prog Method
or_undefined (Some found) = give found
or_undefined None = faulted UndefinedMethod

abbrev pub find_method : ℕ → List ℕ → Prog Method
find_method class name = looked (method_named class name) >>= or_undefined

-- a method of an object that the runtime calls by its name
abbrev pub call_object : Evals → ℕ → List ℕ → List Value → Prog Value
call_object ev o name vs = do
  class ← act (class_of o)
  found ← find_method class name
  run_method ev found.0 found.1 o vs
