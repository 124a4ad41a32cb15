-- Steps on functions, classes and objects.
use Rattle.std.proofs.Common.{◌≡◌, ℕ, ◌+◌, ◌≤◌, ◌<◌, List, [], ◌∷◌, ◌++◌, length, Bool, true, false, cond, nat_lt, Option, Some, None, Result, Ok, Err, unwrap_or, is_some, refl, sym, ap, subst, ◌∙◌, arith}
use Rattle.std.specs.FinMap.{insert}
use Rattle.std.specs.Str.{str_to_ascii_lowercase}
use Rattle.std.proofs.lemmas.Bool.Decides.{nat_tests}
use Rattle.resin_heap.specs.Under.scalar.declared.faults.ScriptFault.TheVariants.{FuelSpent, UndefinedFunction, UndefinedClass, Redeclared, BadOperand}
use Rattle.resin_heap.specs.Under.value.declared.value.Value.{Value}
use Rattle.resin_heap.specs.Under.value.declared.value.Value.TheVariants.{Null}
use Rattle.resin_heap.specs.Under.tree.declared.declaration.Function.{Function}
use Rattle.resin_heap.specs.Under.tree.declared.declaration.ClassDecl.{ClassDecl}
use Rattle.resin_stage.specs.Under.scope.Names.{Named}
use Rattle.resin_heap.specs.Classes.{Table, find_class}
use Rattle.resin_heap.specs.Objects.{field, with_field, without_field, class_at, fields_at, with_fields}
use Rattle.resin_heap.specs.declared.heap.Object.{Object}
use Rattle.resin_machine.specs.declared.stop.Stop.{Stop}
use Rattle.resin_machine.specs.declared.stop.Stop.TheVariants.{Fault}
use Rattle.resin_machine.specs.State.{State}
use Rattle.resin_machine.specs.Steps.{Act, Acts, faults}
use Rattle.resin_machine.specs.Objects.{last_number, function_named, declare_function, found_function, find_function, lacks_parent, declare_class, found_class, find_class_of, make_object, is_object, with_object, class_of, read_field, with_fields_of, set_field, take_field, unset_field}
use Rattle.resin_machine.proofs.Taken.{gives_inside, gives_same, faulted, at_object, at_no_object}

-- the end of a step, with a state
abbrev with_end : {A : Type 0} → Result A Stop → State → Result A Stop × State
with_end r m = (r, m)

pub lt_true : (a b : ℕ) → a < b → nat_lt a b ≡ true
lt_true a b h = grind (arith, nat_tests)

pub lt_false : (a b : ℕ) → b ≤ a → nat_lt a b ≡ false
lt_false a b h = grind (arith, nat_tests)

-- ---- changes of one part

pub heap_acts : {A : Type 0} (a : Act A) (m m0 : State) (v : A) (heap : List Object) → m0 ≡ m → a m0 ≡ (Ok v, record m0 { heap = heap }) → Acts a m (Ok v) (record m0 { heap = heap })
heap_acts a m m0 v heap e0 e =
    subst (λ (x : State). Acts a x (Ok v) (record m0 { heap = heap })) e0
    (gives_inside a m0 v _ e (record { stage = refl; ticks = refl; request = refl; open_calls = refl; checking = refl }))

functions_acts : (a : Act (Unit {0})) (m m0 : State) (functions : Named Function) → m0 ≡ m → a m0 ≡ (Ok tt, record m0 { functions = functions }) → Acts a m (Ok tt) (record m0 { functions = functions })
functions_acts a m m0 functions e0 e =
    subst (λ (x : State). Acts a x (Ok tt) (record m0 { functions = functions })) e0
    (gives_inside a m0 tt _ e (record { stage = refl; ticks = refl; request = refl; open_calls = refl; checking = refl }))

classes_acts : (a : Act (Unit {0})) (m m0 : State) (classes : Table) → m0 ≡ m → a m0 ≡ (Ok tt, record m0 { classes = classes }) → Acts a m (Ok tt) (record m0 { classes = classes })
classes_acts a m m0 classes e0 e =
    subst (λ (x : State). Acts a x (Ok tt) (record m0 { classes = classes })) e0
    (gives_inside a m0 tt _ e (record { stage = refl; ticks = refl; request = refl; open_calls = refl; checking = refl }))

-- ---- functions

pub function_declared : (f : Function) (m m0 : State) (functions : Named Function) → m0 ≡ m → is_some (function_named f.name m0) ≡ false → functions ≡ insert m0.functions (str_to_ascii_lowercase f.name) f
    → Acts (declare_function f) m (Ok tt) (record m0 { functions = functions })
function_declared f m m0 functions e0 none e =
    functions_acts (declare_function f) m m0 functions e0
    (ap (λ b. cond b (faults {A = Unit {0}} Redeclared m0) (Ok tt, record m0 { functions = insert m0.functions (str_to_ascii_lowercase f.name) f })) none
    ∙ ap (λ (x : Named Function). with_end {A = Unit {0}} (Ok tt) (record m0 { functions = x })) (sym e))

pub function_redeclared : (f : Function) (m : State) → is_some (function_named f.name m) ≡ true → Acts (declare_function f) m (Err (Fault Redeclared m.line)) m
function_redeclared f m e =
    faulted (declare_function f) m Redeclared
    (ap (λ b. cond b (faults {A = Unit {0}} Redeclared m) (Ok tt, record m { functions = insert m.functions (str_to_ascii_lowercase f.name) f })) e)

pub function_found : (name : List ℕ) (m : State) (f : Function) → function_named name m ≡ Some f → Acts (find_function name) m (Ok f) m
function_found name m f e = gives_same (find_function name) m f (ap (λ o. found_function o m) e)

pub function_missing : (name : List ℕ) (m : State) → function_named name m ≡ None → Acts (find_function name) m (Err (Fault UndefinedFunction m.line)) m
function_missing name m e = faulted (find_function name) m UndefinedFunction (ap (λ o. found_function o m) e)

-- ---- classes

pub class_found : (name : List ℕ) (m : State) (c : ℕ) → find_class m.classes name ≡ Some c → Acts (find_class_of name) m (Ok c) m
class_found name m c e = gives_same (find_class_of name) m c (ap (λ o. found_class o m) e)

pub class_missing : (name : List ℕ) (m : State) → find_class m.classes name ≡ None → Acts (find_class_of name) m (Err (Fault UndefinedClass m.line)) m
class_missing name m e = faulted (find_class_of name) m UndefinedClass (ap (λ o. found_class o m) e)

-- what a declaration comes to, by its three tests
declares : (d : ClassDecl) (m : State) (room known orphan : Bool) → nat_lt (length m.classes) last_number ≡ room → is_some (find_class m.classes d.name) ≡ known → lacks_parent m.classes d ≡ orphan
    → declare_class d m ≡ cond room (cond known (faults Redeclared m) (cond orphan (faults UndefinedClass m) (Ok tt, record m { classes = m.classes ++ d ∷ [] }))) (faults FuelSpent m)
declares d m room known orphan r k o =
    (λ i. cond (r i) (cond (k i) (faults Redeclared m) (cond (o i) (faults UndefinedClass m) (Ok tt, record m { classes = m.classes ++ d ∷ [] }))) (faults FuelSpent m))

pub class_declared : (d : ClassDecl) (m m0 : State) (classes : Table) → m0 ≡ m → length m0.classes < last_number → is_some (find_class m0.classes d.name) ≡ false → lacks_parent m0.classes d ≡ false → classes ≡ m0.classes ++ d ∷ []
    → Acts (declare_class d) m (Ok tt) (record m0 { classes = classes })
class_declared d m m0 classes e0 lt k o e =
    classes_acts (declare_class d) m m0 classes e0
    (declares d m0 true false false (lt_true _ _ lt) k o ∙ ap (λ (x : Table). with_end {A = Unit {0}} (Ok tt) (record m0 { classes = x })) (sym e))

pub no_class_left : (d : ClassDecl) (m : State) → last_number ≤ length m.classes → Acts (declare_class d) m (Err (Fault FuelSpent m.line)) m
no_class_left d m le = faulted (declare_class d) m FuelSpent (declares d m false _ _ (lt_false _ _ le) refl refl)

pub class_redeclared : (d : ClassDecl) (m : State) → length m.classes < last_number → is_some (find_class m.classes d.name) ≡ true → Acts (declare_class d) m (Err (Fault Redeclared m.line)) m
class_redeclared d m lt k = faulted (declare_class d) m Redeclared (declares d m true true _ (lt_true _ _ lt) k refl)

pub class_orphaned : (d : ClassDecl) (m : State) → length m.classes < last_number → is_some (find_class m.classes d.name) ≡ false → lacks_parent m.classes d ≡ true → Acts (declare_class d) m (Err (Fault UndefinedClass m.line)) m
class_orphaned d m lt k o = faulted (declare_class d) m UndefinedClass (declares d m true false true (lt_true _ _ lt) k o)

-- ---- objects

pub object_made : (class : ℕ) (m m0 : State) (o : ℕ) (heap : List Object) → m0 ≡ m → length m0.heap < last_number → o ≡ length m0.heap + 1 → heap ≡ m0.heap ++ record { class = class; fields = [] } ∷ []
    → Acts (make_object class) m (Ok o) (record m0 { heap = heap })
object_made class m m0 o heap e0 lt n e =
    heap_acts (make_object class) m m0 o heap e0
    (ap (λ b. cond b (Ok (length m0.heap + 1), record m0 { heap = m0.heap ++ record { class = class; fields = [] } ∷ [] }) (faults FuelSpent m0)) (lt_true _ _ lt)
    ∙ (λ i. with_end (Ok (sym n i)) (record m0 { heap = sym e i })))

pub no_object_left : (class : ℕ) (m : State) → last_number ≤ length m.heap → Acts (make_object class) m (Err (Fault FuelSpent m.line)) m
no_object_left class m le =
    faulted (make_object class) m FuelSpent
    (ap (λ b. cond b (Ok (length m.heap + 1), record m { heap = m.heap ++ record { class = class; fields = [] } ∷ [] }) (faults FuelSpent m)) (lt_false _ _ le))

-- a step on a number without an object
pub no_object : {A : Type 0} (o : ℕ) (a : Act A) (m : State) → is_object m.heap o ≡ false → Acts (with_object o a) m (Err (Fault BadOperand m.line)) m
no_object o a m e = faulted (with_object o a) m BadOperand (at_no_object o a m e)

-- the value of a property, or null
pub field_read : (o : ℕ) (name : List ℕ) (m : State) (v : Value) → is_object m.heap o ≡ true → unwrap_or (field name (fields_at m.heap o)) Null ≡ v → Acts (read_field o name) m (Ok v) m
field_read o name m v there e =
    gives_same (read_field o name) m v
    (at_object o (λ x. with_end (Ok (unwrap_or (field name (fields_at x.heap o)) Null)) x) m there ∙ ap (λ (x : Value). with_end (Ok x) m) e)

pub class_told : (o : ℕ) (m : State) (class : ℕ) → is_object m.heap o ≡ true → class ≡ class_at m.heap o → Acts (class_of o) m (Ok class) m
class_told o m class there e =
    gives_same (class_of o) m class
    (at_object o (λ x. with_end (Ok (class_at x.heap o)) x) m there ∙ ap (λ (n : ℕ). with_end (Ok n) m) (sym e))

pub field_set : (o : ℕ) (name : List ℕ) (v : Value) (m m0 : State) (heap : List Object) → m0 ≡ m → is_object m0.heap o ≡ true → heap ≡ with_fields m0.heap o (with_field name v (fields_at m0.heap o))
    → Acts (set_field o name v) m (Ok tt) (record m0 { heap = heap })
field_set o name v m m0 heap e0 there e =
    heap_acts (set_field o name v) m m0 tt heap e0
    (at_object o (λ x. with_end (Ok tt) (with_fields_of o (with_field name v) x)) m0 there
    ∙ ap (λ (x : List Object). with_end {A = Unit {0}} (Ok tt) (record m0 { heap = x })) (sym e))

pub field_unset : (o : ℕ) (name : List ℕ) (m m0 : State) (heap : List Object) → m0 ≡ m → is_object m0.heap o ≡ true → heap ≡ with_fields m0.heap o (without_field name (fields_at m0.heap o))
    → Acts (unset_field o name) m (Ok tt) (record m0 { heap = heap })
field_unset o name m m0 heap e0 there e =
    heap_acts (unset_field o name) m m0 tt heap e0
    (at_object o (λ x. with_end (Ok tt) (with_fields_of o (without_field name) x)) m0 there
    ∙ ap (λ (x : List Object). with_end {A = Unit {0}} (Ok tt) (record m0 { heap = x })) (sym e))

-- what taking a property comes to
taking : (o : ℕ) (name : List ℕ) (m : State) (f : Option Value) → is_object m.heap o ≡ true → field name (fields_at m.heap o) ≡ f
    → take_field o name m ≡ (Ok (unwrap_or f Null), cond (is_some f) (with_fields_of o (with_field name Null) m) m)
taking o name m f there e =
    at_object o (λ x. (
      Ok (unwrap_or (field name (fields_at x.heap o)) Null),
      cond (is_some (field name (fields_at x.heap o))) (with_fields_of o (with_field name Null) x) x,
    )) m there
    ∙ ap (λ (g : Option Value). with_end (Ok (unwrap_or g Null)) (cond (is_some g) (with_fields_of o (with_field name Null) m) m)) e

pub field_taken : (o : ℕ) (name : List ℕ) (v : Value) (m m0 : State) (heap : List Object) → m0 ≡ m → is_object m0.heap o ≡ true → field name (fields_at m0.heap o) ≡ Some v → heap ≡ with_fields m0.heap o (with_field name Null (fields_at m0.heap o))
    → Acts (take_field o name) m (Ok v) (record m0 { heap = heap })
field_taken o name v m m0 heap e0 there f e =
    heap_acts (take_field o name) m m0 v heap e0
    (taking o name m0 (Some v) there f ∙ ap (λ (x : List Object). with_end {A = Value} (Ok v) (record m0 { heap = x })) (sym e))

pub no_field_taken : (o : ℕ) (name : List ℕ) (m : State) → is_object m.heap o ≡ true → field name (fields_at m.heap o) ≡ None → Acts (take_field o name) m (Ok Null) m
no_field_taken o name m there f = gives_same (take_field o name) m Null (taking o name m None there f)
