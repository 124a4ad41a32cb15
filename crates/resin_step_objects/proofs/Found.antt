-- Methods that are found, parameters that are bound, and objects that are made.
use Rattle.std.proofs.Common.{◌≡◌, ℕ, zero, suc, ◌+◌, ◌<◌, ◌≤◌, List, [], ◌∷◌, ◌++◌, length, drop, take, get_or, reverse, Bool, true, false, cond, Option, None, Some, Result, Ok, Err, inl, IsErrAnd, refl, sym, ap, subst, ◌∙◌, arith}
use Rattle.std.specs.Prelude.{slice_get, nat_eq, nat_lt, OnOk}
use Rattle.std.proofs.lemmas.Bool.Decides.{nat_tests}
use Rattle.std.specs.List.{flat_map}
use Rattle.std.specs.Option.{option_map_or, option_and_then}
use Rattle.std.proofs.lemmas.Result.{err_from_is_err_and}
use Rattle.std.proofs.lemmas.List.{drop_all}
use Rattle.resin_step_functions.specs.Under.scalar.declared.faults.CallStop.{CallStop}
use Rattle.resin_step_functions.specs.Under.scalar.declared.faults.CallStop.TheVariants.{Throw, Fault as CallFault, Memory as CallMemory}
use Rattle.resin_step_functions.specs.Under.scalar.declared.faults.ScriptFault.TheVariants.{UndefinedMethod, UndefinedClass, BadOperand}
use Rattle.resin_step_functions.specs.Under.value.declared.value.Value.{Value}
use Rattle.resin_step_functions.specs.Under.value.declared.value.Value.TheVariants.{Null, Int, Text, Arr, Obj, Bool as Truth}
use Rattle.resin_step_functions.specs.Under.value.Trees.{Tree}
use Rattle.resin_step_functions.specs.Under.value.Seen.{tree_of}
use Rattle.resin_step_functions.specs.Under.value.Values.{value_of, value_of-tree_of}
use Rattle.resin_tree.specs.declared.declaration.ClassDecl.{ClassDecl}
use Rattle.resin_tree.specs.declared.declaration.Parameter.{Parameter}
use Rattle.resin_tree.specs.declared.declaration.Property.{Property}
use Rattle.resin_step_functions.specs.Under.heap.Classes.{Table, line, line_within, parent_in, parent_of, find_method as find_in, first_method, method_of, own_properties, properties_of}
use Rattle.resin_step_functions.specs.Under.heap.declared.classes.MethodAt.{MethodAt}
use Rattle.resin_step_functions.specs.Under.machine.declared.stop.Stop.{Stop}
use Rattle.resin_step_functions.specs.Under.machine.declared.stop.Stop.TheVariants.{Fault, Memory}
use Rattle.resin_step_functions.specs.Under.machine.State.{State}
use Rattle.resin_step_functions.specs.Under.machine.Steps.{Acts, ActsLoosely}
use Rattle.resin_step_functions.specs.Under.machine.Variables.{assign}
use Rattle.resin_step_functions.specs.Under.heap.Prelude.{number_of}
use Rattle.resin_step_functions.specs.Under.heap.declared.prelude.PreludeClass.TheVariants.{Throwable}
use Rattle.resin_step_functions.specs.Under.machine.Objects.{find_class_of, make_object, settled, last_number}
use Rattle.resin_step_functions.specs.Under.meaning.Programs.{Prog, give, act, ◌>>=◌}
use Rattle.resin_step_functions.specs.Under.meaning.Runs.{World, world, Does}
use Rattle.resin_step_functions.proofs.meaning_lemmas.Composition.{does_act, does_next, does_stop, does_give, does_nothing, does_unbegun, front, front_number, nothing_left}
use Rattle.resin_step_functions.proofs.step_parts_lemmas.Answered.{does_looked}
use Rattle.resin_step_functions.specs.Under.meaning_forms.Runs.{Runs, on_ok}
use Rattle.resin_step_functions.specs.Under.meaning_forms.Parts.{faulted, looked, ◌>>◌}
use Rattle.resin_step_functions.specs.Under.meaning_forms.Invoke.{Method, argument_for, bind, first_of, behind_first, declared_at, method_named, or_undefined, find_method}
use Rattle.resin_step_functions.specs.Under.meaning_forms.Calls.{class_to_make, makeable, object_of, or_orphan, parent_class, set_property, set_properties, with_properties}
use Rattle.resin_step_objects.specs.Beginnings.{Begins}
use Rattle.resin_step_functions.proofs.step_parts_lemmas.Loops.{leaves_done}
use Rattle.resin_step_functions.proofs.step_parts_lemmas.Steps.{Leaves, leaves_here, does_faulted}

slice_past : {X : Type 0} (xs : List X) (i : ℕ) → length xs ≤ i → slice_get xs i ≡ None
slice_past [] i h = refl
slice_past (x ∷ xs) zero h = absurd (omega arith)
slice_past (x ∷ xs) (suc i) h = slice_past xs i (omega arith)

-- ---- classes that aren't declared

pub no_method : (t : Table) (c : ℕ) (name : List ℕ) → length t ≤ c → method_of t c name ≡ None
unfolding method_of line line_within first_method
no_method t c name h =
    ap (λ (d : Option ClassDecl). option_map_or (λ i. Some (let at : MethodAt = record { class = c; index = i } in at)) (find_in (option_map_or (λ (x : ClassDecl). x.methods) d []) name) (first_method t name (option_map_or (line_within c t) (option_and_then (parent_in (take c t)) d) [])))
    (slice_past t c h)

pub no_parent : (t : Table) (c : ℕ) → length t ≤ c → None ≡ parent_of t c
no_parent t c h = sym (ap (option_and_then (parent_in (take c t))) (slice_past t c h))

pub no_own : (t : Table) (c : ℕ) → length t ≤ c → own_properties t c ≡ []
no_own t c h = ap (λ (d : Option ClassDecl). option_map_or (λ (x : ClassDecl). x.properties) d []) (slice_past t c h)

pub no_properties : (t : Table) (c : ℕ) → length t ≤ c → properties_of t c ≡ []
unfolding properties_of line line_within
no_properties t c h =
    ap (λ (d : Option ClassDecl). flat_map (own_properties t) (reverse (c ∷ option_map_or (line_within c t) (option_and_then (parent_in (take c t)) d) []))) (slice_past t c h)
    ∙ ap (λ ps. ps ++ []) (no_own t c h)

pub own_declared : (t : Table) (c : ℕ) (d : ClassDecl) → slice_get t c ≡ Some d → own_properties t c ≡ d.properties
own_declared t c d e = ap (λ (o : Option ClassDecl). option_map_or (λ (x : ClassDecl). x.properties) o []) e

-- ---- methods

pub method_missing : (class : ℕ) (name : List ℕ) (m : State) (o : Option MethodAt) → o ≡ method_of m.classes class name → o ≡ None → None ≡ method_named class name m
method_missing class name m o is e = sym (ap (option_and_then (λ a. declared_at a m)) (sym is ∙ e))

-- a class that isn't declared has no method
pub undeclared_method : (class : ℕ) (name : List ℕ) (m : State) → length m.classes ≤ class → None ≡ method_named class name m
undeclared_method class name m le = method_missing class name m None (sym (no_method m.classes class name le)) refl

pub method_found : (class : ℕ) (name : List ℕ) (m : State) (found : Method) → Some found ≡ method_named class name m → Runs (find_method class name) m (Ok found) m
method_found class name m found e f t k =
    does_next (looked (method_named class name)) or_undefined (does_looked (method_named class name) (Some found) m e f t k) (does_give found (world m f t k))

pub method_unfound : (class : ℕ) (name : List ℕ) (m : State) (s : Stop) → None ≡ method_named class name m → s ≡ Fault UndefinedMethod m.line → Runs (find_method class name) m (Err s) m
method_unfound class name m s e fault f t k =
    does_next (looked (method_named class name)) or_undefined (does_looked (method_named class name) None m e f t k) (does_faulted UndefinedMethod m s fault f t k)

-- ---- parameters

pub first_at : (vs : List Value) (i : ℕ) → first_of (drop i vs) ≡ slice_get vs i
first_at [] zero = refl
first_at [] (suc i) = refl
first_at (v ∷ vs) zero = refl
first_at (v ∷ vs) (suc i) = first_at vs i

pub behind_at : (vs : List Value) (i : ℕ) → behind_first (drop i vs) ≡ drop (i + 1) vs
behind_at [] i = ap behind_first (drop_all i [] (omega arith)) ∙ sym (drop_all (i + 1) [] (omega arith))
behind_at (v ∷ vs) zero = refl
behind_at (v ∷ vs) (suc i) = behind_at vs i ∙ ap (λ n. drop n (v ∷ vs)) (let h : suc (i + 1) ≡ suc i + 1 = omega arith in h)

-- ---- what keeps the classes

pub settled_classes : {A : Type 0} (given : Result A CallStop) (m : State) (v : A) (m' : State) → settled given m ≡ (Ok v, m') → m'.classes ≡ m.classes
settled_classes {A = A} given m v m' e = sym (ap (λ (p : Result A Stop × State). p.1.classes) e) ∙ by given
  where
    either : (b : Bool) (r z : Result A Stop) (n : State) → n.classes ≡ m.classes → (let p : Result A Stop × State = cond b (r, n) (z, m) in p.1.classes) ≡ m.classes
    either true r z n h = h
    either false r z n h = refl

    by : (given : Result A CallStop) → (settled given m).1.classes ≡ m.classes
    by (Ok x) = refl
    by (Err (Throw kind)) = either (nat_lt (length m.heap) last_number) _ _ _ refl
    by (Err (CallFault fault)) = refl
    by (Err CallMemory) = refl

-- ---- properties that are set

pub begun_err : {A B : Type 0} (p q : Prog A) (m : State) (r : Result B Stop) (s : Stop) (m' : State) → IsErrAnd r (λ e. e ≡ s) → Runs p m (Err s) m' → Begins p q m r m'
begun_err p q m r s m' h d = let e = err_from_is_err_and r h in rw (e.1, e.2) d

pub property_more : (o : ℕ) (ps : List Property) (i : ℕ) (p : Property) (rest : List Property) (whole : Prog (Unit {0})) (m0 m m' : State) → i < length ps → p ≡ get_or ps i p
    → Leaves whole m0 (set_properties o (drop i ps ++ rest)) m → Runs (set_property o p) m (Ok tt) m' → Leaves whole m0 (set_properties o (drop (i + 1) ps ++ rest)) m'
property_more o ps i p rest whole m0 m m' lt at l d f t k = record {
  goes_on = λ r w e. (l f t k).goes_on r w (rw (front ps i p lt at) (does_next (set_property o p) (λ u. set_properties o (drop (i + 1) ps ++ rest)) (d f t k) e));
}

pub property_stops : (o : ℕ) (ps : List Property) (i : ℕ) (p : Property) (rest : List Property) (whole : Prog (Unit {0})) (m0 m m' : State) (s : Stop) → i < length ps → p ≡ get_or ps i p
    → Leaves whole m0 (set_properties o (drop i ps ++ rest)) m → Runs (set_property o p) m (Err s) m' → Runs whole m0 (Err s) m'
property_stops o ps i p rest whole m0 m m' s lt at l d f t k =
    (l f t k).goes_on (Err s) (world m' f t k) (rw (front ps i p lt at) (does_stop (set_property o p) (λ u. set_properties o (drop (i + 1) ps ++ rest)) (d f t k)))

pub class_more : (o : ℕ) (table : Table) (cs : List ℕ) (i c : ℕ) (whole : Prog (Unit {0})) (m0 m m' : State) → i < length cs → c ≡ get_or cs i 0 → m.classes ≡ table
    → Leaves whole m0 (set_properties o (flat_map (own_properties table) (drop i cs))) m
    → ((rest : List Property) → Begins {B = Unit {0}} (set_properties o (own_properties m.classes c ++ rest)) (set_properties o rest) m (Ok tt) m')
    → Leaves whole m0 (set_properties o (flat_map (own_properties table) (drop (i + 1) cs))) m'
class_more o table cs i c whole m0 m m' lt at kept l b f t k =
    let step = b (flat_map (own_properties table) (drop (i + 1) cs)) f t k in
    let cut : drop i cs ≡ c ∷ drop (i + 1) cs = front_number cs i lt ∙ ap (λ n. n ∷ drop (i + 1) cs) (sym at) in
    record {
      goes_on = λ r w e. (l f t k).goes_on r w
          (subst (λ (xs : List ℕ). Does (set_properties o (flat_map (own_properties table) xs)) (world m f t k) r w) (sym cut)
          (subst (λ (x : Table). Does (set_properties o (own_properties x c ++ flat_map (own_properties table) (drop (i + 1) cs))) (world m f t k) r w) kept (step.goes_on r w e)));
    }

pub class_stops : (o : ℕ) (table : Table) (cs : List ℕ) (i c : ℕ) (whole : Prog (Unit {0})) (m0 m m' : State) (s : Stop) → i < length cs → c ≡ get_or cs i 0 → m.classes ≡ table
    → Leaves whole m0 (set_properties o (flat_map (own_properties table) (drop i cs))) m
    → ((rest : List Property) → Begins {B = Unit {0}} (set_properties o (own_properties m.classes c ++ rest)) (set_properties o rest) m (Err s) m')
    → Runs whole m0 (Err s) m'
class_stops o table cs i c whole m0 m m' s lt at kept l b f t k =
    let cut : drop i cs ≡ c ∷ drop (i + 1) cs = front_number cs i lt ∙ ap (λ n. n ∷ drop (i + 1) cs) (sym at) in
    (l f t k).goes_on (Err s) (world m' f t k)
    (subst (λ (xs : List ℕ). Does (set_properties o (flat_map (own_properties table) xs)) (world m f t k) (Err s) (world m' f t k)) (sym cut)
    (subst (λ (x : Table). Does (set_properties o (own_properties x c ++ flat_map (own_properties table) (drop (i + 1) cs))) (world m f t k) (Err s) (world m' f t k)) kept
    (b (flat_map (own_properties table) (drop (i + 1) cs)) f t k)))

-- want of memory before the properties of a list are set
pub properties_unbegun : (o : ℕ) (ps : List Property) (m : State) → Runs (set_properties o ps) m (Err Memory) m
properties_unbegun o [] m f t k = does_nothing {A = Unit {0}} (give tt) (λ failing at. inl refl)
properties_unbegun o (p ∷ ps) m f t k = does_unbegun (set_property o p) (λ u. set_properties o ps)

-- a class that isn't declared has none
pub none_begun : (o : ℕ) (t : Table) (c : ℕ) (rest : List Property) (m : State) → length t ≤ c → Begins {B = Unit {0}} (set_properties o (own_properties t c ++ rest)) (set_properties o rest) m (Ok tt) m
none_begun o t c rest m h =
    subst (λ (ps : List Property). Leaves (set_properties o (ps ++ rest)) m (set_properties o rest) m) (sym (no_own t c h)) (leaves_here (set_properties o rest) m)

-- all that a class declares are set
pub own_begun : (o : ℕ) (t : Table) (c : ℕ) (ps : List Property) (i : ℕ) (rest : List Property) (m m' : State) → length ps ≤ i → ps ≡ own_properties t c
    → Leaves (set_properties o (ps ++ rest)) m (set_properties o (drop i ps ++ rest)) m' → Begins {B = Unit {0}} (set_properties o (own_properties t c ++ rest)) (set_properties o rest) m (Ok tt) m'
own_begun o t c ps i rest m m' le is l =
    subst (λ (qs : List Property). Leaves (set_properties o (qs ++ rest)) m (set_properties o rest) m') is
    (subst (λ (ds : List Property). Leaves (set_properties o (ps ++ rest)) m (set_properties o (ds ++ rest)) m') (nothing_left ps i le) l)

-- one of them stops
pub own_stops : (o : ℕ) (t : Table) (c : ℕ) (ps : List Property) (i : ℕ) (p : Property) (rest : List Property) (m0 m m' : State) (s : Stop) (r : Result (Unit {0}) Stop) → i < length ps → p ≡ get_or ps i p → IsErrAnd r (λ e. e ≡ s)
    → ps ≡ own_properties t c → Leaves (set_properties o (ps ++ rest)) m0 (set_properties o (drop i ps ++ rest)) m → Runs (set_property o p) m (Err s) m'
    → Begins (set_properties o (own_properties t c ++ rest)) (set_properties o rest) m0 r m'
own_stops o t c ps i p rest m0 m m' s r lt at h is l d =
    begun_err (set_properties o (own_properties t c ++ rest)) (set_properties o rest) m0 r s m' h
    (subst (λ (qs : List Property). Runs (set_properties o (qs ++ rest)) m0 (Err s) m') is (property_stops o ps i p rest (set_properties o (ps ++ rest)) m0 m m' s lt at l d))

-- the properties of the classes that declare those of a class, as the machine has them
pub given_properties : (t kept : Table) (c : ℕ) (cs given : List ℕ) → given ≡ cs → flat_map (own_properties kept) cs ≡ properties_of kept c → kept ≡ t → flat_map (own_properties t) given ≡ properties_of t c
given_properties t kept c cs given e f same =
    ap (flat_map (own_properties t)) e ∙ ap (λ u. flat_map (own_properties u) cs) (sym same) ∙ f ∙ ap (λ u. properties_of u c) same

-- all classes of a line are done
pub classes_done : (o : ℕ) (t : Table) (cs : List ℕ) (i : ℕ) (m m' : State) → length cs ≤ i → Leaves (set_properties o (flat_map (own_properties t) cs)) m (set_properties o (flat_map (own_properties t) (drop i cs))) m'
    → Runs (set_properties o (flat_map (own_properties t) cs)) m (Ok tt) m'
classes_done o t cs i m m' le l =
    leaves_done (set_properties o (flat_map (own_properties t) cs)) (set_properties o (flat_map (own_properties t) (drop i cs))) tt m m' (ap (λ xs. set_properties o (flat_map (own_properties t) xs)) (nothing_left cs i le)) l

-- a new object, once its properties are set
abbrev furnished : ℕ → ℕ → Prog ℕ
furnished class o = looked (λ m. properties_of m.classes class) >>= λ properties. (set_properties o properties >> give o)

pub object_furnished : (class o : ℕ) (m m1 m2 : State) (properties : List Property) → properties ≡ properties_of m1.classes class → Acts (make_object class) m (Ok o) m1 → Runs (set_properties o properties) m1 (Ok tt) m2
    → Runs (with_properties class) m (Ok o) m2
object_furnished class o m m1 m2 properties is a d f t k =
    does_next (act (make_object class)) (furnished class) (does_act (make_object class) f t k a)
    (does_next (looked (λ x. properties_of x.classes class)) (λ ps. set_properties o ps >> give o) (does_looked (λ x. properties_of x.classes class) properties m1 is f t k)
    (does_next (set_properties o properties) (λ u. give o) (d f t k) (does_give o (world m2 f t k))))

pub object_unfurnished : (class o : ℕ) (m m1 m2 : State) (properties : List Property) (s : Stop) → properties ≡ properties_of m1.classes class → Acts (make_object class) m (Ok o) m1 → Runs (set_properties o properties) m1 (Err s) m2
    → Runs (with_properties class) m (Err s) m2
object_unfurnished class o m m1 m2 properties s is a d f t k =
    does_next (act (make_object class)) (furnished class) (does_act (make_object class) f t k a)
    (does_next (looked (λ x. properties_of x.classes class)) (λ ps. set_properties o ps >> give o) (does_looked (λ x. properties_of x.classes class) properties m1 is f t k)
    (does_stop (set_properties o properties) (λ u. give o) (d f t k)))

-- ---- values of constant expressions, as steps

pub settle_keeps : {A : Type 0} (given : Result A CallStop) (m : State) (r : Result A Stop) (m' : State) → ActsLoosely (settled given) m r m' → OnOk r (m'.classes ≡ m.classes)
settle_keeps given m (Ok v) m' h = settled_classes given m v m' h.acted
settle_keeps given m (Err s) m' h = tt

-- a program of trees, whose values the code gives
pub does_value : (p : Prog Tree) {u v : World} (r : Result Value Stop) → Does p u (on_ok tree_of r) v → Does (p >>= λ t. give (value_of t)) u r v
does_value p {u = u} {v = v} (Ok x) d =
    subst (λ (y : Value). Does (p >>= λ t. give (value_of t)) u (Ok y) v) (value_of-tree_of x) (does_next p (λ t. give (value_of t)) d (does_give (value_of (tree_of x)) v))
does_value p (Err s) d = does_stop p (λ t. give (value_of t)) d

-- ---- parameters, one after the other

abbrev assigned_then : List Parameter → List Value → Parameter → Value → Prog (Unit {0})
assigned_then ps vs p v = act (assign p.name v) >>= λ u. bind ps vs

-- a parameter more has its argument
pub bound_more : (ps : List Parameter) (vs : List Value) (i : ℕ) (p : Parameter) (v : Value) (whole : Prog (Unit {0})) (m0 m m1 m2 : State) → i < length ps → p ≡ get_or ps i p
    → Leaves whole m0 (bind (drop i ps) (drop i vs)) m → Runs (argument_for p (slice_get vs i)) m (Ok v) m1 → Acts (assign p.name v) m1 (Ok tt) m2 → Leaves whole m0 (bind (drop (i + 1) ps) (drop (i + 1) vs)) m2
bound_more ps vs i p v whole m0 m m1 m2 lt at l a b f t k = record {
  goes_on = λ r w e. (l f t k).goes_on r w
      (rw (front ps i p lt at)
      (does_next (argument_for p (first_of (drop i vs))) (assigned_then (drop (i + 1) ps) (behind_first (drop i vs)) p) (rw (first_at vs i) (a f t k))
      (does_next (act (assign p.name v)) (λ u. bind (drop (i + 1) ps) (behind_first (drop i vs))) (does_act (assign p.name v) f t k b) (rw (behind_at vs i) e))));
}

pub argument_stops : (ps : List Parameter) (vs : List Value) (i : ℕ) (p : Parameter) (whole : Prog (Unit {0})) (m0 m m1 : State) (s : Stop) (r : Result (Unit {0}) Stop) → i < length ps → p ≡ get_or ps i p → IsErrAnd r (λ e. e ≡ s)
    → Leaves whole m0 (bind (drop i ps) (drop i vs)) m → Runs (argument_for p (slice_get vs i)) m (Err s) m1 → Runs whole m0 r m1
argument_stops ps vs i p whole m0 m m1 s r lt at h l a f t k =
    let e = err_from_is_err_and r h in
    rw (e.1, e.2) ((l f t k).goes_on (Err s) (world m1 f t k)
    (rw (front ps i p lt at) (does_stop (argument_for p (first_of (drop i vs))) (assigned_then (drop (i + 1) ps) (behind_first (drop i vs)) p) (rw (first_at vs i) (a f t k)))))

pub assigning_stops : (ps : List Parameter) (vs : List Value) (i : ℕ) (p : Parameter) (v : Value) (whole : Prog (Unit {0})) (m0 m m1 m2 : State) (s : Stop) (r : Result (Unit {0}) Stop) → i < length ps → p ≡ get_or ps i p → IsErrAnd r (λ e. e ≡ s)
    → Leaves whole m0 (bind (drop i ps) (drop i vs)) m → Runs (argument_for p (slice_get vs i)) m (Ok v) m1 → Acts (assign p.name v) m1 (Err s) m2 → Runs whole m0 r m2
assigning_stops ps vs i p v whole m0 m m1 m2 s r lt at h l a b f t k =
    let e = err_from_is_err_and r h in
    rw (e.1, e.2) ((l f t k).goes_on (Err s) (world m2 f t k)
    (rw (front ps i p lt at)
    (does_next (argument_for p (first_of (drop i vs))) (assigned_then (drop (i + 1) ps) (behind_first (drop i vs)) p) (rw (first_at vs i) (a f t k))
    (does_stop (act (assign p.name v)) (λ u. bind (drop (i + 1) ps) (behind_first (drop i vs))) (does_act (assign p.name v) f t k b)))))

-- ---- objects

pub no_object : (v : Value) → ((o : ℕ) → v ≡ Obj o → ⊥) → ◌≡◌ {A = Prog ℕ} (object_of v) (faulted BadOperand)
no_object Null h = refl
no_object (Truth b) h = refl
no_object (Int n s) h = refl
no_object (Text t) h = refl
no_object (Arr a) h = refl
no_object (Obj o) h = absurd (h o refl)

-- ---- classes that are named

pub parent_found : (m : State) (class : ℕ) (o : Option ℕ) → o ≡ option_and_then (parent_of m.classes) m.running → o ≡ Some class → Runs parent_class m (Ok class) m
parent_found m class o is e f t k =
    does_next (looked (λ x. option_and_then (parent_of x.classes) x.running)) or_orphan
    (does_looked (λ x. option_and_then (parent_of x.classes) x.running) (Some class) m (sym e ∙ is) f t k) (does_give class (world m f t k))

pub parent_missing : (m : State) (s : Stop) (o : Option ℕ) → o ≡ option_and_then (parent_of m.classes) m.running → o ≡ None → s ≡ Fault UndefinedClass m.line → Runs parent_class m (Err s) m
parent_missing m s o is e fault f t k =
    does_next (looked (λ x. option_and_then (parent_of x.classes) x.running)) or_orphan
    (does_looked (λ x. option_and_then (parent_of x.classes) x.running) None m (sym e ∙ is) f t k) (does_faulted UndefinedClass m s fault f t k)

abbrev makeable_by : ℕ → Bool → Prog ℕ
makeable_by class b = cond b (faulted UndefinedClass) (give class)

pub unmakeable : (name : List ℕ) (m m' : State) (class : ℕ) (s : Stop) → Acts (find_class_of name) m (Ok class) m' → class ≡ number_of Throwable → s ≡ Fault UndefinedClass m'.line → Runs (class_to_make name) m (Err s) m'
unmakeable name m m' class s a e fault f t k =
    does_next (act (find_class_of name)) makeable (does_act (find_class_of name) f t k a)
    (subst (λ (b : Bool). Does (makeable_by class b) (world m' f t k) (Err s) (world m' f t k)) (sym (same class (number_of Throwable) e)) (does_faulted UndefinedClass m' s fault f t k))
  where
    same : (x y : ℕ) → x ≡ y → nat_eq x y ≡ true
    same x y h = grind (arith, nat_tests)

pub made_of : (name : List ℕ) (m m' : State) (class : ℕ) → Acts (find_class_of name) m (Ok class) m' → (class ≡ number_of Throwable → ⊥) → Runs (class_to_make name) m (Ok class) m'
made_of name m m' class a differs f t k =
    does_next (act (find_class_of name)) makeable (does_act (find_class_of name) f t k a)
    (subst (λ (b : Bool). Does (makeable_by class b) (world m' f t k) (Ok class) (world m' f t k)) (sym (other (nat_eq class (number_of Throwable)) (λ h. differs (equal class (number_of Throwable) h)))) (does_give class (world m' f t k)))
  where
    equal : (x y : ℕ) → nat_eq x y ≡ true → x ≡ y
    equal x y h = grind (arith, nat_tests)

    other : (b : Bool) → (b ≡ true → ⊥) → b ≡ false
    other true h = absurd (h refl)
    other false h = refl
