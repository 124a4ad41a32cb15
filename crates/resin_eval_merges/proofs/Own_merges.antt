-- Classes that have the runtime's own `merge`, and what it answers.
use Rattle.std.proofs.Common.{◌≡◌, ℕ, zero, suc, ◌+◌, ◌≤◌, max, ℤ, pos, ◌+ℤ◌, Bool, true, false, cond, List, [], ◌∷◌, ◌++◌, map, length, is_some, Option, None, Some, Result, Ok, Err, refl, sym, ap, subst, ◌∙◌, arith}
use Rattle.std.specs.Prelude.{◌||◌, ◌&&◌, codes, nat_eq, nat_le, int_lt}
use Rattle.std.specs.List.{list_any}
use Rattle.std.specs.Option.{option_map_or, option_map, option_and_then}
use Rattle.std.specs.FinMap.{get-empty, contains_key, insert, empty as no_variables, empty as no_names}
use Rattle.std.proofs.lemmas.Bool.{eq-eqb, or_right, lt-ltb}
use Rattle.resin_eval_nested.specs.Under.tree.declared.declaration.Function.{Function}
use Rattle.resin_eval_nested.specs.Under.scalar.declared.faults.CallStop.{CallStop}
use Rattle.resin_eval_nested.specs.Under.scalar.declared.faults.CallStop.TheVariants.{Fault}
use Rattle.resin_eval_nested.specs.Under.scalar.declared.faults.ScriptFault.TheVariants.{ArrayTooDeep, BadOperand}
use Rattle.resin_eval_nested.specs.Under.value.declared.value.Value.{Value}
use Rattle.resin_eval_nested.specs.Under.value.declared.value.Value.TheVariants.{Arr, Obj}
use Rattle.resin_eval_nested.specs.Under.value.declared.key.Key.TheVariants.{Int}
use Rattle.resin_eval_nested.specs.Under.value.Trees.{object}
use Rattle.resin_eval_nested.specs.Under.value.Arrays.{Array}
use Rattle.resin_eval_nested.specs.Under.value.Changes.{put, next_of, largest_with, empty as empty_array}
use Rattle.resin_eval_nested.specs.Under.scope.Frames.{Frames, Variables}
use Rattle.resin_eval_nested.specs.Under.scope.Names.{name_order}
use Rattle.resin_eval_nested.specs.Under.heap.Classes.{Table, first_method, find_method as find_in, methods_of, method_of, is_a, line, function_at}
use Rattle.resin_eval_nested.specs.Under.heap.Objects.{class_at}
use Rattle.resin_eval_nested.specs.Under.heap.Prelude.{prelude, number_of, function_of}
use Rattle.resin_eval_nested.specs.Under.heap.declared.classes.MethodAt.{MethodAt}
use Rattle.resin_eval_nested.specs.Under.heap.declared.prelude.PreludeClass.TheVariants.{Policy}
use Rattle.resin_eval_nested.specs.Under.heap.declared.prelude.PreludeMethod.TheVariants.{MergeToItself}
use Rattle.resin_eval_nested.specs.Under.machine.State.{State}
use Rattle.resin_eval_nested.specs.Under.machine.Objects.{class_of, is_object}
use Rattle.resin_eval_nested.specs.Under.machine.Steps.{faults}
use Rattle.resin_eval_nested.specs.Under.machine.declared.stop.Stop.{Stop}
use Rattle.resin_eval_nested.specs.Under.machine.Variables.{assign, in_call, after_call, is_input, is_session}
use Rattle.resin_eval_nested.specs.Under.meaning.Programs.{Whole, give, act}
use Rattle.resin_eval_nested.specs.Under.meaning_forms.Parts.{Evals, computed, looked}
use Rattle.resin_eval_nested.specs.Under.meaning_forms.Invoke.{Method, bind, bound_method, call_object, own_body, run_method, find_method, method_named, declared_at, or_undefined}
use Rattle.resin_eval_nested.specs.Under.meaning_forms.Merges.{is_under}
use Rattle.resin_eval_nested.specs.Under.meaning_forms.Under.array_fn.Filled.{and_then, filled, filled_on, in_order, put_next}
use Rattle.resin_eval_merges.specs.OwnMerge.{AnswersItself, HasOwnMerge}
use Rattle.resin_eval_merges.proofs.Steady.{Ends, in_state, gives, then, steps, looks, computes, encloses}

-- ---- the method that is found

-- the class of a method that is found along a line stands in it, and the method is the one that it declares
record FoundIn (t : Table) (name : List ℕ) (cs : List ℕ) (at : MethodAt) : Type 0 where
  class : list_any (nat_eq at.class) cs ≡ true
  declared : find_in (methods_of t at.class) name ≡ Some at.index

found_here : (t : Table) (name : List ℕ) (c i : ℕ) (cs : List ℕ) (at : MethodAt) → find_in (methods_of t c) name ≡ Some i → Some (let it : MethodAt = record { class = c; index = i } in it) ≡ Some at → FoundIn t name (c ∷ cs) at
found_here t name c i cs at is e =
    let here : MethodAt = record { class = c; index = i } in
    let same : here ≡ at = cc in
    subst (λ (x : MethodAt). FoundIn t name (c ∷ cs) x) same
    (record { class = ap (λ b. b || list_any (nat_eq c) cs) (eq-eqb c c refl); declared = is })

found_above : (t : Table) (name : List ℕ) (c : ℕ) (cs : List ℕ) (at : MethodAt) → FoundIn t name cs at → FoundIn t name (c ∷ cs) at
found_above t name c cs at f = record { class = or_right (nat_eq at.class c) (list_any (nat_eq at.class) cs) f.class; declared = f.declared }

found_by : (t : Table) (name : List ℕ) (c : ℕ) (cs : List ℕ) (at : MethodAt) → (first_method t name cs ≡ Some at → FoundIn t name cs at)
    → (o : Option ℕ) → find_in (methods_of t c) name ≡ o → option_map_or (λ i. Some (let it : MethodAt = record { class = c; index = i } in it)) o (first_method t name cs) ≡ Some at → FoundIn t name (c ∷ cs) at
found_by t name c cs at above None is e = found_above t name c cs at (above e)
found_by t name c cs at above (Some i) is e = found_here t name c i cs at is e

found_in : (t : Table) (name : List ℕ) (cs : List ℕ) (at : MethodAt) → first_method t name cs ≡ Some at → FoundIn t name cs at
unfolding first_method
found_in t name [] at e = cc
found_in t name (c ∷ cs) at e = found_by t name c cs at (found_in t name cs at) (find_in (methods_of t c) name) refl e

-- the place of the runtime's own `merge`
abbrev pub own_place : MethodAt
own_place = record { class = 10; index = 1 }

some_is : (i j : ℕ) → ◌≡◌ {A = Option ℕ} (Some i) (Some j) → i ≡ j
some_is i j e = cc

-- the `merge` that `Policy` declares is the second of its methods
policy_methods : (more t : Table) → t ≡ prelude ++ more → find_in (methods_of t (number_of Policy)) (codes "merge") ≡ Some 1
policy_methods more t e = ap (λ (x : Table). find_in (methods_of x (number_of Policy)) (codes "merge")) e

policy_merge : (more t : Table) → t ≡ prelude ++ more → function_at t own_place ≡ Some (function_of MergeToItself)
policy_merge more t e = ap (λ (x : Table). function_at x own_place) e

index_is : (t : Table) (at : MethodAt) (class : ℕ) → at.class ≡ class → find_in (methods_of t class) (codes "merge") ≡ Some 1 → find_in (methods_of t at.class) (codes "merge") ≡ Some at.index → 1 ≡ at.index
index_is t at class k f g = some_is 1 at.index (sym f ∙ sym (ap (λ (c : ℕ). find_in (methods_of t c) (codes "merge")) k) ∙ g)

place_is : (at : MethodAt) → at.class ≡ number_of Policy → 1 ≡ at.index → at ≡ own_place
place_is at k i = λ j. (let it : MethodAt = record { class = k j; index = sym i j } in it)

-- what is known of a class with the runtime's own `merge`
pub record Known (t : Table) (class : ℕ) : Type 0 where
  pub found : method_of t class (codes "merge") ≡ Some own_place
  pub declared : function_at t own_place ≡ Some (function_of MergeToItself)
  pub under : is_a t class (number_of Policy) ≡ true

found_along : (t : Table) (class : ℕ) (at : MethodAt) → method_of t class (codes "merge") ≡ Some at → FoundIn t (codes "merge") (line t class) at
unfolding method_of
found_along t class at e = found_in t (codes "merge") (line t class) at e

stands_under : (t : Table) (class : ℕ) (at : MethodAt) → at.class ≡ number_of Policy → FoundIn t (codes "merge") (line t class) at → is_a t class (number_of Policy) ≡ true
unfolding is_a
stands_under t class at k f = ap (λ (c : ℕ). list_any (nat_eq c) (line t class)) (sym k) ∙ f.class

pub known : (t : Table) (class : ℕ) → HasOwnMerge t class → Known t class
known t class h =
    let f = found_along t class h.at h.found in
    let place : h.at ≡ own_place = place_is h.at h.own (index_is t h.at (number_of Policy) h.own (policy_methods h.begins.0 t h.begins.1) f.declared) in
    record {
      found = h.found ∙ ap (λ (x : MethodAt). let o : Option MethodAt = Some x in o) place;
      declared = policy_merge h.begins.0 t h.begins.1;
      under = stands_under t class h.at h.own f;
    }

-- ---- the call

-- the list of an object alone
abbrev pub alone : ℕ → Array
alone o = put (Int (pos 0)) (object o) empty_array

-- the method of an object that answers itself
abbrev pub own_method : Method
own_method = (own_place, function_of MergeToItself)

pub method_is : (m : State) (o : ℕ) → AnswersItself m o → method_named (class_at m.heap o) (codes "merge") m ≡ Some own_method
method_is m o h =
    let k = known m.classes (class_at m.heap o) h.own in
    ap (option_and_then (λ (at : MethodAt). declared_at at m)) k.found ∙ ap (option_map (λ (f : Function). let it : Method = (own_place, f) in it)) k.declared

-- a call of the runtime's own method, with variables in it
abbrev with_frame : State → Variables → State
with_frame m vs = record m {
  frames = record { top = m.frames.top; calls = record { variables = vs; bound = no_names } ∷ m.frames.calls };
  running = Some (number_of Policy);
}

-- a variable is set in it
assigned_in : (m : State) (vs : Variables) (name : List ℕ) (v : Value) → is_input name ≡ false → is_session name ≡ false → assign name v (with_frame m vs) ≡ (Ok tt, with_frame m (insert vs name v))
assigned_in m vs name v i s =
    let unbound : contains_key no_names name ≡ false = ap is_some (get-empty {X = Unit {0}} name_order name) in
    let m' = with_frame m vs in
    let at_top : Frames = record { top = insert m.frames.top name v; calls = m'.frames.calls } in
    let in_call : Frames = record { top = m.frames.top; calls = record { variables = insert vs name v; bound = no_names } ∷ m.frames.calls } in
    λ j. (Ok tt, cond (i j) (record m' { inputs = insert m.inputs name v }) (cond (s j) (record m' { session = v }) (record m' { frames = cond (unbound j) at_top in_call })))

class_is : (m : State) (o : ℕ) → is_object m.heap o ≡ true → class_of o m ≡ (Ok (class_at m.heap o), m)
class_is m o e =
    let there : Result ℕ Stop × State = (Ok (class_at m.heap o), m) in
    ap (λ (b : Bool). cond b there (faults BadOperand m)) e

runs : (ev : Evals) (o : ℕ) (v : Value) (at : Whole) → Ends (run_method ev own_place (function_of MergeToItself) o (v ∷ [])) at (Arr (alone o)) at
runs ev o v at =
    let m = at.state in
    let with_this : Variables = insert no_variables (codes "this") (Obj o) in
    let with_set : Variables = insert with_this (codes "set") v in
    let at0 : Whole = in_state (with_frame m no_variables) at in
    let at1 : Whole = in_state (with_frame m with_this) at in
    let at2 : Whole = in_state (with_frame m with_set) at in
    let set : Ends (act (assign (codes "set") v)) at1 tt at2 = steps (assign (codes "set") v) at1 tt (with_frame m with_set) (assigned_in m with_this (codes "set") v refl refl) in
    let this : Ends (act (assign (codes "this") (Obj o))) at0 tt at1 = steps (assign (codes "this") (Obj o)) at0 tt (with_frame m with_this) (assigned_in m no_variables (codes "this") (Obj o) refl refl) in
    let bound : Ends (bind (function_of MergeToItself).parameters (v ∷ [])) at1 tt at2 = then (give v) _ (gives v at1) (then (act (assign (codes "set") v)) _ set (gives tt at2)) in
    let body : Ends (own_body MergeToItself o) at2 (Arr (alone o)) at2 = then (computed (filled (in_order (object o ∷ [])))) _ (computes (filled (in_order (object o ∷ []))) at2 (alone o) refl) (gives (Arr (alone o)) at2) in
    encloses (in_call (Some (number_of Policy))) after_call (bound_method ev own_place (function_of MergeToItself) o (v ∷ [])) at at2 (Arr (alone o))
    (then (act (assign (codes "this") (Obj o))) _ this (then (bind (function_of MergeToItself).parameters (v ∷ [])) _ bound body))

-- such a policy answers a list of itself, and leaves all as it was
pub answers : (ev : Evals) (o : ℕ) (v : Value) (at : Whole) → AnswersItself at.state o → Ends (call_object ev o (codes "merge") (v ∷ [])) at (Arr (alone o)) at
answers ev o v at h =
    let class = class_at at.state.heap o in
    let finds : Ends (find_method class (codes "merge")) at own_method at = then (looked (method_named class (codes "merge"))) or_undefined (looks (method_named class (codes "merge")) at (Some own_method) (method_is at.state o h)) (gives own_method at) in
    then (act (class_of o)) _ (steps (class_of o) at class at.state (class_is at.state o h.made)) (then (find_method class (codes "merge")) _ finds (runs ev o v at))

-- it is a policy
pub is_policy : (m : State) (o : ℕ) → AnswersItself m o → is_under Policy m (object o) ≡ true
is_policy m o h = let k = known m.classes (class_at m.heap o) h.own in λ i. h.made i && k.under i

-- ---- lists of objects

-- so many keys are used, from 0 on
Used : ℕ → Option ℤ → Type 0
Used zero l = l ≡ None
Used (suc k) l = l ≡ Some (pos k)

-- the most keys from 0 on
abbrev pub most_keys : ℕ
most_keys = 9223372036854775807

next_is : (k : ℕ) (l : Option ℤ) → Used k l → k ≤ most_keys → next_of l ≡ Some (pos k)
unfolding Used
next_is zero l u le = ap next_of u
next_is (suc k) l u le =
    let below : int_lt (pos k) (pos most_keys) ≡ true = lt-ltb k most_keys (omega (arith, le)) in
    let more : pos k +ℤ pos 1 ≡ pos (suc k) = ap pos (let n : k + 1 ≡ suc k = omega arith in n) in
    ap next_of u ∙ (λ i. cond (below i) (let next : Option ℤ = Some (more i) in next) None)

largest_is : (k : ℕ) (l : Option ℤ) → Used k l → Used (suc k) (largest_with (Int (pos k)) l)
unfolding Used
largest_is zero l u = ap (largest_with (Int (pos zero))) u
largest_is (suc k) l u =
    let below : int_lt (pos k) (pos (suc k)) ≡ true = lt-ltb k (suc k) (omega arith) in
    ap (largest_with (Int (pos (suc k)))) u ∙ ap (λ (b : Bool). let l : Option ℤ = Some (cond b (pos (suc k)) (pos k)) in l) below

fills_on : (os : List ℕ) (a : Array) (k : ℕ) → Used k a.largest → a.height ≡ 1 → k + length os ≤ most_keys → (b : Array) × (filled_on a (in_order (map object os)) ≡ Ok b)
fills_on [] a k u h le = (a, refl)
fills_on (o ∷ os) a k u h le =
    let es = in_order (map object os) in
    let more : Array = put (Int (pos k)) (object o) a in
    let rest = fills_on os more (suc k) (largest_is k a.largest u) (ap (λ n. max n 1) h) (omega (arith, le)) in
    let Made : Type 0 = Result Array CallStop in
    let next = ap (λ (n : Option ℤ). and_then (put_next n (object o) a) (λ b. filled_on b es)) (next_is k a.largest u (omega (arith, le))) in
    let low = ap (λ (n : ℕ). let made : Made = cond (nat_le (max n 1) 100) (Ok more) (Err (Fault ArrayTooDeep)) in and_then made (λ b. filled_on b es)) h in
    (rest.0, next ∙ low ∙ rest.1)

-- there is a list of so many objects
pub fills : (os : List ℕ) → length os ≤ most_keys → (b : Array) × (filled (in_order (map object os)) ≡ Ok b)
unfolding Used
fills os le = fills_on os empty_array 0 refl refl (omega (arith, le))
