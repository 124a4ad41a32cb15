-- Steps whose value is seen otherwise, looks at the state, want of memory, and loops of steps.
use Rattle.std.proofs.Common.{◌≡◌, [], length, Bool, true, false, cond, Result, Ok, Err, inl, IsErrAnd, refl, sym, ap, subst, ◌∙◌, arith}
use Rattle.std.proofs.lemmas.Result.{err_from_is_err_and}
use Rattle.std.specs.Prelude.{nat_lt}
use Rattle.resin_meaning_forms.specs.Under.store.Files.{LabelledFiles}
use Rattle.resin_meaning_forms.specs.Under.base.TableStore.{TableStore}
use Rattle.resin_meaning_forms.specs.Under.base.declared.calls.Calls.{Calls}
use Rattle.resin_meaning_forms.specs.Under.scalar.declared.faults.CallStop.{CallStop}
use Rattle.resin_meaning_forms.specs.Under.scalar.declared.faults.CallStop.TheVariants.{Throw, Fault as CallFault, Memory as CallMemory}
use Rattle.resin_meaning_forms.specs.Under.scalar.declared.faults.ScriptFault.{ScriptFault}
use Rattle.resin_meaning_forms.specs.Under.scalar.declared.faults.ScriptFault.TheVariants.{BadOperand}
use Rattle.resin_meaning_forms.specs.Under.value.declared.value.Value.{Value}
use Rattle.resin_meaning_forms.specs.Under.value.Trees.{Tree}
use Rattle.resin_meaning_forms.specs.Under.value.Seen.{tree_of}
use Rattle.resin_meaning_forms.specs.Under.ops.Places.{seen_answer}
use Rattle.resin_meaning_forms.specs.Under.heap.declared.prelude.PreludeClass.{PreludeClass}
use Rattle.resin_meaning_forms.specs.Under.builtin.Rows.{mapped}
use Rattle.resin_meaning_forms.specs.Under.machine.declared.stop.Stop.{Stop}
use Rattle.resin_meaning_forms.specs.Under.machine.declared.stop.Stop.TheVariants.{Thrown, Exit, Fault, Keeper, Memory}
use Rattle.resin_meaning_forms.specs.Under.machine.State.{State}
use Rattle.resin_meaning_forms.specs.Under.machine.Steps.{Act, ActsLoosely, ActedLoosely, faults}
use Rattle.resin_meaning_forms.specs.Under.machine.Objects.{settled, throw_new, last_number}
use Rattle.resin_meaning_forms.proofs.target_lemmas.machine_kept.{keeps_same}
use Rattle.resin_meaning_forms.specs.Under.target.Reads.{GivesOrNoMemory}
use Rattle.resin_meaning_forms.specs.Under.meaning.Programs.{Prog, give, act, ◌>>=◌}
use Rattle.resin_meaning_forms.specs.Under.meaning.Runs.{Seen, World, world, Does, Leads}
use Rattle.resin_meaning_forms.proofs.meaning_lemmas.Composition.{does_act, does_loosely, does_next, does_stop, does_give, does_nothing, leads_here}
use Rattle.resin_step_parts.proofs.Answered.{does_computed}
use Rattle.resin_meaning_forms.specs.Runs.{Runs, on_ok}
use Rattle.resin_meaning_forms.specs.Parts.{computed, faulted, thrown_new}

-- ---- a value seen otherwise

abbrev pub on_end : {A B : Type 0} → (A → B) → Result A Stop × State → Result B Stop × State
on_end f p = (on_ok f p.0, p.1)

stop_seen : {A B : Type 0} (f : A → B) (b : Bool) (s z : Stop) (m n : State) → ◌≡◌ {A = Result B Stop × State} (cond b (Err s, m) (Err z, n)) (on_end f (cond b (Err s, m) (Err z, n)))
stop_seen f true s z m n = refl
stop_seen f false s z m n = refl

settled_seen : {A B : Type 0} (f : A → B) (x : Result A CallStop) (m : State) → settled (mapped f x) m ≡ on_end f (settled x m)
settled_seen f (Ok v) m = refl
settled_seen f (Err (Throw kind)) m = stop_seen f (nat_lt (length m.heap) last_number) _ _ _ _
settled_seen f (Err (CallFault fault)) m = refl
settled_seen f (Err CallMemory) m = refl

seen_acted : {A B : Type 0} (f : A → B) (a : Act A) (b : Act B) (m : State) (r : Result A Stop) (m' : State) → b m ≡ on_end f (a m) → ActedLoosely a m r m' → ActedLoosely b m (on_ok f r) m'
seen_acted f a b m (Ok v) m' e h = e ∙ ap (on_end f) h
seen_acted f a b m (Err (Thrown o)) m' e h = e ∙ ap (on_end f) h
seen_acted f a b m (Err Exit) m' e h = e ∙ ap (on_end f) h
seen_acted f a b m (Err (Fault fault line)) m' e h = e ∙ ap (on_end f) h
seen_acted f a b m (Err Keeper) m' e h = h
seen_acted f a b m (Err Memory) m' e h = h

-- the step that gives another value of each
pub seen_step : {A B : Type 0} (f : A → B) (a : Act A) (b : Act B) (m : State) (r : Result A Stop) (m' : State) → b m ≡ on_end f (a m) → ActsLoosely a m r m' → ActsLoosely b m (on_ok f r) m'
seen_step {A = A} {B = B} f a b m r m' e h = record {
  acted = seen_acted f a b m r m' e h.acted;
  ticks = h.ticks;
  keeps = h.keeps;
  ties = λ ne t. h.ties (λ k. ne (ap (on_ok f) k)) t;
}

-- a throw, whatever is not given
pub thrown_seen : {A B : Type 0} (f : A → B) (class : PreludeClass) (m : State) (r : Result A Stop) (m' : State) → ActsLoosely (throw_new {A = A} class []) m r m' → Runs (thrown_new {A = B} class) m (on_ok f r) m'
thrown_seen {A = A} {B = B} f class m r m' h u t k =
    does_loosely (throw_new {A = B} class []) u t k
    (seen_step f (throw_new {A = A} class []) (throw_new {A = B} class []) m r m' (stop_seen f (nat_lt (length m.heap) last_number) _ _ _ _) h)

seen_as_mapped : (x : Result Value CallStop) → seen_answer x ≡ mapped tree_of x
seen_as_mapped (Ok v) = refl
seen_as_mapped (Err stop) = refl

-- a value that a rule gives as a tree, once it is settled
pub does_computed_tree : (given : Result Value CallStop) (rule : Result Tree CallStop) {m m' : State} {r : Result Value Stop} → GivesOrNoMemory (seen_answer given) rule → ActsLoosely (settled given) m r m'
    → (f : Seen LabelledFiles) (t : Seen TableStore) (k : Calls) → Does (computed rule) (world m f t k) (on_ok tree_of r) (world m' f t k)
does_computed_tree given rule {m = m} {m' = m'} {r = r} g h =
    does_computed (seen_answer given) rule g (seen_step tree_of (settled given) (settled (seen_answer given)) m r m' (ap (λ x. settled x m) (seen_as_mapped given) ∙ settled_seen tree_of given m) h)

-- a program whose value is seen otherwise
pub does_seen : {A B : Type 0} (p : Prog A) (f : A → B) {u v : World} (r : Result A Stop) → Does p u r v → Does (p >>= λ x. give (f x)) u (on_ok f r) v
does_seen p f {u = u} {v = v} (Ok x) d = does_next p (λ x. give (f x)) d (does_give (f x) v)
does_seen p f (Err s) d = does_stop p (λ x. give (f x)) d

-- ---- faults

-- a script fault at the running line
pub does_faulted : {A : Type 0} (fault : ScriptFault) (m : State) (s : Stop) → s ≡ Fault fault m.line → (f : Seen LabelledFiles) (t : Seen TableStore) (k : Calls) → Does (faulted {A = A} fault) (world m f t k) (Err s) (world m f t k)
does_faulted {A = A} fault m s e f t k = rw e (does_act (faults {A = A} fault) f t k (record { acted = refl; ticks = omega arith; keeps = keeps_same m; ties = λ ne h. h }))

-- another program that is the same
pub runs_as : {A : Type 0} (p q : Prog A) (m : State) (r : Result A Stop) (m' : State) → p ≡ q → Runs q m r m' → Runs p m r m'
runs_as {A = A} p q m r m' e h = subst (λ (x : Prog A). Runs x m r m') (sym e) h

-- a fault in place of a program that is one
pub fault_there : {A : Type 0} (p : Prog A) (m : State) (s : Stop) → p ≡ faulted BadOperand → s ≡ Fault BadOperand m.line → Runs p m (Err s) m
fault_there {A = A} p m s e fault = runs_as p (faulted BadOperand) m (Err s) m e (does_faulted {A = A} BadOperand m s fault)

-- ---- want of memory, and stops handed on

-- want of memory before a step
pub does_lost_act : {A : Type 0} (a : Act A) {w : World} (r : Result A Stop) → IsErrAnd r (λ e. e ≡ Memory) → Does (act a) w r w
does_lost_act a r h = let e = err_from_is_err_and r h in rw (e.1, e.2) (does_nothing (act a) (λ failing at. unfold act in inl refl))

-- want of memory in place of a value
pub does_lost_give : {A : Type 0} (v : A) {w : World} (r : Result A Stop) → IsErrAnd r (λ e. e ≡ Memory) → Does (give v) w r w
does_lost_give v r h = let e = err_from_is_err_and r h in rw (e.1, e.2) (does_nothing (give v) (λ failing at. inl refl))

-- the stop that `?` hands on
pub does_handed : {A : Type 0} (p : Prog A) {u v : World} {s : Stop} (r : Result A Stop) → IsErrAnd r (λ e. e ≡ s) → Does p u (Err s) v → Does p u r v
does_handed p r h d = let e = err_from_is_err_and r h in rw (e.1, e.2) d

-- ---- loops of steps

-- so far p went from m to m', and q is left of it, whatever the keepers are
abbrev pub Leaves : {A : Type 0} → Prog A → State → Prog A → State → Type 0
Leaves p m q m' = (f : Seen LabelledFiles) (t : Seen TableStore) (k : Calls) → Leads p (world m f t k) q (world m' f t k)

pub leaves_here : {A : Type 0} (p : Prog A) (m : State) → Leaves p m p m
leaves_here p m f t k = leads_here p (world m f t k)
