-- Ends of arms that the composition of programs leaves over: what is read off the state, faults, values, and tests.
use Rattle.std.proofs.Common.{◌≡◌, ℕ, Bool, true, false, cond, Result, Ok, Err, inl, refl, arith, IsErrAnd}
use Rattle.std.proofs.lemmas.Result.{err_from_is_err_and}
use Rattle.resin_step_objects.specs.Under.store.Files.{LabelledFiles}
use Rattle.resin_step_objects.specs.Under.base.TableStore.{TableStore}
use Rattle.resin_step_objects.specs.Under.base.declared.calls.Calls.{Calls}
use Rattle.resin_step_objects.specs.Under.scalar.declared.faults.CallStop.{CallStop}
use Rattle.resin_step_objects.specs.Under.scalar.declared.faults.ScriptFault.{ScriptFault}
use Rattle.resin_step_objects.specs.Under.machine.declared.stop.Stop.{Stop}
use Rattle.resin_step_objects.specs.Under.machine.declared.stop.Stop.TheVariants.{Thrown, Fault, Memory}
use Rattle.resin_step_objects.specs.Under.machine.State.{State}
use Rattle.resin_step_objects.specs.Under.machine.Steps.{ActsLoosely, faults}
use Rattle.resin_step_objects.specs.Under.machine.Objects.{settled}
use Rattle.resin_step_objects.proofs.target_lemmas.machine_kept.{keeps_same}
use Rattle.resin_step_objects.specs.Under.meaning.Programs.{Prog, give, stop}
use Rattle.resin_step_objects.specs.Under.meaning.Runs.{Seen, World, world, Does}
use Rattle.resin_step_objects.proofs.meaning_lemmas.Composition.{does_act, does_loosely, does_give, does_ended, does_nothing, none_here}
use Rattle.resin_step_objects.specs.Under.target.Reads.{GivesOrNoMemory}
use Rattle.resin_step_objects.proofs.target_lemmas.Ends.{answered_step}
use Rattle.resin_step_objects.specs.Under.meaning_forms.Parts.{looked, faulted, computed}

-- a value that is the program's
pub does_given : {A : Type 0} (v w : A) {u : World} → v ≡ w → Does (give w) u (Ok v) u
does_given v w {u = u} e = rw e (does_give w u)

-- want of memory in place of a value
pub does_none : {A : Type 0} (v : A) {u : World} (r : Result A Stop) → IsErrAnd r (λ e. e ≡ Memory) → Does (give v) u r u
does_none v r h = let e = err_from_is_err_and r h in rw (e.1, e.2) (does_nothing (give v) (λ failing at. inl refl))

-- a script fault at the running line
pub does_faulted : {A : Type 0} (fault : ScriptFault) (m : State) {f : Seen LabelledFiles} {t : Seen TableStore} {c : Calls} {s : Stop} → s ≡ Fault fault m.line → Does (faulted {A = A} fault) (world m f t c) (Err s) (world m f t c)
does_faulted {A = A} fault m {f = f} {t = t} {c = c} e = rw e (does_act (faults {A = A} fault) f t c (record { acted = refl; ticks = omega arith; keeps = keeps_same m; ties = λ ne h. h }))

-- something is read off the state
pub does_looked : {A : Type 0} (read : State → A) (m : State) {f : Seen LabelledFiles} {t : Seen TableStore} {c : Calls} {x : A} → x ≡ read m → Does (looked read) (world m f t c) (Ok x) (world m f t c)
does_looked {A = A} read m {f = f} {t = t} {c = c} e = rw e (does_act (λ (s : State). let p : Result A Stop × State = (Ok (read s), s) in p) f t c (record { acted = refl; ticks = omega arith; keeps = keeps_same m; ties = λ ne h. h }))

-- a computation and then `settle`
pub does_settled : {A : Type 0} (rule given : Result A CallStop) {m m' : State} {r : Result A Stop} {f : Seen LabelledFiles} {t : Seen TableStore} {c : Calls} → GivesOrNoMemory given rule → ActsLoosely (settled given) m r m' → Does (computed rule) (world m f t c) r (world m' f t c)
does_settled rule given {m = m} {m' = m'} {r = r} {f = f} {t = t} {c = c} g h = does_loosely (settled rule) f t c (answered_step (settled rule) rule given m r m' g refl h)

-- a test that holds, and one that doesn't
pub does_yes : {A : Type 0} (b : Bool) (p q : Prog A) {u v : World} {r : Result A Stop} → b ≡ true → Does p u r v → Does (cond b p q) u r v
does_yes b p q e d = rw e d

pub does_no : {A : Type 0} (b : Bool) (p q : Prog A) {u v : World} {r : Result A Stop} → b ≡ false → Does q u r v → Does (cond b p q) u r v
does_no b p q e d = rw e d

-- an exception goes on
pub does_thrown : {A : Type 0} (o : ℕ) (u : World) → Does (stop {A = A} (Thrown o)) u (Err (Thrown o)) u
does_thrown {A = A} o u = does_ended (Err (Thrown o)) u (none_here u)
