-- Exits of functions whose end is seen otherwise, and want of memory before a program begins.
use Rattle.std.proofs.Common.{◌≡◌, ℕ, Option, Result, Ok, Err, inl, refl, sym, subst, IsErrAnd}
use Rattle.std.proofs.lemmas.Result.{err_from_is_err_and}
use Rattle.resin_step_objects.specs.Under.store.Files.{LabelledFiles}
use Rattle.resin_step_objects.specs.Under.base.TableStore.{TableStore}
use Rattle.resin_step_objects.specs.Under.base.declared.calls.Calls.{Calls}
use Rattle.resin_step_objects.specs.Under.machine.declared.stop.Stop.{Stop}
use Rattle.resin_step_objects.specs.Under.machine.declared.stop.Stop.TheVariants.{Memory}
use Rattle.resin_step_objects.specs.Under.machine.State.{State}
use Rattle.resin_step_objects.specs.Under.meaning.Programs.{Prog, give, framed, ◌>>=◌}
use Rattle.resin_step_objects.specs.Under.meaning.Runs.{Seen, World, world, Does}
use Rattle.resin_step_objects.proofs.meaning_lemmas.Composition.{does_stop, does_lost, does_unbegun, does_nothing}
use Rattle.resin_step_objects.proofs.meaning_lemmas.Enclosures.{does_unframed}
use Rattle.resin_step_objects.specs.Under.meaning_forms.Runs.{on_ok}

-- another program of the same meaning
pub does_is : {A : Type 0} {p q : Prog A} {u w : World} {r : Result A Stop} → p ≡ q → Does q u r w → Does p u r w
does_is {A = A} {u = u} {w = w} {r = r} e d = subst (λ (x : Prog A). Does x u r w) (sym e) d

-- ---- ends that are seen otherwise

pub does_seen_exit : {A B C : Type 0} (p : Prog A) (f : A → Prog B) (g : C → B) {u v : World} {s : Stop} (r : Result C Stop) → IsErrAnd r (λ e. e ≡ s) → Does p u (Err s) v → Does (p >>= f) u (on_ok g r) v
does_seen_exit p f g r h d = let e = err_from_is_err_and r h in rw (e.1, e.2) (does_stop p f d)

pub does_seen_lost : {A B C : Type 0} (p : Prog A) (f : A → Prog B) (g : C → B) {u v : World} {x : A} (r : Result C Stop) → IsErrAnd r (λ e. e ≡ Memory) → Does p u (Ok x) v → Does (p >>= f) u (on_ok g r) v
does_seen_lost p f g r h d = let e = err_from_is_err_and r h in rw (e.1, e.2) (does_lost p f d)

pub does_seen_unbegun : {A B C : Type 0} (p : Prog A) (f : A → Prog B) (g : C → B) {u : World} (r : Result C Stop) → IsErrAnd r (λ e. e ≡ Memory) → Does (p >>= f) u (on_ok g r) u
does_seen_unbegun p f g r h = let e = err_from_is_err_and r h in rw (e.1, e.2) (does_unbegun p f)

pub does_seen_none : {B C : Type 0} (v : B) (g : C → B) {u : World} (r : Result C Stop) → IsErrAnd r (λ e. e ≡ Memory) → Does (give v) u (on_ok g r) u
does_seen_none v g r h = let e = err_from_is_err_and r h in rw (e.1, e.2) (does_nothing (give v) (λ failing at. inl refl))

-- no memory to open a call
pub does_unopened : {A : Type 0} (class : Option ℕ) (p : Prog A) (m m' : State) {f : Seen LabelledFiles} {t : Seen TableStore} {c : Calls} {s : Stop} (r : Result A Stop) → IsErrAnd r (λ e. e ≡ s)
    → ◌≡◌ {A = Result (Option ℕ) Stop} (Err s) (Err Memory) × (m' ≡ m) → Does (framed class p) (world m f t c) r (world m' f t c)
does_unopened class p m m' {s = s} r h k =
    let e = err_from_is_err_and r h in
    let g : s ≡ Memory = same_stop s Memory k.0 in
    rw (k.1, e.1, e.2, g) (does_unframed class p)
  where
    same_stop : (x y : Stop) → ◌≡◌ {A = Result (Option ℕ) Stop} (Err x) (Err y) → x ≡ y
    same_stop x y h = cc
