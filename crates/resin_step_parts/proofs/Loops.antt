-- Loops of steps, and parts of statements, by what their parts answered.
use Rattle.std.proofs.Common.{◌≡◌, Result, Ok, Err, IsErrAnd, sym, subst}
use Rattle.std.proofs.lemmas.Result.{err_from_is_err_and}
use Rattle.resin_meaning_forms.specs.Under.machine.declared.stop.Stop.{Stop}
use Rattle.resin_meaning_forms.specs.Under.machine.declared.stop.Stop.TheVariants.{Memory}
use Rattle.resin_meaning_forms.specs.Under.machine.State.{State}
use Rattle.resin_meaning_forms.specs.Under.meaning.Programs.{Prog, give, ◌>>=◌}
use Rattle.resin_meaning_forms.specs.Under.meaning.Runs.{World, world, Does}
use Rattle.resin_meaning_forms.proofs.meaning_lemmas.Composition.{does_next, does_exit, does_give}
use Rattle.resin_meaning_forms.specs.Runs.{Runs, on_ok}
use Rattle.resin_step_parts.proofs.Steps.{Leaves, does_lost_give}

-- one step more of a loop whose program stands before what is left of it
pub leaves_next : {A B : Type 0} (p q : Prog A) (s : Prog B) (g : B → Prog A) (m0 m m' : State) (x : B) → q ≡ (s >>= g) → Leaves p m0 q m → Runs s m (Ok x) m' → Leaves p m0 (g x) m'
leaves_next {A = A} p q s g m0 m m' x e l d f t k = record {
  goes_on = λ r w h. (l f t k).goes_on r w (subst (λ (y : Prog A). Does y (world m f t k) r w) (sym e) (does_next s g (d f t k) h));
}

-- a loop stops in a step
pub leaves_stop : {A B : Type 0} (p q : Prog A) (s : Prog B) (g : B → Prog A) (m0 m m' : State) (z : Stop) (r : Result A Stop) → q ≡ (s >>= g) → Leaves p m0 q m → Runs s m (Err z) m' → IsErrAnd r (λ e. e ≡ z) → Runs p m0 r m'
leaves_stop {A = A} p q s g m0 m m' z r e l d h f t k =
    (l f t k).goes_on r (world m' f t k) (subst (λ (y : Prog A). Does y (world m f t k) r (world m' f t k)) (sym e) (does_exit s g r h (d f t k)))

-- a loop is done
pub leaves_done : {A : Type 0} (p q : Prog A) (v : A) (m0 m : State) → q ≡ give v → Leaves p m0 q m → Runs p m0 (Ok v) m
leaves_done {A = A} p q v m0 m e l f t k =
    (l f t k).goes_on (Ok v) (world m f t k) (subst (λ (y : Prog A). Does y (world m f t k) (Ok v) (world m f t k)) (sym e) (does_give v (world m f t k)))

-- memory ran out where a loop is done
pub leaves_lost : {A : Type 0} (p q : Prog A) (v : A) (m0 m : State) (r : Result A Stop) → q ≡ give v → Leaves p m0 q m → IsErrAnd r (λ e. e ≡ Memory) → Runs p m0 r m
leaves_lost {A = A} p q v m0 m r e l h f t k =
    (l f t k).goes_on r (world m f t k) (subst (λ (y : Prog A). Does y (world m f t k) r (world m f t k)) (sym e) (does_lost_give v r h))

-- ---- stops whose value is seen otherwise

pub handed_seen : {A B : Type 0} (g : A → B) (p : Prog B) {u v : World} {s : Stop} (r : Result A Stop) → IsErrAnd r (λ e. e ≡ s) → Does p u (Err s) v → Does p u (on_ok g r) v
handed_seen g p r h d = let e = err_from_is_err_and r h in rw (e.1, e.2) d
