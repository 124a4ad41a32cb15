-- How steps end.
use Rattle.std.proofs.Common.{◌≡◌, ℕ, ◌≤◌, Bool, true, false, cond, Result, Ok, Err, refl, sym, ap, subst, ◌∙◌, arith, IsErrAnd}
use Rattle.std.proofs.lemmas.Result.{err_from_is_err_and}
use Rattle.resin_heap.specs.Under.scalar.declared.faults.ScriptFault.{ScriptFault}
use Rattle.resin_heap.specs.Under.scalar.declared.faults.ScriptFault.TheVariants.{BadOperand}
use Rattle.resin_machine.specs.declared.stop.Stop.{Stop}
use Rattle.resin_machine.specs.declared.stop.Stop.TheVariants.{Fault, Memory}
use Rattle.resin_machine.specs.State.{State}
use Rattle.resin_machine.specs.Keeping.{IsInside}
use Rattle.resin_machine.specs.Steps.{Act, Acts, ActsLoosely, faults}
use Rattle.resin_machine.specs.Objects.{is_object, with_object}
use Rattle.resin_machine.proofs.Kept.{keeps_same, keeps_inside, tied_inside}

-- a value, and a change that leaves what left
pub gives_inside : {A : Type 0} (a : Act A) (m : State) (v : A) (m' : State) → a m ≡ (Ok v, m') → IsInside m m' → Acts a m (Ok v) m'
gives_inside a m v m' e i = record {
  acted = e;
  ticks = subst (λ (n : ℕ). n ≤ m.ticks) (sym i.ticks) (omega arith);
  keeps = keeps_inside m m' i;
  ties = λ ne t. tied_inside m m' i t;
}

-- a value, and no change
pub gives_same : {A : Type 0} (a : Act A) (m : State) (v : A) → a m ≡ (Ok v, m) → Acts a m (Ok v) m
gives_same a m v e = record { acted = e; ticks = omega arith; keeps = keeps_same m; ties = λ ne t. t }

-- a fault at the running line
pub faulted : {A : Type 0} (a : Act A) (m : State) (f : ScriptFault) → a m ≡ faults f m → Acts a m (Err (Fault f m.line)) m
faulted a m f e = record { acted = e; ticks = omega arith; keeps = keeps_same m; ties = λ ne t. t }

no_memory : (r : Stop) → r ≡ Memory → {A : Type 0} → (s : Result A Stop) → s ≡ Err r → s ≡ Err Memory
no_memory r e {A = A} s h = h ∙ ap (λ (y : Stop). let z : Result A Stop = Err y in z) e

pub wanting : {A : Type 0} (a : Act A) (m : State) → Acts a m (Err Memory) m
wanting a m = record { acted = refl; ticks = omega arith; keeps = keeps_same m; ties = λ ne. absurd (ne refl) }

-- want of memory, and no change
pub lost : {A : Type 0} (a : Act A) (m m' : State) (r : Result A Stop) → m' ≡ m → IsErrAnd r (λ e. e ≡ Memory) → Acts a m r m'
lost {A = A} a m m' r e h =
    let q = err_from_is_err_and r h in
    subst (λ (x : State). Acts a m r x) (sym e) (subst (λ (s : Result A Stop). Acts a m s m) (sym (no_memory q.0 q.2 r q.1)) (wanting a m))

-- want of memory in a longer step, which leaves what left
pub lost_inside : {A : Type 0} (a : Act A) (m m' : State) (r : Result A Stop) → IsInside m m' → IsErrAnd r (λ e. e ≡ Memory) → ActsLoosely a m r m'
lost_inside {A = A} a m m' r i h =
    let q = err_from_is_err_and r h in
    subst (λ (s : Result A Stop). ActsLoosely a m s m') (sym (no_memory q.0 q.2 r q.1)) (record {
      acted = ap (λ s. s.journal) i.stage;
      ticks = subst (λ (n : ℕ). n ≤ m.ticks) (sym i.ticks) (omega arith);
      keeps = keeps_inside m m' i;
      ties = λ ne. absurd (ne refl);
    })

-- a step on an object that is there, and on one that isn't
pub at_object : {A : Type 0} (o : ℕ) (a : Act A) (m : State) → is_object m.heap o ≡ true → with_object o a m ≡ a m
at_object o a m e = ap (λ b. cond b (a m) (faults BadOperand m)) e

pub at_no_object : {A : Type 0} (o : ℕ) (a : Act A) (m : State) → is_object m.heap o ≡ false → with_object o a m ≡ faults BadOperand m
at_no_object o a m e = ap (λ b. cond b (a m) (faults BadOperand m)) e

-- a fault, where the code has the line and the state in parts
pub fault_as : {A : Type 0} (a : Act A) (m m' : State) (f : ScriptFault) (line : ℕ) → m' ≡ m → line ≡ m.line → a m ≡ faults f m → Acts a m (Err (Fault f line)) m'
fault_as {A = A} a m m' f line e el h =
    subst (λ (x : State). Acts a m (Err (Fault f line)) x) (sym e) (subst (λ (n : ℕ). Acts a m (Err (Fault f n)) m) (sym el) (faulted a m f h))

-- the same on a number without an object
pub object_missing : {A : Type 0} (o : ℕ) (a : Act A) (m m' : State) (line : ℕ) (there : Bool) → m' ≡ m → line ≡ m.line → there ≡ is_object m.heap o → there ≡ false → Acts (with_object o a) m (Err (Fault BadOperand line)) m'
object_missing o a m m' line there e el h absent = fault_as (with_object o a) m m' BadOperand line e el (at_no_object o a m (sym h ∙ absent))
