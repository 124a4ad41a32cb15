-- How a step on a target ends, by what its parts answered.
use Rattle.std.proofs.Common.{◌≡◌, ◌≢◌, ℕ, ◌≤◌, List, Bool, true, false, cond, Option, Some, None, Result, Ok, Err, unwrap_or, refl, sym, ap, subst, ◌∙◌, arith}
use Rattle.resin_ops.specs.Under.scalar.declared.faults.CallStop.{CallStop}
use Rattle.resin_ops.specs.Under.scalar.declared.faults.CallStop.TheVariants.{Throw, Fault as CallFault, Memory as CallMemory}
use Rattle.resin_ops.specs.Under.scalar.declared.faults.ScriptFault.{ScriptFault}
use Rattle.resin_ops.specs.Under.value.declared.value.Value.{Value}
use Rattle.resin_machine.specs.declared.stop.Stop.{Stop}
use Rattle.resin_machine.specs.declared.stop.Stop.TheVariants.{Thrown, Exit, Fault, Keeper, Memory}
use Rattle.resin_machine.specs.State.{State}
use Rattle.resin_machine.specs.Keeping.{Tied}
use Rattle.resin_machine.specs.Steps.{Act, Acts, Acted, ActsLoosely, ActedLoosely, faults}
use Rattle.resin_machine.specs.Objects.{settled}
use Rattle.resin_machine.proofs.Kept.{keeps_then}
use Rattle.resin_target.specs.declared.place.Place.{Place}
use Rattle.resin_target.specs.Reads.{GivesOrNoMemory}
use Rattle.resin_target.specs.Targets.{standing, put_at_place, take_place, put_result}
use Rattle.resin_target.proofs.Places.{put_taken, stage_taken, taken_value}

as_acted : {A : Type 0} (a b : Act A) (m : State) (r : Result A Stop) (m' : State) → a m ≡ b m → ActedLoosely b m r m' → ActedLoosely a m r m'
as_acted a b m (Ok v) m' e h = e ∙ h
as_acted a b m (Err (Thrown o)) m' e h = e ∙ h
as_acted a b m (Err Exit) m' e h = e ∙ h
as_acted a b m (Err (Fault f line)) m' e h = e ∙ h
as_acted a b m (Err Keeper) m' e h = h
as_acted a b m (Err Memory) m' e h = h

-- a step is another one from this state on
pub as_step : {A : Type 0} (a b : Act A) (m : State) (r : Result A Stop) (m' : State) → a m ≡ b m → ActsLoosely b m r m' → ActsLoosely a m r m'
as_step a b m r m' e h = record { acted = as_acted a b m r m' e h.acted; ticks = h.ticks; keeps = h.keeps; ties = h.ties }

first : {A : Type 0} (x y : Result A Stop) (m m' : State) → ◌≡◌ {A = Result A Stop × State} (x, m) (y, m') → x ≡ y
first {A = A} x y m m' e = ap (λ (p : Result A Stop × State). p.0) e

not_ok : {A : Type 0} (v : A) → ◌≡◌ {A = Result A Stop} (Err Memory) (Ok v) → ⊥
not_ok v e = cc

not_thrown : {A : Type 0} (o : ℕ) → ◌≡◌ {A = Result A Stop} (Err Memory) (Err (Thrown o)) → ⊥
not_thrown o e = cc

not_exit : {A : Type 0} → ◌≡◌ {A = Result A Stop} (Err Memory) (Err Exit) → ⊥
not_exit e = cc

not_fault : {A : Type 0} (f : ScriptFault) (line : ℕ) → ◌≡◌ {A = Result A Stop} (Err Memory) (Err (Fault f line)) → ⊥
not_fault f line e = cc

lost_acted : {A : Type 0} (a : Act A) (m : State) (r : Result A Stop) (m' : State) → ActedLoosely (settled (Err CallMemory)) m r m' → ActedLoosely a m r m'
lost_acted {A = A} a m (Ok v) m' h = absurd (not_ok {A = A} v (first (Err Memory) (Ok v) m m' h))
lost_acted {A = A} a m (Err (Thrown o)) m' h = absurd (not_thrown {A = A} o (first (Err Memory) (Err (Thrown o)) m m' h))
lost_acted {A = A} a m (Err Exit) m' h = absurd (not_exit {A = A} (first (Err Memory) (Err Exit) m m' h))
lost_acted {A = A} a m (Err (Fault f line)) m' h = absurd (not_fault {A = A} f line (first (Err Memory) (Err (Fault f line)) m m' h))
lost_acted a m (Err Keeper) m' h = h
lost_acted a m (Err Memory) m' h = h

-- memory ran out
pub lost_step : {A : Type 0} (a : Act A) (m : State) (r : Result A Stop) (m' : State) → ActsLoosely (settled (Err CallMemory)) m r m' → ActsLoosely a m r m'
lost_step a m r m' h = record { acted = lost_acted a m r m' h.acted; ticks = h.ticks; keeps = h.keeps; ties = h.ties }

-- a rule that gives no value ends the step
pub stopped_step : {A B : Type 0} (a : Act A) (rule given : Result B CallStop) (stop : CallStop) (m : State) (r : Result A Stop) (m' : State) → given ≡ Err stop → GivesOrNoMemory given rule → (rule ≡ Err stop → a m ≡ settled (Err stop) m)
    → ActsLoosely (settled (Err stop)) m r m' → ActsLoosely a m r m'
stopped_step {A = A} {B = B} a rule given stop m r m' e g ends h = by stop (subst (λ (x : Result B CallStop). GivesOrNoMemory x rule) e g) ends h
  where
    by : (stop : CallStop) → GivesOrNoMemory {X = B} (Err stop) rule → (rule ≡ Err stop → a m ≡ settled (Err stop) m) → ActsLoosely (settled (Err stop)) m r m' → ActsLoosely a m r m'
    by (Throw kind) g ends h = as_step a (settled (Err (Throw kind))) m r m' (ends g) h
    by (CallFault f) g ends h = as_step a (settled (Err (CallFault f))) m r m' (ends g) h
    by CallMemory g ends h = lost_step a m r m' h

-- a rule's answer is the step's
pub answered_step : {A : Type 0} (a : Act A) (rule given : Result A CallStop) (m : State) (r : Result A Stop) (m' : State) → GivesOrNoMemory given rule → a m ≡ settled rule m → ActsLoosely (settled given) m r m' → ActsLoosely a m r m'
answered_step {A = A} a rule (Ok v) m r m' g e h = as_step a (settled (Ok v)) m r m' (e ∙ ap (λ (x : Result A CallStop). settled x m) g) h
answered_step {A = A} a rule (Err (Throw kind)) m r m' g e h = as_step a (settled (Err (Throw kind))) m r m' (e ∙ ap (λ (x : Result A CallStop). settled x m) g) h
answered_step {A = A} a rule (Err (CallFault f)) m r m' g e h = as_step a (settled (Err (CallFault f))) m r m' (e ∙ ap (λ (x : Result A CallStop). settled x m) g) h
answered_step a rule (Err CallMemory) m r m' g e h = lost_step a m r m' h

loose : {A : Type 0} (a : Act A) (m : State) (r : Result A Stop) (m' : State) → Acted a m r m' → ActedLoosely a m r m'
loose a m (Ok v) m' h = h
loose a m (Err (Thrown o)) m' h = h
loose a m (Err Exit) m' h = h
loose a m (Err (Fault f line)) m' h = h
loose a m (Err Keeper) m' h = h
loose a m (Err Memory) m' h = ap (λ (x : State). x.stage.journal) h

-- a step is a longer one
pub loosely : {A : Type 0} (a : Act A) (m : State) (r : Result A Stop) (m' : State) → Acts a m r m' → ActsLoosely a m r m'
loosely a m r m' h = record { acted = loose a m r m' h.acted; ticks = h.ticks; keeps = h.keeps; ties = h.ties }

-- ---- a value taken out, changed and put back

after_take : (at : Place) (v w : Value) (m m1 : State) (r : Result (Unit {0}) Stop) (m2 : State) → take_place at m ≡ (Ok v, m1) → Acted (put_at_place at w) m1 r m2 → ActedLoosely (put_at_place at w) m r m2
after_take at v w m m1 (Ok u) m2 t p = sym (put_taken at v w m m1 t) ∙ p
after_take at v w m m1 (Err (Thrown o)) m2 t p = sym (put_taken at v w m m1 t) ∙ p
after_take at v w m m1 (Err Exit) m2 t p = sym (put_taken at v w m m1 t) ∙ p
after_take at v w m m1 (Err (Fault f line)) m2 t p = sym (put_taken at v w m m1 t) ∙ p
after_take at v w m m1 (Err Keeper) m2 t p = p
after_take at v w m m1 (Err Memory) m2 t p = ap (λ (x : State). x.stage.journal) p ∙ ap (λ s. s.journal) (stage_taken at v m m1 t)

pub put_after_take : (at : Place) (v w : Value) (m m1 : State) (r : Result (Unit {0}) Stop) (m2 : State) → Acts (take_place at) m (Ok v) m1 → Acts (put_at_place at w) m1 r m2 → ActsLoosely (put_at_place at w) m r m2
put_after_take at v w m m1 r m2 t p = record {
  acted = after_take at v w m m1 r m2 t.acted p.acted;
  ticks = omega (arith, t.ticks, p.ticks);
  keeps = keeps_then m m1 m2 t.keeps p.keeps;
  ties = λ ne h. p.ties ne (t.ties (λ k. cc) h);
}

-- memory ran out after the value was taken
pub lost_after_take : {A : Type 0} (a : Act A) (at : Place) (v : Value) (m m1 : State) → Acts (take_place at) m (Ok v) m1 → ActsLoosely a m (Err Memory) m1
lost_after_take a at v m m1 t = record {
  acted = ap (λ s. s.journal) (stage_taken at v m m1 t.acted);
  ticks = t.ticks;
  keeps = t.keeps;
  ties = λ ne. absurd (ne refl);
}

-- a value taken out, changed by a rule and put back
pub changed_there : (at : Place) (rule : Value → Result Value CallStop) (here changed : Value) (m m1 : State) (r : Result (Unit {0}) Stop) (m2 : State) → Acts (take_place at) m (Ok here) m1 → rule here ≡ Ok changed → Acts (put_at_place at changed) m1 r m2
    → ActsLoosely (λ s. put_result at (rule (standing at s)) s) m r m2
changed_there at rule here changed m m1 r m2 t e p =
    as_step (λ s. put_result at (rule (standing at s)) s) (put_at_place at changed) m r m2 (ap (λ x. put_result at x m) (ap rule (sym (taken_value at here m m1 t.acted)) ∙ e))
    (put_after_take at here changed m m1 r m2 t p)
