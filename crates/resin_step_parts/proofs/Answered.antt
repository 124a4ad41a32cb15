-- Steps on the state as programs, by what their parts answered.
use Rattle.std.proofs.Common.{◌≡◌, ℕ, ◌+◌, ◌-◌, ◌≤◌, length, Bool, true, false, cond, nat_le, nat_lt, Result, Ok, Err, refl, sym, ap, subst, ◌∙◌, arith}
use Rattle.std.specs.Prelude.{IfOk}
use Rattle.std.proofs.lemmas.Bool.Decides.{nat_tests}
use Rattle.resin_meaning_forms.specs.Under.store.Files.{LabelledFiles}
use Rattle.resin_meaning_forms.specs.Under.base.TableStore.{TableStore}
use Rattle.resin_meaning_forms.specs.Under.base.declared.calls.Calls.{Calls}
use Rattle.resin_meaning_forms.specs.Under.scalar.Stops.{Gives}
use Rattle.resin_meaning_forms.specs.Under.scalar.declared.faults.CallStop.{CallStop}
use Rattle.resin_meaning_forms.specs.Under.scalar.declared.faults.CallStop.TheVariants.{Throw, Fault as CallFault, Memory as CallMemory}
use Rattle.resin_meaning_forms.specs.Under.scalar.declared.faults.ScriptFault.TheVariants.{FuelSpent}
use Rattle.resin_meaning_forms.specs.Under.machine.declared.stop.Stop.{Stop}
use Rattle.resin_meaning_forms.specs.Under.machine.declared.stop.Stop.TheVariants.{Thrown, Exit, Fault, Keeper, Memory}
use Rattle.resin_meaning_forms.specs.Under.machine.State.{State}
use Rattle.resin_meaning_forms.specs.Under.machine.Steps.{Act, Acts, Acted, ActsLoosely, ActedLoosely, charge}
use Rattle.resin_meaning_forms.specs.Under.machine.Objects.{last_number, settled}
use Rattle.resin_meaning_forms.proofs.target_lemmas.machine_kept.{keeps_same, keeps_then}
use Rattle.resin_meaning_forms.specs.Under.target.Reads.{GivesOrNoMemory}
use Rattle.resin_meaning_forms.proofs.target_lemmas.Ends.{as_step, answered_step}
use Rattle.resin_meaning_forms.specs.Under.meaning.Programs.{act, give}
use Rattle.resin_meaning_forms.specs.Under.meaning.Runs.{Seen, World, world, Does}
use Rattle.resin_meaning_forms.proofs.meaning_lemmas.Composition.{does_act, does_loosely, does_give}
use Rattle.resin_meaning_forms.specs.Parts.{computed, looked}
use Rattle.resin_meaning_forms.specs.Operators.{with_ticks}

pub gives_or : {X : Type 0} (given rule : Result X CallStop) → Gives given rule → GivesOrNoMemory given rule
gives_or (Ok x) rule h = h
gives_or (Err (Throw kind)) rule h = h
gives_or (Err (CallFault fault)) rule h = h
gives_or (Err CallMemory) rule h = tt

-- what a computation answered, once it is settled
pub does_computed : {A : Type 0} (given rule : Result A CallStop) {m m' : State} {r : Result A Stop} → GivesOrNoMemory given rule → ActsLoosely (settled given) m r m'
    → (f : Seen LabelledFiles) (t : Seen TableStore) (k : Calls) → Does (computed rule) (world m f t k) r (world m' f t k)
does_computed given rule {m = m} {m' = m'} {r = r} g h f t k = does_loosely (settled rule) f t k (answered_step (settled rule) rule given m r m' g refl h)

-- the same of an answer that is the rule's
pub does_settled : {A : Type 0} (given rule : Result A CallStop) {m m' : State} {r : Result A Stop} → given ≡ rule → ActsLoosely (settled given) m r m'
    → (f : Seen LabelledFiles) (t : Seen TableStore) (k : Calls) → Does (computed rule) (world m f t k) r (world m' f t k)
does_settled {A = A} given rule {m = m} {m' = m'} {r = r} e h f t k = does_loosely (settled rule) f t k (subst (λ (x : Result A CallStop). ActsLoosely (settled x) m r m') e h)

-- what is read off the state
pub does_looked : {A : Type 0} (read : State → A) (v : A) (m : State) → v ≡ read m → (f : Seen LabelledFiles) (t : Seen TableStore) (k : Calls) → Does (looked read) (world m f t k) (Ok v) (world m f t k)
does_looked {A = A} read v m e f t k =
    does_act (λ s. (Ok (read s), s)) f t k (record {
      acted = (λ i. (Ok (sym e i), m));
      ticks = omega arith;
      keeps = keeps_same m;
      ties = λ ne h. h;
    })

-- ---- what a settled answer was

end_of : {A : Type 0} (x y : Result A Stop) (m m' : State) → ◌≡◌ {A = Result A Stop × State} (x, m) (y, m') → x ≡ y
end_of {A = A} x y m m' e = ap (λ (p : Result A Stop × State). p.0) e

state_of : {A : Type 0} (x y : Result A Stop) (m m' : State) → ◌≡◌ {A = Result A Stop × State} (x, m) (y, m') → m ≡ m'
state_of {A = A} x y m m' e = ap (λ (p : Result A Stop × State). p.1) e

no_value : {A : Type 0} (s : Stop) (v : A) → ◌≡◌ {A = Result A Stop} (Err s) (Ok v) → ⊥
no_value s v e = cc

no_stop : {A : Type 0} (v : A) (s : Stop) → ◌≡◌ {A = Result A Stop} (Ok v) (Err s) → ⊥
no_stop v s e = cc

same_value : {A : Type 0} (w v : A) → ◌≡◌ {A = Result A Stop} (Ok w) (Ok v) → w ≡ v
same_value w v e = cc

thrown_value : {A : Type 0} (b : Bool) (s z : Stop) (v : A) (m1 m m' : State) → ◌≡◌ {A = Result A Stop × State} (cond b (Err s, m1) (Err z, m)) (Ok v, m') → ⊥
thrown_value {A = A} true s z v m1 m m' e = no_value {A = A} s v (end_of (Err s) (Ok v) m1 m' e)
thrown_value {A = A} false s z v m1 m m' e = no_value {A = A} z v (end_of (Err z) (Ok v) m m' e)

pub settled_value : {A : Type 0} (answer : Result A CallStop) (m : State) (v : A) (m' : State) → settled answer m ≡ (Ok v, m') → answer ≡ Ok v
settled_value {A = A} (Ok w) m v m' e = let same : w ≡ v = same_value w v (end_of (Ok w) (Ok v) m m' e) in ap (λ (x : A). let r : Result A CallStop = Ok x in r) same
settled_value {A = A} (Err (Throw kind)) m v m' e = absurd (thrown_value {A = A} (nat_lt (length m.heap) last_number) (Thrown (length m.heap + 1)) (Fault FuelSpent m.line) v _ m m' e)
settled_value {A = A} (Err (CallFault f)) m v m' e = absurd (no_value {A = A} (Fault f m.line) v (end_of (Err (Fault f m.line)) (Ok v) m m' e))
settled_value {A = A} (Err CallMemory) m v m' e = absurd (no_value {A = A} Memory v (end_of (Err Memory) (Ok v) m m' e))

-- ---- comparisons that charge ticks

pub after_charge : (n : ℕ) (m m1 : State) → charge n m ≡ (Ok tt, m1) → m1 ≡ record m { ticks = m.ticks - n }
after_charge n m m1 e = by (nat_le n m.ticks) e
  where
    by : (b : Bool) → ◌≡◌ {A = Result (Unit {0}) Stop × State} (cond b (Ok tt, record m { ticks = m.ticks - n }) (Err (Fault FuelSpent m.line), m)) (Ok tt, m1) → m1 ≡ record m { ticks = m.ticks - n }
    by true h = sym (state_of (Ok tt) (Ok tt) (record m { ticks = m.ticks - n }) m1 h)
    by false h = absurd (no_value {A = Unit {0}} (Fault FuelSpent m.line) tt (end_of (Err (Fault FuelSpent m.line)) (Ok tt) m m1 h))

can_charge : (n : ℕ) (m : State) → n ≤ m.ticks → charge n m ≡ (Ok tt, record m { ticks = m.ticks - n })
can_charge n m le = ap (λ b. cond b (Ok tt, record m { ticks = m.ticks - n }) (Err (Fault FuelSpent m.line), m)) fits
  where
    fits : nat_le n m.ticks ≡ true
    fits = grind (arith, nat_tests)

-- a charge of no more than what is left stops for want of memory alone
charged_stop : {A : Type 0} (a : Act A) (n : ℕ) (m m1 : State) (s : Stop) → n ≤ m.ticks → Acted (charge n) m (Err s) m1 → ActedLoosely a m (Err s) m1
charged_stop a n m m1 s le h = by s h
  where
    no : (s : Stop) → charge n m ≡ (Err s, m1) → ⊥
    no s e = no_stop {A = Unit {0}} tt s (end_of (Ok tt) (Err s) (record m { ticks = m.ticks - n }) m1 (sym (can_charge n m le) ∙ e))

    by : (s : Stop) → Acted (charge n) m (Err s) m1 → ActedLoosely a m (Err s) m1
    by (Thrown o) h = absurd (no (Thrown o) h)
    by Exit h = absurd (no Exit h)
    by (Fault f line) h = absurd (no (Fault f line) h)
    by Keeper h = h
    by Memory h = ap (λ (x : State). x.stage.journal) h

pub charge_stops : {A : Type 0} (a : Act A) (n : ℕ) (m m1 : State) (s : Stop) → n ≤ m.ticks → Acts (charge n) m (Err s) m1 → ActsLoosely a m (Err s) m1
charge_stops {A = A} a n m m1 s le h = record {
  acted = charged_stop a n m m1 s le h.acted;
  ticks = h.ticks;
  keeps = h.keeps;
  ties = λ ne t. h.ties (λ k. ne (other s k)) t;
}
  where
    other : (s : Stop) → ◌≡◌ {A = Result (Unit {0}) Stop} (Err s) (Err Memory) → ◌≡◌ {A = Result A Stop} (Err s) (Err Memory)
    other s k = let same : s ≡ Memory = cc in ap (λ (x : Stop). let r : Result A Stop = Err x in r) same

settled_after : {A : Type 0} (answer : Result A CallStop) (left : ℕ) (m m1 : State) (r : Result A Stop) (m2 : State) → m1 ≡ record m { ticks = left } → ActedLoosely (settled answer) m1 r m2 → ActedLoosely (λ s. settled answer (record s { ticks = left })) m r m2
settled_after answer left m m1 (Ok v) m2 e h = ap (settled answer) (sym e) ∙ h
settled_after answer left m m1 (Err (Thrown o)) m2 e h = ap (settled answer) (sym e) ∙ h
settled_after answer left m m1 (Err Exit) m2 e h = ap (settled answer) (sym e) ∙ h
settled_after answer left m m1 (Err (Fault f line)) m2 e h = ap (settled answer) (sym e) ∙ h
settled_after answer left m m1 (Err Keeper) m2 e h = h
settled_after answer left m m1 (Err Memory) m2 e h = h ∙ ap (λ (x : State). x.stage.journal) e

-- an answer once the ticks are charged down to what is left
pub charged_then : {A : Type 0} (answer : Result A CallStop) (left n : ℕ) (m m1 : State) (r : Result A Stop) (m2 : State) → left ≤ m.ticks → n ≡ m.ticks - left → Acts (charge n) m (Ok tt) m1 → ActsLoosely (settled answer) m1 r m2
    → ActsLoosely (λ s. settled answer (record s { ticks = left })) m r m2
charged_then answer left n m m1 r m2 le is a h = record {
  acted = settled_after answer left m m1 r m2 (after_charge n m m1 a.acted ∙ ap (λ (k : ℕ). record m { ticks = k }) down) h.acted;
  ticks = omega (arith, a.ticks, h.ticks);
  keeps = keeps_then m m1 m2 a.keeps h.keeps;
  ties = λ ne t. h.ties ne (a.ties (λ k. cc) t);
}
  where
    down : m.ticks - n ≡ left
    down = omega (arith, le, is)

-- a comparison, by its answer and the ticks that it left
pub does_with_ticks : (compare : ℕ → Result Bool CallStop × ℕ) (m m' : State) (r : Result Bool Stop) (answer : Result Bool CallStop) (left : ℕ) → answer ≡ (compare m.ticks).0 → left ≡ (compare m.ticks).1
    → ActsLoosely (λ s. settled answer (record s { ticks = left })) m r m' → (f : Seen LabelledFiles) (t : Seen TableStore) (k : Calls) → Does (act (with_ticks compare)) (world m f t k) r (world m' f t k)
does_with_ticks compare m m' r answer left e l h f t k =
    does_loosely (with_ticks compare) f t k (as_step (with_ticks compare) (λ s. settled answer (record s { ticks = left })) m r m' (λ i. settled (sym e i) (record m { ticks = sym l i })) h)

-- a value that is the given one
pub does_give_as : {A : Type 0} (x v : A) (w : World) → x ≡ v → Does (give x) w (Ok v) w
does_give_as x v w e = rw e (does_give v w)

-- what holds of the value of an answer holds of it once it is settled
pub settled_fact : {A : Type 0} (P : A → Type 0) (answer : Result A CallStop) (m : State) (r : Result A Stop) (m' : State) → ActsLoosely (settled answer) m r m' → IfOk answer P → IfOk r P
settled_fact {A = A} P answer m (Ok v) m' h p = subst (λ (x : Result A CallStop). IfOk x P) (settled_value answer m v m' h.acted) p
settled_fact P answer m (Err s) m' h p = tt
