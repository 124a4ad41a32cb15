-- A text that grows in its variable.
use Rattle.std.proofs.Common.{◌≡◌, ◌≢◌, ℕ, ◌+◌, ◌-◌, ◌/◌, ◌≤◌, ◌<◌, List, ◌++◌, length, Bool, true, false, cond, nat_le, nat_lt, Option, Some, None, Result, Ok, Err, unwrap_or, is_some, refl, sym, ap, subst, ◌∙◌, arith, length-append, IsErrAnd}
use Rattle.std.proofs.lemmas.Bool.Decides.{nat_tests}
use Rattle.std.proofs.lemmas.Result.{err_from_is_err_and}
use Rattle.resin_meaning_forms.specs.Under.lstr.Texts.{Text as LabelledText}
use Rattle.resin_meaning_forms.specs.Under.lstr.declared.limits.TheConstants.{LONGEST}
use Rattle.resin_meaning_forms.specs.Under.store.Files.{LabelledFiles}
use Rattle.resin_meaning_forms.specs.Under.base.TableStore.{TableStore}
use Rattle.resin_meaning_forms.specs.Under.base.declared.calls.Calls.{Calls}
use Rattle.resin_meaning_forms.specs.Under.scalar.declared.faults.CallStop.{CallStop}
use Rattle.resin_meaning_forms.specs.Under.scalar.declared.faults.CallStop.TheVariants.{Fault as CallFault}
use Rattle.resin_meaning_forms.specs.Under.scalar.declared.faults.ScriptFault.TheVariants.{FuelSpent, TextTooLong}
use Rattle.resin_meaning_forms.specs.Under.value.declared.value.Value.{Value}
use Rattle.resin_meaning_forms.specs.Under.value.declared.value.Value.TheVariants.{Null, Bool as Truth, Int, Text, Arr, Obj}
use Rattle.resin_meaning_forms.specs.Under.value.Trees.{text}
use Rattle.resin_meaning_forms.specs.Under.value.Seen.{tree_of}
use Rattle.resin_meaning_forms.specs.Under.ops.Conversions.{text_of}
use Rattle.resin_meaning_forms.specs.Under.machine.declared.stop.Stop.{Stop}
use Rattle.resin_meaning_forms.specs.Under.machine.declared.stop.Stop.TheVariants.{Thrown, Exit, Fault, Keeper, Memory}
use Rattle.resin_meaning_forms.specs.Under.machine.State.{State}
use Rattle.resin_meaning_forms.specs.Under.machine.Keeping.{IsInside, Tied}
use Rattle.resin_meaning_forms.specs.Under.machine.Steps.{Act, Acts, Acted, ActsLoosely, ActedLoosely, charge, charge_bytes}
use Rattle.resin_meaning_forms.specs.Under.machine.Variables.{variable, with_variable, taken_from, assign, is_input, is_session}
use Rattle.resin_meaning_forms.specs.Under.machine.Objects.{settled}
use Rattle.resin_meaning_forms.specs.Under.target.declared.place.Place.TheVariants.{Variable}
use Rattle.resin_meaning_forms.specs.Under.target.declared.path.Path.{Path}
use Rattle.resin_meaning_forms.specs.Under.target.Paths.{no_postfix}
use Rattle.resin_meaning_forms.specs.Under.target.Targets.{fetch, store}
use Rattle.resin_meaning_forms.specs.Under.meaning.Programs.{Prog, give, act, ◌>>=◌}
use Rattle.resin_meaning_forms.specs.Under.meaning.Runs.{Seen, world, Does}
use Rattle.resin_meaning_forms.proofs.target_lemmas.machine_kept.{keeps_inside, keeps_then, tied_inside}
use Rattle.resin_meaning_forms.proofs.target_lemmas.machine_taken.{gives_same, fault_as}
use Rattle.resin_meaning_forms.proofs.target_lemmas.Places.{put_taken}
use Rattle.resin_meaning_forms.proofs.meaning_lemmas.Composition.{does_act, does_loosely, does_next, does_stop, does_exit}
use Rattle.resin_meaning_forms.specs.Runs.{Runs, on_ok}
use Rattle.resin_meaning_forms.specs.Parts.{computed}
use Rattle.resin_meaning_forms.specs.Operators.{too_long, concatenated}
use Rattle.resin_meaning_forms.specs.Assignments.{stored_value}
use Rattle.resin_step_parts.specs.Appends.{appended, joint, put, text_length}
use Rattle.resin_step_parts.proofs.Answered.{does_give_as, after_charge}
use Rattle.resin_step_parts.proofs.Loops.{handed_seen}
use Rattle.resin_step_parts.proofs.Steps.{does_seen, runs_as}

-- ---- two texts, of which the one that they make is charged before it is made

does_known : {A : Type 0} (r : Result A CallStop) (v : A) (m : State) → r ≡ Ok v → Runs (computed r) m (Ok v) m
does_known r v m e f t k = does_act (settled r) f t k (gives_same (settled r) m v (ap (λ x. settled x m) e))

short_enough : (t : LabelledText) → length t ≤ LONGEST → too_long t ≡ Ok t
short_enough t le = ap (λ b. cond b (Ok t) (Err (CallFault TextTooLong))) fits
  where
    fits : nat_le (length t) LONGEST ≡ true
    fits = grind (arith, nat_tests)

too_much : (t : LabelledText) → LONGEST < length t → too_long t ≡ Err (CallFault TextTooLong)
too_much t lt = ap (λ b. cond b (Ok t) (Err (CallFault TextTooLong))) passes
  where
    passes : nat_le (length t) LONGEST ≡ false
    passes = grind (arith, nat_tests)

charged_as : (n k : ℕ) (m : State) (r : Result (Unit {0}) Stop) (m' : State) → n ≡ k → Acts (charge_bytes k) m r m' → Acts (charge (n / 256)) m r m'
charged_as n k m r m' e h = subst (λ (z : ℕ). Acts (charge (z / 256)) m r m') (sym e) h

-- no ticks are left for the first text, or for the second one
pub joint_first : (a b : LabelledText) (x : ℕ) (m m1 : State) (s : Stop) (r : Result (Unit {0}) Stop) → length a ≡ x → IsErrAnd r (λ e. e ≡ s) → Acts (charge_bytes x) m (Err s) m1
    → Runs (joint (text a) (text b)) m (on_ok (λ u. Text (a ++ b)) r) m1
joint_first a b x m m1 s r ex h c f t k =
    handed_seen (λ u. Text (a ++ b)) (joint (text a) (text b)) r h (does_stop _ _ (does_stop _ _ (does_act _ f t k (charged_as (length a) x m (Err s) m1 ex c))))

pub joint_second : (a b : LabelledText) (x y : ℕ) (m m1 m2 : State) (s : Stop) (r : Result (Unit {0}) Stop) → length a ≡ x → length b ≡ y → IsErrAnd r (λ e. e ≡ s) → Acts (charge_bytes x) m (Ok tt) m1 → Acts (charge_bytes y) m1 (Err s) m2
    → Runs (joint (text a) (text b)) m (on_ok (λ u. Text (a ++ b)) r) m2
joint_second a b x y m m1 m2 s r ex ey h c d f t k =
    handed_seen (λ u. Text (a ++ b)) (joint (text a) (text b)) r h
    (does_stop _ _ (does_next _ _ (does_act _ f t k (charged_as (length a) x m (Ok tt) m1 ex c)) (does_act _ f t k (charged_as (length b) y m1 (Err s) m2 ey d))))

-- both are charged
joint_on : (a b : LabelledText) (x y : ℕ) (m m1 m2 m3 : State) (r : Result Value Stop) → length a ≡ x → length b ≡ y → Acts (charge_bytes x) m (Ok tt) m1 → Acts (charge_bytes y) m1 (Ok tt) m2
    → Runs (concatenated (text a) (text b)) m2 r m3 → Runs (joint (text a) (text b)) m r m3
joint_on a b x y m m1 m2 m3 r ex ey c d h f t k =
    does_next _ _ (does_next _ _ (does_act _ f t k (charged_as (length a) x m (Ok tt) m1 ex c)) (does_act _ f t k (charged_as (length b) y m1 (Ok tt) m2 ey d))) (h f t k)

-- and the text would be too long
pub joint_too_long : (a b : LabelledText) (x y : ℕ) (m m1 m2 : State) (s : Stop) → length a ≡ x → length b ≡ y → LONGEST < x + y → s ≡ Fault TextTooLong m2.line → Acts (charge_bytes x) m (Ok tt) m1 → Acts (charge_bytes y) m1 (Ok tt) m2
    → Runs (joint (text a) (text b)) m (Err s) m2
joint_too_long a b x y m m1 m2 s ex ey lt e c d = joint_on a b x y m m1 m2 m2 (Err s) ex ey c d (λ f t k.
    does_next _ _ (does_known (text_of (text a)) a m2 refl f t k)
    (does_next _ _ (does_known (text_of (text b)) b m2 refl f t k)
    (does_stop _ _ (rw e (does_act _ f t k (fault_as (settled (too_long (a ++ b))) m2 m2 TextTooLong m2.line refl refl (ap (λ x. settled x m2) (too_much (a ++ b) longer))))))))
  where
    longer : LONGEST < length (a ++ b)
    longer = omega (arith, lt, ex, ey, length-append a b)

-- and so is the one that they make
pub joint_made : (a b : LabelledText) (x y : ℕ) (m m1 m2 m3 : State) (r : Result (Unit {0}) Stop) → length a ≡ x → length b ≡ y → x + y ≤ LONGEST → Acts (charge_bytes x) m (Ok tt) m1 → Acts (charge_bytes y) m1 (Ok tt) m2 → Acts (charge_bytes (x + y)) m2 r m3
    → Runs (joint (text a) (text b)) m (on_ok (λ u. Text (a ++ b)) r) m3
joint_made a b x y m m1 m2 m3 r ex ey le c d g = joint_on a b x y m m1 m2 m3 (on_ok (λ u. Text (a ++ b)) r) ex ey c d (λ f t k.
    does_next _ _ (does_known (text_of (text a)) a m2 refl f t k)
    (does_next _ _ (does_known (text_of (text b)) b m2 refl f t k)
    (does_next _ _ (does_known (too_long (a ++ b)) (a ++ b) m2 (short_enough (a ++ b) short) f t k)
    (does_seen (act (charge (length (a ++ b) / 256))) (λ u. Text (a ++ b)) r (does_act _ f t k (charged_as (length (a ++ b)) (x + y) m2 r m3 both g))))))
  where
    both : length (a ++ b) ≡ x + y
    both = omega (arith, ex, ey, length-append a b)

    short : length (a ++ b) ≤ LONGEST
    short = omega (arith, le, both)

-- a charge leaves all but ticks
pub charged_same : (n : ℕ) (m m1 : State) → Acts (charge_bytes n) m (Ok tt) m1 → m1 ≡ record m { ticks = m1.ticks }
charged_same n m m1 c =
    let e : m1 ≡ record m { ticks = m.ticks - n / 256 } = after_charge (n / 256) m m1 c.acted in
    e ∙ ap (λ (k : ℕ). record m { ticks = k }) (sym (ap (λ (x : State). x.ticks) e))

pub same_then : (m m1 m2 : State) → m1 ≡ record m { ticks = m1.ticks } → m2 ≡ record m1 { ticks = m2.ticks } → m2 ≡ record m { ticks = m2.ticks }
same_then m m1 m2 e g = g ∙ ap (λ (x : State). record x { ticks = m2.ticks }) e

pub same_variable : (name : List ℕ) (m m1 : State) → m1 ≡ record m { ticks = m1.ticks } → variable name m1 ≡ variable name m
same_variable name m m1 e = ap (variable name) e

-- ---- the text of a variable

none_some : (n : ℕ) → ◌≡◌ {A = Option ℕ} None (Some n) → ⊥
none_some n e = cc

some_is : (k n : ℕ) → ◌≡◌ {A = Option ℕ} (Some k) (Some n) → k ≡ n
some_is k n e = cc

-- where there is a length there is a text
pub record Holds (o : Option Value) (n : ℕ) : Type 0 where
  pub t : LabelledText
  pub is : o ≡ Some (Text t)
  pub long : length t ≡ n

pub holds : (o : Option Value) (n : ℕ) → text_length o ≡ Some n → Holds o n
holds None n e = absurd (none_some n e)
holds (Some Null) n e = absurd (none_some n e)
holds (Some (Truth b)) n e = absurd (none_some n e)
holds (Some (Int k s)) n e = absurd (none_some n e)
holds (Some (Text t)) n e = record { t = t; is = refl; long = some_is (length t) n e }
holds (Some (Arr a)) n e = absurd (none_some n e)
holds (Some (Obj o)) n e = absurd (none_some n e)

text_is : (t x : LabelledText) → ◌≡◌ {A = Value} (Text t) (Text x) → t ≡ x
text_is t x e = cc

pub taken_text : (o : Option Value) (t x : LabelledText) → Text t ≡ unwrap_or o Null → o ≡ Some (Text x) → t ≡ x
taken_text o t x e g = text_is t x (e ∙ ap (λ (v : Option Value). unwrap_or v Null) g)

pub does_read : (name : List ℕ) (v : Value) (m : State) → variable name m ≡ Some v → Runs (act (fetch name no_postfix)) m (Ok v) m
does_read name v m e f t k = does_act (fetch name no_postfix) f t k (gives_same (fetch name no_postfix) m v (ap (λ (o : Option Value). let r : Result Value Stop × State = (Ok (unwrap_or o Null), m) in r) e))

-- ---- putting a value where one was taken out

put_acted : (name : List ℕ) (v : Value) (m m1 : State) (r : Result Value Stop) (m2 : State) → put name v m1 ≡ put name v m → m1.stage.journal ≡ m.stage.journal → ActedLoosely (put name v) m1 r m2 → ActedLoosely (put name v) m r m2
put_acted name v m m1 (Ok u) m2 e j h = sym e ∙ h
put_acted name v m m1 (Err (Thrown o)) m2 e j h = sym e ∙ h
put_acted name v m m1 (Err Exit) m2 e j h = sym e ∙ h
put_acted name v m m1 (Err (Fault f line)) m2 e j h = sym e ∙ h
put_acted name v m m1 (Err Keeper) m2 e j h = h
put_acted name v m m1 (Err Memory) m2 e j h = h ∙ j

pub put_after : (name : List ℕ) (v : Value) (m m1 : State) (r : Result Value Stop) (m2 : State) → m1 ≡ taken_from name m → IsInside m m1 → ActsLoosely (put name v) m1 r m2 → ActsLoosely (put name v) m r m2
put_after name v m m1 r m2 e i h = record {
  acted = put_acted name v m m1 r m2 same (ap (λ s. s.journal) i.stage) h.acted;
  ticks = omega (arith, i.ticks, h.ticks);
  keeps = keeps_then m m1 m2 (keeps_inside m m1 i) h.keeps;
  ties = λ ne t. h.ties ne (tied_inside m m1 i t);
}
  where
    old : Value
    old = unwrap_or (variable name m) Null

    same : put name v m1 ≡ put name v m
    same = ap (λ (p : Result (Unit {0}) Stop × State). let q : Result Value Stop × State = (Ok v, p.1) in q) (put_taken (Variable name) old v m m1 (ap (λ (s : State). let q : Result Value Stop × State = (Ok old, s) in q) (sym e)))

-- ---- a put value is a stored one

end_of : {A : Type 0} (x y : Result A Stop) (m m' : State) → ◌≡◌ {A = Result A Stop × State} (x, m) (y, m') → x ≡ y
end_of {A = A} x y m m' e = ap (λ (p : Result A Stop × State). p.0) e

state_of : {A : Type 0} (x y : Result A Stop) (m m' : State) → ◌≡◌ {A = Result A Stop × State} (x, m) (y, m') → m ≡ m'
state_of {A = A} x y m m' e = ap (λ (p : Result A Stop × State). p.1) e

same_ok : (x y : Value) → ◌≡◌ {A = Result Value Stop} (Ok x) (Ok y) → x ≡ y
same_ok x y e = cc

no_stop : {A : Type 0} (v : A) (s : Stop) → ◌≡◌ {A = Result A Stop} (Ok v) (Err s) → ⊥
no_stop v s e = cc

pub stored_by : (name : List ℕ) (v : Value) (m : State) (r : Result Value Stop) (m' : State) → ActsLoosely (put name v) m r m' → Runs (stored_value name no_postfix v) m r m'
stored_by name v m r m' h f t k = by r h.acted h.ties
  where
    no : (s : Stop) → put name v m ≡ (Err s, m') → ⊥
    no s e = no_stop {A = Value} v s (end_of {A = Value} (Ok v) (Err s) (with_variable name v m) m' e)

    by : (r : Result Value Stop) → ActedLoosely (put name v) m r m' → (r ≢ Err Memory → Tied m → Tied m') → Does (stored_value name no_postfix v) (world m f t k) r (world m' f t k)
    by (Ok u) e ties =
        does_next _ _ (does_loosely (store name no_postfix v) f t k (record { acted = ap (λ (s : State). let q : Result (Unit {0}) Stop × State = (Ok tt, s) in q) (state_of (Ok v) (Ok u) (with_variable name v m) m' e); ticks = h.ticks; keeps = h.keeps; ties = λ ne. ties (λ k. cc) }))
        (does_give_as v u _ (same_ok v u (end_of (Ok v) (Ok u) (with_variable name v m) m' e)))
    by (Err (Thrown o)) e ties = absurd (no (Thrown o) e)
    by (Err Exit) e ties = absurd (no Exit e)
    by (Err (Fault x line)) e ties = absurd (no (Fault x line) e)
    by (Err Keeper) e ties = absurd e
    by (Err Memory) e ties = does_stop _ _ (does_loosely (store name no_postfix v) f t k (record { acted = e; ticks = h.ticks; keeps = h.keeps; ties = λ ne. absurd (ne refl) }))

-- behind the text that was taken out
pub put_behind : (name : List ℕ) (more t x : LabelledText) (m m1 : State) (r : Result Value Stop) (m2 : State) → t ≡ x → m1 ≡ taken_from name m → IsInside m m1 → ActsLoosely (put name (Text (t ++ more))) m1 r m2 → ActsLoosely (put name (Text (x ++ more))) m r m2
put_behind name more t x m m1 r m2 e taken i h = subst (λ (z : LabelledText). ActsLoosely (put name (Text (z ++ more))) m r m2) e (put_after name (Text (t ++ more)) m m1 r m2 taken i h)

-- ---- the whole

abbrev pub appended_at : List ℕ → Path → Value → Prog Value
appended_at name path y = act (fetch name path) >>= λ x. joint (tree_of x) (tree_of y) >>= stored_value name path

pub appended_as : (name : List ℕ) (path : Path) (y : Value) → path ≡ no_postfix → appended name y ≡ appended_at name path y
appended_as name path y e = λ i. appended_at name (sym e i) y

-- the texts can't be charged, or are too long together
pub append_stops : (name w : List ℕ) (y : Value) (b : LabelledText) (n k : ℕ) (m m1 : State) (s : Stop) (r : Result Value Stop) → w ≡ name → y ≡ Text b → Some n ≡ text_length (variable w m) → length b ≡ k → IsErrAnd r (λ e. e ≡ s)
    → ((a c : LabelledText) → length a ≡ n → length c ≡ k → Runs (joint (text a) (text c)) m (Err s) m1) → Runs (appended name y) m r m1
append_stops name w y b n k m m1 s r ew ey en ek h stops = runs_as (appended name y) (appended w (Text b)) m r m1 (λ i. appended (sym ew i) (ey i)) (λ f t c.
    does_next _ _ (does_read w (Text old.t) m old.is f t c) (does_exit _ _ r h (stops old.t b old.long ek f t c)))
  where
    old : Holds (variable w m) n
    old = holds (variable w m) n (sym en)

-- the text grows
pub append_goes : (name w : List ℕ) (y : Value) (b : LabelledText) (n k : ℕ) (m m1 : State) (r : Result Value Stop) (m2 : State) → w ≡ name → y ≡ Text b → Some n ≡ text_length (variable w m) → length b ≡ k → m1 ≡ record m { ticks = m1.ticks }
    → ((a c : LabelledText) → length a ≡ n → length c ≡ k → Runs (joint (text a) (text c)) m (Ok (Text (a ++ c))) m1)
    → ((x : LabelledText) → variable w m1 ≡ Some (Text x) → ActsLoosely (put w (Text (x ++ b))) m1 r m2) → Runs (appended name y) m r m2
append_goes name w y b n k m m1 r m2 ew ey en ek same goes puts = runs_as (appended name y) (appended w (Text b)) m r m2 (λ i. appended (sym ew i) (ey i)) (λ f t c.
    does_next _ _ (does_read w (Text old.t) m old.is f t c)
    (does_next _ _ (goes old.t b old.long ek f t c) (stored_by w (Text (old.t ++ b)) m1 r m2 (puts old.t (same_variable w m m1 same ∙ old.is)) f t c)))
  where
    old : Holds (variable w m) n
    old = holds (variable w m) n (sym en)

-- the same by another name that is the same
pub put_at : (w z : List ℕ) (b : LabelledText) (m : State) (r : Result Value Stop) (m2 : State) → z ≡ w → ((x : LabelledText) → variable z m ≡ Some (Text x) → ActsLoosely (put z (Text (x ++ b))) m r m2)
    → (x : LabelledText) → variable w m ≡ Some (Text x) → ActsLoosely (put w (Text (x ++ b))) m r m2
put_at w z b m r m2 e h = subst (λ (v : List ℕ). (x : LabelledText) → variable v m ≡ Some (Text x) → ActsLoosely (put v (Text (x ++ b))) m r m2) e h
