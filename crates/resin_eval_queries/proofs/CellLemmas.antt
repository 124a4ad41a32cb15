-- What the reads of cells begin with, by what is known of a cell.
use Rattle.std.proofs.Common.{◌≡◌, ℕ, suc, ◌<◌, ◌≤◌, Bool, true, false, cond, List, [], ◌∷◌, length, map, Option, Some, None, Result, Ok, Err, IsErrAnd, refl, sym, ap, subst, ◌∙◌, arith}
use Rattle.std.specs.Prelude.{nat_lt}
use Rattle.resin_shadow.specs.Marks.{Marks}
use Rattle.resin_eval_writes.specs.Under.base.declared.cell.Cell.{Cell}
use Rattle.resin_eval_writes.specs.Under.base.declared.cell.Cell.TheVariants as cell
use Rattle.resin_eval_writes.specs.Under.base.declared.files.Entry.{Entry}
use Rattle.resin_eval_writes.specs.Under.lstr.declared.limits.TheConstants.{LONGEST}
use Rattle.resin_eval_writes.specs.Under.machine.declared.stop.Stop.{Stop}
use Rattle.resin_eval_writes.specs.Under.machine.declared.stop.Stop.TheVariants.{Memory}
use Rattle.resin_eval_writes.specs.Under.machine.Steps.{faults}
use Rattle.resin_eval_writes.specs.Under.meaning.Programs.{Prog, give}
use Rattle.resin_eval_writes.specs.Under.meaning.Runs.{World, Does}
use Rattle.resin_eval_writes.specs.Under.meaning_forms.Cells.{damaged_entry, marks_of, whole_marks}
use Rattle.resin_eval_writes.specs.Under.meaning_forms.Keeping.{size, thaw_entry, thaw_short}
use Rattle.resin_eval_writes.specs.Under.meaning_forms.Parts.{faulted}
use Rattle.resin_eval_writes.specs.Under.scalar.declared.faults.ScriptFault.{ScriptFault}
use Rattle.resin_eval_writes.specs.Under.scalar.declared.faults.ScriptFault.TheVariants.{BadShadow, TextTooLong}
use Rattle.resin_eval_writes.specs.Under.store.Entries.{LabelledEntry, Good, Bad, plain, lift, marks, marks_in}
use Rattle.resin_eval_writes.proofs.meaning_lemmas.Composition.{does_unbegun_exit}
use Rattle.resin_eval_writes.proofs.meaning_lemmas.OneCall.{kept_entry}
use Rattle.resin_eval_writes.proofs.step_parts_lemmas.Steps.{does_lost_act, does_lost_give}
use Rattle.resin_eval_queries.specs.Cells.{damage}

is_long : (n : ℕ) → LONGEST < n → nat_lt LONGEST n ≡ true
is_long n h = grind arith

isnt_long : (n : ℕ) → n ≤ LONGEST → nat_lt LONGEST n ≡ false
isnt_long n h = grind arith

-- ---- a damaged cell

picked : {A : Type 0} (b : Bool) → cond b (faulted {A = A} TextTooLong) (faulted BadShadow) ≡ faulted (cond b TextTooLong BadShadow)
picked true = refl
picked false = refl

none_long : {A : Type 0} (p q : Prog A) → cond (nat_lt LONGEST 0) p q ≡ q
none_long p q = ap (λ b. cond b p q) (isnt_long 0 (omega arith))

pub thaw_damaged : (v : Cell) → thaw_entry (damaged_entry v) ≡ faulted (damage v)
thaw_damaged (cell.Text bytes) = picked (nat_lt LONGEST (length bytes))
thaw_damaged (cell.Int n) = none_long (faulted TextTooLong) (faulted BadShadow)
thaw_damaged cell.Null = none_long (faulted TextTooLong) (faulted BadShadow)

pub marks_damaged : (v : Cell) → whole_marks (damaged_entry v) ≡ faulted (damage v)
marks_damaged (cell.Text bytes) = picked (nat_lt LONGEST (length bytes))
marks_damaged (cell.Int n) = none_long (faulted TextTooLong) (faulted BadShadow)
marks_damaged cell.Null = none_long (faulted TextTooLong) (faulted BadShadow)

-- ---- want of memory before the first step

either : {A : Type 0} (b : Bool) (p q : Prog A) {u w : World} {r : Result A Stop} → Does p u r w → Does q u r w → Does (cond b p q) u r w
either true p q d e = d
either false p q d e = e

thaw_short_lost : (l : LabelledEntry) {w : World} (r : Result _ Stop) → IsErrAnd r (λ e. e ≡ Memory) → Does (thaw_short l) w r w
thaw_short_lost (Good d version) r h = does_unbegun_exit _ _ r h
thaw_short_lost (Bad bytes shadow) r h = does_lost_act (faults BadShadow) r h

pub thaw_lost : (l : LabelledEntry) {w : World} (r : Result _ Stop) → IsErrAnd r (λ e. e ≡ Memory) → Does (thaw_entry l) w r w
thaw_lost l r h = either (nat_lt LONGEST (size l)) _ _ (does_lost_act (faults TextTooLong) r h) (thaw_short_lost l r h)

marks_of_lost : (l : LabelledEntry) {w : World} (r : Result Marks Stop) → IsErrAnd r (λ e. e ≡ Memory) → Does (marks_of l) w r w
marks_of_lost (Good d version) r h = does_lost_give (marks d) r h
marks_of_lost (Bad bytes shadow) r h = does_lost_act (faults BadShadow) r h

pub marks_lost : (l : LabelledEntry) {w : World} (r : Result Marks Stop) → IsErrAnd r (λ e. e ≡ Memory) → Does (whole_marks l) w r w
marks_lost l r h = either (nat_lt LONGEST (size l)) _ _ (does_lost_act (faults TextTooLong) r h) (marks_of_lost l r h)

-- ---- the policy texts of an entry

length-map : {X Y : Type 0} (f : X → Y) (xs : List X) → length (map f xs) ≡ length xs
length-map f [] = refl
length-map f (x ∷ xs) = ap suc (length-map f xs)

size_by : (l : LabelledEntry) (e : Entry) → plain l ≡ e → size l ≡ length e.bytes
size_by (Good d v) e h = sym (length-map (λ b. b.0) d) ∙ ap (λ x. length x.bytes) h
size_by (Bad bytes shadow) e h = ap (λ x. length x.bytes) h

size_is : (e : Entry) → size (lift e) ≡ length e.bytes
size_is e = size_by (lift e) e (kept_entry e)

pub marks_long : (e : Entry) → LONGEST < length e.bytes → whole_marks (lift e) ≡ faulted TextTooLong
marks_long e h = ap (λ b. cond b (faulted TextTooLong) (marks_of (lift e))) (is_long (size (lift e)) (subst (λ n. LONGEST < n) (sym (size_is e)) h))

marks_short : (e : Entry) → length e.bytes ≤ LONGEST → whole_marks (lift e) ≡ marks_of (lift e)
marks_short e h = ap (λ b. cond b (faulted TextTooLong) (marks_of (lift e))) (isnt_long (size (lift e)) (subst (λ n. n ≤ LONGEST) (sym (size_is e)) h))

good_marks : (l : LabelledEntry) (v : Marks) → Some v ≡ marks_in l → marks_of l ≡ give v
good_marks (Good d version) v e = ap (λ (x : Marks). give x) (sym (let q : v ≡ marks d = cc in q))
good_marks (Bad bytes shadow) v e = absurd (let q : ⊥ = cc in q)

bad_marks : (l : LabelledEntry) → None ≡ marks_in l → marks_of l ≡ faulted BadShadow
bad_marks (Good d version) e = absurd (let q : ⊥ = cc in q)
bad_marks (Bad bytes shadow) e = refl

pub marks_good : (e : Entry) (v : Marks) → length e.bytes ≤ LONGEST → Some v ≡ marks_in (lift e) → whole_marks (lift e) ≡ give v
marks_good e v h f = marks_short e h ∙ good_marks (lift e) v f

pub marks_bad : (e : Entry) → length e.bytes ≤ LONGEST → None ≡ marks_in (lift e) → whole_marks (lift e) ≡ faulted BadShadow
marks_bad e h f = marks_short e h ∙ bad_marks (lift e) f
