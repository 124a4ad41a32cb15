-- A call of a builtin function gives no ticks back, and the machine pays what it spent.
use Rattle.std.proofs.Common.{◌≡◌, ℕ, ◌-◌, ◌/◌, ◌≤◌, List, [], ◌∷◌, length, drop, Bool, true, false, cond, not, Option, None, Some, Result, Ok, Err, refl, sym, ap, subst, ◌∙◌, arith}
use Rattle.std.specs.Prelude.{nat_lt, nat_le, sum_by, unwrap_or}
use Rattle.std.specs.List.{slice_get}
use Rattle.resin_step_parts.specs.Under.label.Sets.{NumberSet}
use Rattle.resin_step_parts.specs.Under.lstr.declared.limits.TheConstants.{LONGEST}
use Rattle.resin_step_parts.specs.Under.lstr.Texts.{Text as LabelledText}
use Rattle.resin_step_parts.specs.Under.scalar.declared.faults.CallStop.{CallStop}
use Rattle.resin_step_parts.specs.Under.scalar.declared.faults.CallStop.TheVariants.{Throw, Fault as CallFault, Memory as CallMemory}
use Rattle.resin_step_parts.specs.Under.scalar.declared.faults.ScriptFault.TheVariants.{FuelSpent, TextTooLong}
use Rattle.resin_step_parts.specs.Under.value.declared.value.Value.{Value}
use Rattle.resin_step_parts.specs.Under.value.Trees.{Tree, text}
use Rattle.resin_step_parts.specs.Under.value.Arrays.{EntryList}
use Rattle.resin_step_parts.specs.Under.value.Compare.{Charged}
use Rattle.resin_step_parts.specs.Under.value.Seen.{tree_of}
use Rattle.resin_step_parts.specs.Under.value.Values.{value_of, value_of-tree_of}
use Rattle.resin_step_parts.specs.Under.ops.Places.{seen_answer}
use Rattle.resin_step_parts.specs.Under.text_fn.Stops.{GivesCharged}
use Rattle.resin_step_parts.specs.Under.text_fn.Rows.{str_replace}
use Rattle.resin_step_parts.specs.Under.text_fn.Matches.{replaced}
use Rattle.resin_step_parts.specs.Under.array_fn.Searches.{fits, or_on, holds}
use Rattle.resin_step_parts.specs.Under.builtin.declared.builtin.Builtin.{Builtin}
use Rattle.resin_step_parts.specs.Under.builtin.declared.builtin.Builtin.TheVariants.{StrReplace, InArray}
use Rattle.resin_step_parts.specs.Under.builtin.Signatures.{sig_of, is_count}
use Rattle.resin_step_parts.specs.Under.builtin.Rows.{mapped, is_array}
use Rattle.resin_step_parts.specs.Under.builtin.Arguments.{text_at, array_at, value_at, flag_at}
use Rattle.resin_step_parts.specs.Under.builtin.Calls.{Answer, with_ticks, in_array_row, searches_in, replacements_in, str_replace_row, work as work_of, cost, given, called, call_of}
use Rattle.resin_step_parts.specs.Under.machine.declared.stop.Stop.{Stop}
use Rattle.resin_step_parts.specs.Under.machine.declared.stop.Stop.TheVariants.{Memory}
use Rattle.resin_step_parts.specs.Under.machine.State.{State}
use Rattle.resin_step_parts.specs.Under.machine.Steps.{Acts, ActsLoosely, charge}
use Rattle.resin_step_parts.specs.Under.machine.Objects.{settled}
use Rattle.resin_step_parts.proofs.target_lemmas.Ends.{as_step, lost_step}
use Rattle.resin_step_parts.proofs.Ticks.{equal_falls, identical_falls}
use Rattle.resin_step_parts.proofs.Answered.{charged_then}
use Rattle.resin_step_parts.specs.Under.meaning_forms.Functions.{work}

-- ---- no ticks come back

same : (n : ℕ) → n ≤ n
same n = omega arith

either : {X : Type 0} (b : Bool) (x y : X × ℕ) (n : ℕ) → x.1 ≤ n → y.1 ≤ n → (cond b x y).1 ≤ n
either true x y n hx hy = hx
either false x y n hx hy = hy

with_falls : {X Y : Type 0} (r : Result X CallStop) (n : ℕ) (rest : X → Answer Y) → ((x : X) → (rest x).1 ≤ n) → (with_ticks r n rest).1 ≤ n
with_falls (Ok x) n rest f = f x
with_falls (Err stop) n rest f = same n

fits_falls : (strict : Bool) (v t : Tree) (n : ℕ) → (fits strict v t n).1 ≤ n
fits_falls true v t n = identical_falls v t n
fits_falls false v t n = equal_falls v t n

on_falls : (r : Result Bool CallStop) (k n : ℕ) (rest : ℕ → Charged CallStop) → k ≤ n → ((m : ℕ) → (rest m).1 ≤ m) → (or_on r k rest).1 ≤ n
on_falls (Ok false) k n rest h f = let g : (rest k).1 ≤ k = f k in omega (arith, g, h)
on_falls (Ok true) k n rest h f = h
on_falls (Err stop) k n rest h f = h

holds_falls : (strict : Bool) (v : Tree) (es : EntryList) (n : ℕ) → (holds strict v es n).1 ≤ n
holds_falls strict v [] n = same n
holds_falls strict v (e ∷ es) n = on_falls (fits strict v e.1 n).0 (fits strict v e.1 n).1 n (λ m. holds strict v es m) (fits_falls strict v e.1 n) (λ m. holds_falls strict v es m)

minus_falls : (n k m : ℕ) → k ≤ n - m → k ≤ n
minus_falls n k m h = omega (arith, h)

less : (n m : ℕ) → n - m ≤ n
less n m = omega arith

replace_falls : (searches with : List LabelledText) (s : LabelledText) (n : ℕ) → (str_replace searches with s n).1 ≤ n
replace_falls [] with s n = same n
replace_falls (search ∷ searches) with s n =
    let charge : ℕ = length s / 256 in
    let after : LabelledText = replaced search (unwrap_or (slice_get with 0) []) s in
    either (nat_lt n charge) (Err (CallFault FuelSpent), n) (cond (nat_le (length after) LONGEST) (str_replace searches (drop 1 with) after (n - charge)) (Err (CallFault TextTooLong), n - charge)) n (same n)
    (either (nat_le (length after) LONGEST) (str_replace searches (drop 1 with) after (n - charge)) (Err (CallFault TextTooLong), n - charge) n
    (minus_falls n (str_replace searches (drop 1 with) after (n - charge)).1 charge (replace_falls searches (drop 1 with) after (n - charge)))
    (less n charge))

-- the two functions whose work costs ticks
in_array_falls : (ts : List Tree) (n : ℕ) → (in_array_row ts n).1 ≤ n
in_array_falls ts n =
    with_falls (value_at ts 0) n _ (λ v.
    with_falls (array_at ts 1) n _ (λ a. holds_falls (flag_at ts 2) v a.entries n))

abbrev replaced_row : Tree → Tree → LabelledText → ℕ → Answer Tree
replaced_row a b s n =
    with_ticks (searches_in a) n (λ searched.
    with_ticks (replacements_in (is_array a) b (length searched)) n (λ with.
    let r = str_replace searched with s n in (mapped text r.0, r.1)))

replaced_falls : (a b : Tree) (s : LabelledText) (n : ℕ) → (replaced_row a b s n).1 ≤ n
replaced_falls a b s n =
    with_falls (searches_in a) n _ (λ searched.
    with_falls (replacements_in (is_array a) b (length searched)) n _ (λ with. replace_falls searched with s n))

str_replace_falls : (ts : List Tree) (n : ℕ) → (str_replace_row ts n).1 ≤ n
str_replace_falls ts n =
    with_falls (value_at ts 0) n _ (λ a.
    with_falls (value_at ts 1) n _ (λ b.
    with_falls (text_at ts 2) n _ (λ s. replaced_falls a b s n)))

work_falls : (b : Builtin) (ts : List Tree) (set : NumberSet) (n : ℕ) → (work_of b ts set n).1 ≤ n
work_falls StrReplace ts set n = str_replace_falls ts n
work_falls InArray ts set n = in_array_falls ts n
work_falls b ts set n = same n

given_falls : (r : Result Tree CallStop) (n : ℕ) → (given r n).1 ≤ n
given_falls (Ok t) n = either (nat_lt n (cost t)) (Err (CallFault FuelSpent), n) (Ok t, n - cost t) n (same n) (less n (cost t))
given_falls (Err stop) n = same n

-- what the work leaves, once its answer is charged
charged_falls : (r : Answer Tree) (n k : ℕ) → r.1 ≤ n - k → (given r.0 r.1).1 ≤ n
charged_falls r n k h = let g : (given r.0 r.1).1 ≤ r.1 = given_falls r.0 r.1 in omega (arith, g, h)

called_falls : (b : Builtin) (ts : List Tree) (set : NumberSet) (n : ℕ) → (called b ts set n).1 ≤ n
called_falls b ts set n =
    either (not (is_count (sig_of b) (length ts))) _ _ n (same n)
    (either (nat_lt n (sum_by cost ts)) _ _ n (same n)
    (charged_falls (work_of b ts set (n - sum_by cost ts)) n (sum_by cost ts) (work_falls b ts set (n - sum_by cost ts))))

named_falls : (o : Option Builtin) (ts : List Tree) (set : NumberSet) (n : ℕ) → (call_of o ts set n).1 ≤ n
named_falls None ts set n = same n
named_falls (Some b) ts set n = called_falls b ts set n

below : (x : Answer Tree) (r : Result Tree CallStop) (left n : ℕ) → x ≡ (r, left) → x.1 ≤ n → left ≤ n
below x r left n e h = let k : x.1 ≡ left = ap (λ p. p.1) e in omega (arith, k, h)

-- the ticks that a call leaves are at most those that it had
pub left_below : (o : Option Builtin) (ts : List Tree) (set : NumberSet) (n left : ℕ) (r : Result Value CallStop) → GivesCharged (seen_answer r) left (call_of o ts set n) → (r ≡ Err CallMemory → left ≡ n) → left ≤ n
left_below o ts set n left (Ok v) g kept = below (call_of o ts set n) (Ok (tree_of v)) left n g (named_falls o ts set n)
left_below o ts set n left (Err (Throw kind)) g kept = below (call_of o ts set n) (Err (Throw kind)) left n g (named_falls o ts set n)
left_below o ts set n left (Err (CallFault fault)) g kept = below (call_of o ts set n) (Err (CallFault fault)) left n g (named_falls o ts set n)
left_below o ts set n left (Err CallMemory) g kept = let e : left ≡ n = kept refl in omega (arith, e)

-- ---- what the machine pays

as_settled : (b : Builtin) (ts : List Tree) (set : NumberSet) (m : State) (left : ℕ) (x : Result Tree CallStop) → called b ts set m.ticks ≡ (x, left) → work b ts set m ≡ settled (mapped value_of x) (record m { ticks = left })
as_settled b ts set m left x e = ap (λ (a : Answer Tree). settled (mapped value_of a.0) (record m { ticks = a.1 })) e

-- the work, once its ticks are charged and its answer is settled
pub work_done : (b : Builtin) (ts : List Tree) (set : NumberSet) (o : Option Builtin) (m m1 m2 : State) (answer : Result Value CallStop) (left n : ℕ) (r : Result Value Stop)
    → o ≡ Some b → GivesCharged (seen_answer answer) left (call_of o ts set m.ticks) → (answer ≡ Err CallMemory → left ≡ m.ticks) → n ≡ m.ticks - left → Acts (charge n) m (Ok tt) m1 → ActsLoosely (settled answer) m1 r m2
    → ActsLoosely (work b ts set) m r m2
work_done b ts set o m m1 m2 answer left n r named g kept is a h =
    by answer (subst (λ (x : Option Builtin). GivesCharged (seen_answer answer) left (call_of x ts set m.ticks)) named g) kept
    (charged_then answer left n m m1 r m2 (left_below o ts set m.ticks left answer g kept) is a h)
  where
    by : (answer : Result Value CallStop) → GivesCharged (seen_answer answer) left (called b ts set m.ticks) → (answer ≡ Err CallMemory → left ≡ m.ticks) → ActsLoosely (λ s. settled answer (record s { ticks = left })) m r m2
        → ActsLoosely (work b ts set) m r m2
    by (Ok v) g kept h =
        as_step (work b ts set) (λ s. settled (Ok v) (record s { ticks = left })) m r m2
        (as_settled b ts set m left (Ok (tree_of v)) g ∙ ap (λ (w : Value). settled (Ok w) (record m { ticks = left })) (value_of-tree_of v)) h
    by (Err (Throw kind)) g kept h = as_step (work b ts set) (λ s. settled (Err (Throw kind)) (record s { ticks = left })) m r m2 (as_settled b ts set m left (Err (Throw kind)) g) h
    by (Err (CallFault fault)) g kept h = as_step (work b ts set) (λ s. settled (Err (CallFault fault)) (record s { ticks = left })) m r m2 (as_settled b ts set m left (Err (CallFault fault)) g) h
    by (Err CallMemory) g kept h =
        lost_step (work b ts set) m r m2
        (as_step (settled (Err CallMemory)) (λ s. settled (Err CallMemory) (record s { ticks = left })) m r m2 (ap (λ (k : ℕ). let p : Result Value Stop × State = (Err Memory, record m { ticks = k }) in p) (sym (kept refl))) h)
