-- Bytes and fields that are taken, as the reading of a list of bytes gives them.
use Rattle.std.proofs.Common.{◌≡◌, ℕ, zero, suc, ◌+◌, ◌-◌, ◌<◌, ◌≤◌, Bool, true, false, cond, List, [], ◌∷◌, ◌++◌, length, take, drop, get_or, Option, Some, None, refl, sym, ap, subst, ◌∙◌, arith, append_assoc, append-nil}
use Rattle.std.specs.Prelude.{◌&&◌, not, nat_eq, nat_lt, codes, Result, Ok, Err, option_map, is_some, IsErrAnd}
use Rattle.std.proofs.lemmas.Result.{err_from_is_err_and}
use Rattle.std.specs.List.{All, position, position_or_len, before_first, after_first, count_by}
use Rattle.std.proofs.lemmas.Bool.Decides.{nat_tests}
use Rattle.std.proofs.lemmas.List.Elements.{All-nil, All-cons}
use Rattle.std.proofs.lemmas.List.Splits.{slice_split_first, slice_split_none, length-slice_split}
use Rattle.std.proofs.Math.Seq.{drop-cons}
use denote.Ref.{Bor}
use Rattle.resin_journal.specs.declared.channel.Channel.{Channel}
use Rattle.resin_journal_file.specs.Reading.{and_then, is_text, cut, fields_of, number, next_as, objects, LARGEST_OBJECT, is_rising, sent, told, said}
use Rattle.resin_journal_file.specs.Reading as reading
use Rattle.resin_journal_file.proofs.Once.{from_some, none_some}
use Rattle.resin_audit.specs.declared.stop.Stop.{Stop}
use Rattle.resin_audit.specs.declared.stop.Stop.TheVariants.{Form, Memory}
use Rattle.resin_audit.specs.declared.labels.Runs.{Runs}
use Rattle.resin_audit.specs.Read.{Reads, Gives, Becomes, Takes, TakesField, NamesField}
use Rattle.resin_audit.specs.declared.items.Item.{Item}
use Rattle.resin_audit.specs.Fields.{fields_left, is_none as no_more}
use Rattle.resin_audit.specs.Runs.{next_run, next_runs}
use Rattle.resin_audit.specs.Told.{kept_of, kept_front}

pub then_some : {A B : Type 0} (o : Option A) (a : A) (f : A → Option B) → o ≡ Some a → and_then o f ≡ f a
then_some o a f e = ap (λ p. and_then p f) e

pub then_none : {A B : Type 0} (o : Option A) (f : A → Option B) → o ≡ None → and_then o f ≡ None
then_none o f e = ap (λ p. and_then p f) e

-- ---- cuts
pub cut_some : (c : ℕ) (xs : List ℕ) (end : ℕ) → position (λ b. nat_eq b c) xs ≡ Some end → (cut c xs ≡ Some (take end xs, drop (end + 1) xs)) × (end < length xs)
cut_some c xs end e = by (nat_lt (position_or_len (λ b. nat_eq b c) xs) (length xs)) refl e
  where
    by : (b : Bool) → nat_lt (position_or_len (λ b. nat_eq b c) xs) (length xs) ≡ b → cond b (Some (position_or_len (λ b. nat_eq b c) xs)) None ≡ Some end
        → (cut c xs ≡ Some (take end xs, drop (end + 1) xs)) × (end < length xs)
    by true t e =
        let at : position_or_len (λ b. nat_eq b c) xs ≡ end = from_some _ end e in (
          ap (λ b. cond b (Some (before_first (λ b. nat_eq b c) xs, after_first (λ b. nat_eq b c) xs)) None) t ∙ ap (λ n. Some (take n xs, drop (n + 1) xs)) at,
          (let lt : position_or_len (λ b. nat_eq b c) xs < length xs = grind (arith, nat_tests) in omega (arith, at, lt)),
        )
    by false t e = absurd (none_some end e)

pub cut_none : (c : ℕ) (xs : List ℕ) → position (λ b. nat_eq b c) xs ≡ None → cut c xs ≡ None
cut_none c xs e = by (nat_lt (position_or_len (λ b. nat_eq b c) xs) (length xs)) refl e
  where
    by : (b : Bool) → nat_lt (position_or_len (λ b. nat_eq b c) xs) (length xs) ≡ b → cond b (Some (position_or_len (λ b. nat_eq b c) xs)) None ≡ None → cut c xs ≡ None
    by true t e = absurd (none_some _ (sym e))
    by false t e = ap (λ b. cond b (Some (before_first (λ b. nat_eq b c) xs, after_first (λ b. nat_eq b c) xs)) None) t

-- ---- fields
pub fields_cut : (xs f rest : List ℕ) → cut 32 xs ≡ Some (f, rest) → fields_of xs ≡ f ∷ fields_of rest
fields_cut xs f rest e = by (nat_lt (position_or_len (λ b. nat_eq b 32) xs) (length xs)) refl e
  where
    by : (b : Bool) → nat_lt (position_or_len (λ b. nat_eq b 32) xs) (length xs) ≡ b
        → cond {A = Option (List ℕ × List ℕ)} b (Some (before_first (λ b. nat_eq b 32) xs, after_first (λ b. nat_eq b 32) xs)) None ≡ Some (f, rest) → fields_of xs ≡ f ∷ fields_of rest
    by true t e =
        let lt : position_or_len (λ b. nat_eq b 32) xs < length xs = grind (arith, nat_tests) in
        let pair = from_some {A = List ℕ × List ℕ} (before_first (λ b. nat_eq b 32) xs, after_first (λ b. nat_eq b 32) xs) (f, rest) e in
        slice_split_first (λ b. nat_eq b 32) xs 0 lt ∙ ap (λ p. p.0 ∷ fields_of p.1) pair
    by false t e = absurd (none_some (f, rest) e)

none_stands : (p : ℕ → Bool) (xs : List ℕ) → nat_lt (position_or_len p xs) (length xs) ≡ false → All (λ x. p x ≡ false) xs
none_stands p [] h = All-nil (λ x. p x ≡ false)
none_stands p (x ∷ xs) h = by (p x) refl (λ k. none_stands p xs k)
  where
    none_before : length (x ∷ xs) ≤ position_or_len p (x ∷ xs)
    none_before = grind (arith, nat_tests)

    by : (b : Bool) → p x ≡ b → (nat_lt (position_or_len p xs) (length xs) ≡ false → All (λ x. p x ≡ false) xs) → All (λ x. p x ≡ false) (x ∷ xs)
    by true t rest =
        let e : position_or_len p (x ∷ xs) ≡ 0 = ap (λ b. cond (not b) (1 + position_or_len p xs) 0) t in
        let le = none_before in absurd (omega (arith, e, le))
    by false t rest =
        let e : position_or_len p (x ∷ xs) ≡ 1 + position_or_len p xs = ap (λ b. cond (not b) (1 + position_or_len p xs) 0) t in
        let le = none_before in
        let l : length xs ≤ position_or_len p xs = omega (arith, e, le) in
        let f : nat_lt (position_or_len p xs) (length xs) ≡ false = grind (arith, nat_tests) in
        All-cons (λ x. p x ≡ false) x xs t (rest f)

pub fields_whole : (xs : List ℕ) → cut 32 xs ≡ None → fields_of xs ≡ xs ∷ []
fields_whole xs e = by (nat_lt (position_or_len (λ b. nat_eq b 32) xs) (length xs)) refl e
  where
    by : (b : Bool) → nat_lt (position_or_len (λ b. nat_eq b 32) xs) (length xs) ≡ b
        → cond {A = Option (List ℕ × List ℕ)} b (Some (before_first (λ b. nat_eq b 32) xs, after_first (λ b. nat_eq b 32) xs)) None ≡ None → fields_of xs ≡ xs ∷ []
    by true t e = absurd (none_some _ (sym e))
    by false t e = slice_split_none (λ b. nat_eq b 32) xs (none_stands (λ b. nat_eq b 32) xs t)

-- the next field as what a call reads in it
pub takes_field : {A : Type 0} (read : List ℕ → Option A) (old new : List (List ℕ)) (f : List ℕ) (r : Option A) → old ≡ f ∷ new → r ≡ read f → TakesField (next_as read old) r new
takes_field {A = A} read old new f None e is = ap (next_as read) e ∙ ap (λ o. and_then {B = A × List (List ℕ)} o (λ a. Some (a, new))) (sym is)
takes_field {A = A} read old new f (Some a) e is = ap (next_as read) e ∙ ap (λ o. and_then {B = A × List (List ℕ)} o (λ a. Some (a, new))) (sym is)

pub takes_name : (read : List ℕ → Option (List ℕ)) (old new : List (List ℕ)) (f : List ℕ) (r : Option (Bor (List ℕ))) → old ≡ f ∷ new → NamesField (read f) r → Takes (next_as read old) r new
takes_name read old new f None e is = ap (next_as read) e ∙ ap (λ o. and_then {B = List ℕ × List (List ℕ)} o (λ a. Some (a, new))) is
takes_name read old new f (Some a) e is = ap (next_as read) e ∙ ap (λ o. and_then {B = List ℕ × List (List ℕ)} o (λ a. Some (a, new))) is

pub no_field : {A : Type 0} (read : List ℕ → Option A) (old : List (List ℕ)) → old ≡ [] → next_as read old ≡ None
no_field read old e = ap (next_as read) e

-- ---- what is passed on by a `?`
pub gives_stop : {A B : Type 0} (o : Option A) (f : A → Option B) (e : Stop) → Gives o (Err e) → Gives (and_then o f) (Err e)
gives_stop o f Form h = then_none o f h
gives_stop o f Memory h = tt

pub reads_stop : {A B C D : Type 0} (o : Option (A × B)) (f : A × B → Option (C × D)) (e : Stop) (new : B) (end : D) → Reads o (Err e) new → Reads (and_then o f) (Err e) end
reads_stop o f Form new end h = then_none o f h
reads_stop o f Memory new end h = tt

-- ---- runs, line by line
pub runs_step : (count i : ℕ) (s t : Runs) (xs ys : List ℕ) → i < count → next_run s xs ≡ Some (t, ys) → next_runs (count - i) s xs ≡ next_runs (count - (i + 1)) t ys
runs_step count i s t xs ys lt h =
    let e : count - i ≡ suc (count - (i + 1)) = omega (arith, lt) in
    ap (λ n. next_runs n s xs) e ∙ then_some (next_run s xs) (t, ys) (λ r. next_runs (count - (i + 1)) r.0 r.1) h

pub runs_stop : (count i : ℕ) (s : Runs) (xs end : List ℕ) (out : Option (Runs × List ℕ)) (e : Stop) (new : Runs × List ℕ) → i < count → out ≡ next_runs (count - i) s xs
    → Becomes (next_run s xs) (Err e) new → Reads {A = Runs} out (Err e) end
runs_stop count i s xs end out Form new lt is h =
    let e : count - i ≡ suc (count - (i + 1)) = omega (arith, lt) in
    is ∙ ap (λ n. next_runs n s xs) e ∙ then_none (next_run s xs) (λ r. next_runs (count - (i + 1)) r.0 r.1) h
runs_stop count i s xs end out Memory new lt is h = tt

pub runs_end : (count i : ℕ) (s : Runs) (xs : List ℕ) (out : Option (Runs × List ℕ)) → count ≤ i → out ≡ next_runs (count - i) s xs → out ≡ Some (s, xs)
runs_end count i s xs out le is = let e : count - i ≡ 0 = omega (arith, le) in is ∙ ap (λ n. next_runs n s xs) e

-- ---- numbers of policies, field by field
pub objects_step : (fs gs : List (List ℕ)) (p : ℕ) (ns : List ℕ) → next_as (number LARGEST_OBJECT) fs ≡ Some (p, gs)
    → and_then (objects fs) (λ ms. Some (ns ++ ms)) ≡ and_then (objects gs) (λ ms. Some ((ns ++ p ∷ []) ++ ms))
objects_step [] gs p ns e = absurd (none_some (p, gs) e)
objects_step (f ∷ fs) gs p ns e = by (number LARGEST_OBJECT f) refl e
  where
    more : (o : Option (List ℕ)) → and_then (and_then o (λ ms. Some (p ∷ ms))) (λ ms. Some (ns ++ ms)) ≡ and_then o (λ ms. Some ((ns ++ p ∷ []) ++ ms))
    more None = refl
    more (Some ms) = ap (λ t. Some t) (sym (append_assoc ns (p ∷ []) ms))

    by : (o : Option ℕ) → number LARGEST_OBJECT f ≡ o → and_then {B = ℕ × List (List ℕ)} o (λ a. Some (a, fs)) ≡ Some (p, gs)
        → and_then (and_then o (λ n. and_then (objects fs) (λ ms. Some (n ∷ ms)))) (λ ms. Some (ns ++ ms)) ≡ and_then (objects gs) (λ ms. Some ((ns ++ p ∷ []) ++ ms))
    by None t e = absurd (none_some (p, gs) e)
    by (Some n) t e =
        let pair = from_some {A = ℕ × List (List ℕ)} (n, fs) (p, gs) e in
        ap (λ q. and_then (and_then (objects q.1) (λ ms. Some (q.0 ∷ ms))) (λ ms. Some (ns ++ ms))) pair ∙ more (objects gs)

pub objects_none : (fs : List (List ℕ)) (ns : List ℕ) (some : (fs ≡ []) → ⊥) → next_as (number LARGEST_OBJECT) fs ≡ None → and_then (objects fs) (λ ms. Some (ns ++ ms)) ≡ None
objects_none [] ns some e = absurd (some refl)
objects_none (f ∷ fs) ns some e = by (number LARGEST_OBJECT f) e
  where
    by : (o : Option ℕ) → and_then {B = ℕ × List (List ℕ)} o (λ a. Some (a, fs)) ≡ None → and_then (and_then o (λ n. and_then (objects fs) (λ ms. Some (n ∷ ms)))) (λ ms. Some (ns ++ ms)) ≡ None
    by None e = refl
    by (Some n) e = absurd (none_some (n, fs) (sym e))

pub fewer_fields : {A : Type 0} (read : List ℕ → Option A) (fs gs : List (List ℕ)) (a : A) → next_as read fs ≡ Some (a, gs) → length gs < length fs
fewer_fields read [] gs a e = absurd (none_some (a, gs) e)
fewer_fields {A = A} read (f ∷ fs) gs a e = by (read f) e
  where
    by : (o : Option A) → and_then {B = A × List (List ℕ)} o (λ a. Some (a, fs)) ≡ Some (a, gs) → length gs < length (f ∷ fs)
    by None e = absurd (none_some (a, gs) e)
    by (Some b) e = let k = ap length (ap (λ p. p.1) (from_some {A = A × List (List ℕ)} (b, fs) (a, gs) e)) in omega (arith, k)

-- ---- numbers that rise
pub rises_step : (ns : List ℕ) (i : ℕ) → 0 < i → i < length ns → is_rising (drop (i - 1) ns) ≡ (nat_lt (get_or ns (i - 1) 0) (get_or ns i 0) && is_rising (drop i ns))
rises_step ns i pos lt =
    let next : suc (i - 1) ≡ i = omega (arith, pos) in
    let second : drop i ns ≡ get_or ns i 0 ∷ drop (suc i) ns = drop-cons ns i 0 lt in
    let first : drop (i - 1) ns ≡ get_or ns (i - 1) 0 ∷ get_or ns i 0 ∷ drop (suc i) ns =
    drop-cons ns (i - 1) 0 (omega (arith, pos, lt)) ∙ ap (λ n. get_or ns (i - 1) 0 ∷ drop n ns) next ∙ ap (λ t. get_or ns (i - 1) 0 ∷ t) second in
    ap is_rising first ∙ ap (λ t. nat_lt (get_or ns (i - 1) 0) (get_or ns i 0) && is_rising t) (sym second)

-- at most one number is left
pub rises_end : (ns : List ℕ) (i : ℕ) → 0 < i → length ns ≤ i → is_rising (drop (i - 1) ns) ≡ true
rises_end [] i pos le = ap is_rising (none (i - 1))
  where
    none : (n : ℕ) → drop {A = ℕ} n [] ≡ []
    none zero = refl
    none (suc n) = refl
rises_end (n ∷ []) i pos le = by (i - 1)
  where
    none : (n : ℕ) → is_rising (drop {A = ℕ} n []) ≡ true
    none zero = refl
    none (suc n) = refl

    by : (k : ℕ) → is_rising (drop k (n ∷ [])) ≡ true
    by zero = refl
    by (suc k) = none k
rises_end (n ∷ m ∷ ms) i pos le =
    let e : i - 1 ≡ suc (i - 1 - 1) = (let l : 2 ≤ i = omega (arith, le) in omega (arith, l)) in
    ap (λ k. is_rising (drop k (n ∷ m ∷ ms))) e ∙ rises_end (m ∷ ms) (i - 1) (omega (arith, le)) (omega (arith, le))

-- ---- calls that pass a stop on
pub runs_exit : (count i : ℕ) (s : Runs) (xs end : List ℕ) (out : Option (Runs × List ℕ)) (e : Stop) (new : Runs × List ℕ) (r : Result Runs Stop) → IsErrAnd r (λ d. d ≡ e) → i < count
    → out ≡ next_runs (count - i) s xs → Becomes (next_run s xs) (Err e) new → Reads out r end
runs_exit count i s xs end out e new r is lt o h = let p = err_from_is_err_and r is in rw (p.1, p.2) (runs_stop count i s xs end out e new lt o h)

-- ---- fields that are left
some_field : (xs : List ℕ) → false ≡ no_more (fields_of xs)
some_field xs = by (fields_of xs) (length-slice_split (λ c. nat_eq c 32) xs)
  where
    by : (fs : List (List ℕ)) → length fs ≡ count_by (λ c. nat_eq c 32) xs + 1 → false ≡ no_more fs
    by [] e = absurd (omega (arith, e))
    by (f ∷ fs) e = refl

true_false : true ≡ false → ⊥
true_false e = cc

-- no field is left where nothing is left of the line
pub none_left : (l : Option (Bor (List ℕ))) (none : Bool) → is_some l ≡ not none → none ≡ no_more (fields_left l)
none_left None true e = refl
none_left None false e = absurd (true_false (sym e))
none_left (Some b) true e = absurd (true_false e)
none_left (Some b) false e = some_field b.now

-- ---- what a line tells
pub line_told : (fs gs : List (List ℕ)) (verb xs : List ℕ) (r : Option Item) → fs ≡ verb ∷ gs → is_text verb (codes "sent") ≡ false → r ≡ option_map kept_of (told verb gs)
    → kept_front (said fs xs) ≡ option_map (λ i. (i, xs)) r
line_told fs gs verb xs r e t is =
    ap (λ hs. kept_front (said hs xs)) e ∙ ap (λ b. kept_front (cond b (sent gs xs) (and_then (told verb gs) (λ i. Some (i, xs))))) t
    ∙ by (told verb gs) ∙ ap (λ o. option_map (λ i. (i, xs)) o) (sym is)
  where
    by : (o : Option reading.Item) → kept_front (and_then o (λ i. Some (i, xs))) ≡ option_map (λ i. (i, xs)) (option_map kept_of o)
    by None = refl
    by (Some i) = refl
