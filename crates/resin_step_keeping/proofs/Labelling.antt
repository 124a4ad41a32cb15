-- Bytes with the objects of their policies.
use Rattle.std.proofs.Common.{◌≡◌, ℕ, zero, suc, ◌+◌, ◌-◌, ◌<◌, ◌≤◌, Bool, true, false, List, [], ◌∷◌, ◌++◌, length, map, take, drop, get_or, slice_get, None, Some, refl, sym, ap, ◌∙◌, arith, append_assoc, append-nil, length-append}
use Rattle.std.specs.Prelude.{Option, replicate, min, nat_eq, ◌||◌}
use Rattle.std.specs.List.{list_any, zip}
use Rattle.std.specs.Option.{option_map_or}
use Rattle.resin_shadow.specs.Marks.{Marks}
use Rattle.resin_shadow.specs.Shadows.{places}
use Rattle.resin_shadow.specs.Parts.{PlacedRun, run_spelled, spelled_by}
use Rattle.resin_step_parts.specs.Under.store.Entries.{Marked, plain_bytes, marks}
use Rattle.resin_step_parts.specs.Under.label.Sets.{NumberSet, empty, contains, union, set_of as labels_of}
use Rattle.resin_step_parts.proofs.label_lemmas.Members.{same_by, contains-union, contains-set_of}
use Rattle.resin_step_parts.specs.Under.lstr.Texts.{Text as LabelledText, carrying}
use Rattle.resin_step_parts.specs.Under.meaning_forms.Keeping.{labels_for, labelled}
use Rattle.resin_step_parts.proofs.meaning_lemmas.Composition.{front, nothing_left}
use Rattle.resin_step_keeping.specs.Sets.{TakesRun, objects_at, labels_at}
use Rattle.resin_step_keeping.proofs.Spelled.{spelled-map}
use Rattle.resin_step_keeping.proofs.Answers_of.{take_whole}

-- ---- sets of halves
any-append : {X : Type 0} (p : X → Bool) (xs ys : List X) → list_any p (xs ++ ys) ≡ (list_any p xs || list_any p ys)
any-append p [] ys = refl
any-append p (x ∷ xs) ys = by (p x) (any-append p xs ys)
  where
    by : (b : Bool) → list_any p (xs ++ ys) ≡ (list_any p xs || list_any p ys) → (b || list_any p (xs ++ ys)) ≡ ((b || list_any p xs) || list_any p ys)
    by true e = refl
    by false e = e

union_of : (xs ys : List ℕ) → union (labels_of xs) (labels_of ys) ≡ labels_of (xs ++ ys)
union_of xs ys =
    same_by (union (labels_of xs) (labels_of ys)) (labels_of (xs ++ ys))
    (λ q. contains-union (labels_of xs) (labels_of ys) q ∙ ap (λ b. b || contains (labels_of ys) q) (contains-set_of xs q) ∙ ap (λ b. list_any (λ x. nat_eq x q) xs || b) (contains-set_of ys q)
    ∙ sym (any-append (λ x. nat_eq x q) xs ys) ∙ sym (contains-set_of (xs ++ ys) q))

take-drop : {X : Type 0} (n : ℕ) (xs : List X) → take n xs ++ drop n xs ≡ xs
take-drop zero xs = refl
take-drop (suc n) [] = refl
take-drop (suc n) (x ∷ xs) = ap (λ ys. x ∷ ys) (take-drop n xs)

drop_size : {X : Type 0} (n : ℕ) (xs : List X) → length (drop n xs) ≤ length xs - n
drop_size zero xs = omega arith
drop_size (suc n) [] = omega arith
drop_size (suc n) (x ∷ xs) = let h = drop_size n xs in omega (arith, h)

pub all_behind : {X : Type 0} (n : ℕ) (xs : List X) → take (length xs - n) (drop n xs) ≡ drop n xs
all_behind n xs = take_whole (drop n xs) (length xs - n) (drop_size n xs)

pub halves : (half : ℕ) (ns front behind : List ℕ) (a b s : NumberSet) → front ≡ take half ns → behind ≡ take (length ns - half) (drop half ns) → a ≡ labels_of front → b ≡ labels_of behind → s ≡ union a b → s ≡ labels_of ns
halves half ns front behind a b s f g e h u =
    u ∙ ap (λ x. union x b) e ∙ ap (union (labels_of front)) h ∙ union_of front behind ∙ ap (λ xs. labels_of (xs ++ behind)) f ∙ ap (λ ys. labels_of (take half ns ++ ys)) (g ∙ all_behind half ns) ∙ ap labels_of (take-drop half ns)

-- ---- bytes with the sets of runs
run_front : (n k : ℕ) (s : NumberSet) (bytes : List ℕ) (more : List NumberSet) → k ≤ n → k ≤ length bytes → (k < n → k ≡ length bytes) → zip bytes (replicate n s ++ more) ≡ carrying s (take k bytes) ++ zip (drop k bytes) more
run_front zero zero s bytes more a b c = refl
run_front zero (suc k) s bytes more a b c = absurd (omega (arith, a))
run_front (suc n) zero s [] more a b c = refl
run_front (suc n) zero s (x ∷ bytes) more a b c = absurd (let e = c (omega arith) in omega (arith, e))
run_front (suc n) (suc k) s [] more a b c = absurd (omega (arith, b))
run_front (suc n) (suc k) s (x ∷ bytes) more a b c = ap (λ v. (x, s) ∷ v) (run_front n k s bytes more (omega (arith, a)) (omega (arith, b)) (λ h. let e = c (omega (arith, h)) in omega (arith, e)))

front_size : {X : Type 0} (k : ℕ) (xs : List X) → k ≤ length xs → length (take k xs) ≡ k
front_size zero xs h = refl
front_size (suc k) [] h = absurd (omega (arith, h))
front_size (suc k) (x ∷ xs) h = ap suc (front_size k xs (omega (arith, h)))

length-carrying : (s : NumberSet) (bs : List ℕ) → length (carrying s bs) ≡ length bs
length-carrying s [] = refl
length-carrying s (b ∷ bs) = ap suc (length-carrying s bs)

drop-drop : {X : Type 0} (n k : ℕ) (xs : List X) → drop k (drop n xs) ≡ drop (n + k) xs
drop-drop zero k xs = ap (λ m. drop m xs) (let e : k ≡ 0 + k = omega arith in e)
drop-drop (suc n) k [] = nothing_left [] k (omega arith) ∙ sym (nothing_left [] (suc n + k) (omega arith))
drop-drop (suc n) k (x ∷ xs) = drop-drop n k xs ∙ ap (λ m. drop m (x ∷ xs)) (let e : suc (n + k) ≡ suc n + k = omega arith in e)

-- a run of bytes is taken
pub takes_run : (bytes : List ℕ) (s : NumberSet) (n k : ℕ) (old new : LabelledText) (front_bytes : List ℕ) → k ≡ min n (length (drop (length old) bytes)) → front_bytes ≡ take k (drop (length old) bytes) → new ≡ old ++ carrying s front_bytes
    → TakesRun bytes (replicate n s) old new
takes_run bytes s n k old new front_bytes count f e more =
    let rest = drop (length old) bytes in
    let size : length new ≡ length old + k = ap length e ∙ length-append old (carrying s front_bytes) ∙ ap (λ n. length old + n) (length-carrying s front_bytes ∙ ap length f ∙ front_size k rest (omega (arith, count))) in
    ap (λ t. t ++ zip (drop (length new) bytes) more) e
    ∙ append_assoc old (carrying s front_bytes) (zip (drop (length new) bytes) more)
    ∙ ap (λ v. old ++ (carrying s v ++ zip (drop (length new) bytes) more)) f
    ∙ ap (λ v. old ++ (carrying s (take k rest) ++ zip v more)) (ap (λ n. drop n bytes) size ∙ sym (drop-drop (length old) k bytes))
    ∙ ap (λ v. old ++ v) (sym (run_front n k s rest more (omega (arith, count)) (omega (arith, count)) (λ l. omega (arith, count, l))))

pub takes_from : (bytes : List ℕ) (s : NumberSet) (n k from : ℕ) (old new : LabelledText) (rest front_bytes : List ℕ) → from ≡ length old → rest ≡ take (length bytes - from) (drop from bytes) → k ≡ min n (length rest) → front_bytes ≡ take k rest → new ≡ old ++ carrying s front_bytes
    → TakesRun bytes (replicate n s) old new
takes_from bytes s n k from old new rest front_bytes at r count f e =
    let whole : rest ≡ drop (length old) bytes = r ∙ all_behind from bytes ∙ ap (λ m. drop m bytes) at in
    takes_run bytes s n k old new front_bytes (count ∙ ap (λ xs. min n (length xs)) whole) (f ∙ ap (take k) whole) e

-- an empty run
pub no_run_taken : (sets : List NumberSet) (n place : ℕ) (bytes : List ℕ) (text : LabelledText) → slice_get sets place ≡ None → TakesRun bytes (run_spelled sets (n, place)) text text
no_run_taken sets n place bytes text at more = ap (λ o. text ++ zip (drop (length text) bytes) (option_map_or (replicate n) o [] ++ more)) (sym at)

pub get_same : {X : Type 0} (xs : List X) (i : ℕ) (d e : X) → i < length xs → get_or xs i d ≡ get_or xs i e
get_same [] i d e h = absurd (omega arith)
get_same (x ∷ xs) zero d e h = refl
get_same (x ∷ xs) (suc i) d e h = get_same xs i d e (omega arith)

-- a loop over runs goes on
pub run_taken : (sets : List NumberSet) (runs : List PlacedRun) (i : ℕ) (r : PlacedRun) (old new : LabelledText) (bytes : List ℕ) (whole : LabelledText) → i < length runs → r ≡ get_or runs i r → TakesRun bytes (run_spelled sets r) old new
    → old ++ zip (drop (length old) bytes) (spelled_by sets (drop i runs)) ≡ whole → new ++ zip (drop (length new) bytes) (spelled_by sets (drop (i + 1) runs)) ≡ whole
run_taken sets runs i r old new bytes whole h is t so_far =
    t (spelled_by sets (drop (i + 1) runs)) ∙ ap (λ rs. old ++ zip (drop (length old) bytes) (spelled_by sets rs)) (sym (front runs i r h is)) ∙ so_far

zip-nil : {A B : Type 0} (xs : List A) → zip {X = B} xs [] ≡ []
zip-nil [] = refl
zip-nil (x ∷ xs) = refl

pub all_read : (sets : List NumberSet) (runs : List PlacedRun) (i : ℕ) (text : LabelledText) (rest : List ℕ) (whole : LabelledText) → length runs ≤ i → text ++ zip rest (spelled_by sets (drop i runs)) ≡ whole → text ≡ whole
all_read sets runs i text rest whole h so_far =
    sym (append-nil text) ∙ ap (λ v. text ++ v) (sym (zip-nil rest)) ∙ ap (λ rs. text ++ zip rest (spelled_by sets rs)) (sym (nothing_left runs i h)) ∙ so_far

-- ---- the whole
map-map : {X Y Z : Type 0} (f : Y → Z) (g : X → Y) (xs : List X) → map f (map g xs) ≡ map (λ x. f (g x)) xs
map-map f g [] = refl
map-map f g (x ∷ xs) = ap (λ v. f (g x) ∷ v) (map-map f g xs)

marked_pairs : (table : List (List ℕ)) (objects : List ℕ) (d : Marked) → zip (plain_bytes d) (map (labels_at objects) (map (places table) (marks d))) ≡ labelled table objects d
marked_pairs table objects [] = refl
marked_pairs table objects (b ∷ d) = ap (λ v. (b.0, labels_for table objects b.1) ∷ v) (marked_pairs table objects d)

pub labelled_is : {L : Type 0} (items_of : L → List ℕ) (sets : List L) (runs : List PlacedRun) (table : List (List ℕ)) (objects bytes : List ℕ) (v : Marks) (d : Marked) (text : LabelledText)
    → spelled_by (map items_of sets) runs ≡ map (places table) v → plain_bytes d ≡ bytes → marks d ≡ v → text ≡ zip bytes (spelled_by (map (λ s. labels_at objects (items_of s)) sets) runs) → text ≡ labelled table objects d
labelled_is items_of sets runs table objects bytes v d text e b m t =
    t
    ∙ ap (λ s. zip bytes (spelled_by s runs)) (sym (map-map (labels_at objects) items_of sets))
    ∙ ap (zip bytes) (spelled-map (labels_at objects) (map items_of sets) runs ∙ ap (map (labels_at objects)) (e ∙ ap (map (places table)) (sym m)))
    ∙ ap (λ xs. zip xs (map (labels_at objects) (map (places table) (marks d)))) (sym b)
    ∙ marked_pairs table objects d
