-- Lists of answers, each of which may be missing.
use Rattle.std.proofs.Common.{◌≡◌, ◌≢◌, ℕ, zero, suc, ◌+◌, ◌<◌, ◌≤◌, Bool, true, false, List, [], ◌∷◌, ◌++◌, length, map, take, get_or, slice_get, None, Some, refl, sym, ap, subst, ◌∙◌, arith}
use Rattle.std.specs.Prelude.{Option, replicate, is_some, ◌&&◌}
use Rattle.std.specs.List.{flat_map, list_all}
use Rattle.std.specs.Option.{option_map, option_map_or, option_and_then}
use Rattle.std.proofs.lemmas.Bool.{true≢false}
use Rattle.resin_shadow.specs.Parts.{PlacedRun, run_spelled, spelled_by}
use Rattle.resin_step_parts.specs.Under.meaning_forms.Keeping.{each_of}
use Rattle.resin_step_keeping.proofs.Spelled.{none_some, some_is, map-append, map-replicate, both_true}

-- one more answer in front
abbrev with_first : {A : Type 0} → Option A → Option (List A) → Option (List A)
with_first o os = option_and_then (λ x. option_map (λ xs. x ∷ xs) os) o

first_some : {A : Type 0} (o : Option A) (os : Option (List A)) (ys : List A) → with_first o os ≡ Some ys → (y : A) × (zs : List A) × (o ≡ Some y) × (os ≡ Some zs) × (ys ≡ y ∷ zs)
first_some None os ys e = absurd (none_some ys e)
first_some (Some y) None ys e = absurd (none_some ys e)
first_some (Some y) (Some zs) ys e = (y, zs, refl, refl, sym (some_is (y ∷ zs) ys e))

pub each-append : {A : Type 0} (os ps : List (Option A)) (ys zs : List A) → each_of os ≡ Some ys → each_of ps ≡ Some zs → each_of (os ++ ps) ≡ Some (ys ++ zs)
each-append [] ps ys zs e f = f ∙ ap (λ v. Some (v ++ zs)) (some_is [] ys e)
each-append (o ∷ os) ps ys zs e f =
    let p = first_some o (each_of os) ys e in
    ap (λ q. with_first q (each_of (os ++ ps))) p.2 ∙ ap (with_first (Some p.0)) (each-append os ps p.1 zs p.3 f) ∙ ap (λ v. Some (v ++ zs)) (sym p.4)

pub each-same : {A : Type 0} (n : ℕ) (o : Option A) (y : A) → o ≡ Some y → each_of (replicate n o) ≡ Some (replicate n y)
each-same zero o y e = refl
each-same (suc n) o y e = ap (λ q. with_first q (each_of (replicate n o))) e ∙ ap (with_first (Some y)) (each-same n o y e)

-- an answer that is seen otherwise
pub each-map : {A B X : Type 0} (f : X → Option A) (h : A → B) (xs : List X) (ys : List A) → each_of (map f xs) ≡ Some ys → each_of (map (λ x. option_map h (f x)) xs) ≡ Some (map h ys)
each-map f h [] ys e = ap (λ v. Some (map h v)) (some_is [] ys e)
each-map f h (x ∷ xs) ys e =
    let p = first_some (f x) (each_of (map f xs)) ys e in
    ap (λ q. with_first (option_map h q) (each_of (map (λ x. option_map h (f x)) xs))) p.2 ∙ ap (with_first (Some (h p.0))) (each-map f h xs p.1 p.3) ∙ ap (λ v. Some (map h v)) (sym p.4)

-- the answer at a place
abbrev AnswersAt : {A X : Type 0} → (X → Option A) → Option X → Option A → Type 0
AnswersAt f None o = o ≡ None
AnswersAt {A = A} f (Some x) o = (y : A) × (o ≡ Some y) × (f x ≡ Some y)

answers_at : {A X : Type 0} (f : X → Option A) (xs : List X) (ys : List A) (n : ℕ) → each_of (map f xs) ≡ Some ys → AnswersAt f (slice_get xs n) (slice_get ys n)
answers_at f [] ys n e = ap (λ v. slice_get v n) (sym (some_is [] ys e))
answers_at f (x ∷ xs) ys zero e =
    let p = first_some (f x) (each_of (map f xs)) ys e in
    (p.0, ap (λ v. slice_get v 0) p.4, p.2)
answers_at f (x ∷ xs) ys (suc n) e =
    let p = first_some (f x) (each_of (map f xs)) ys e in
    subst (λ v. AnswersAt f (slice_get xs n) (slice_get v (suc n))) (sym p.4) (answers_at f xs p.1 n p.3)

run_answers : {A X : Type 0} (f : X → Option A) (n : ℕ) (o : Option X) (p : Option A) → AnswersAt f o p → each_of (map f (option_map_or (replicate n) o [])) ≡ Some (option_map_or (replicate n) p [])
run_answers f n None p h = ap (λ q. Some (option_map_or (replicate n) q [])) (sym h)
run_answers f n (Some x) p h = ap each_of (map-replicate f n x) ∙ each-same n (f x) h.0 h.2 ∙ ap (λ q. Some (option_map_or (replicate n) q [])) (sym h.1)

-- the answers of the sets of runs are those of the bytes
pub spelled-each : {A X : Type 0} (f : X → Option A) (sets : List X) (answers : List A) (runs : List PlacedRun) → each_of (map f sets) ≡ Some answers → each_of (map f (spelled_by sets runs)) ≡ Some (spelled_by answers runs)
spelled-each f sets answers [] e = refl
spelled-each f sets answers (r ∷ rs) e =
    ap each_of (map-append f (run_spelled sets r) (spelled_by sets rs))
    ∙ each-append (map f (run_spelled sets r)) (map f (spelled_by sets rs)) (run_spelled answers r) (spelled_by answers rs)
    (run_answers f r.0 (slice_get sets r.1) (slice_get answers r.1) (answers_at f sets answers r.1 e)) (spelled-each f sets answers rs e)

-- none is missing exactly where each is there
pub all_there : {A X : Type 0} (f : X → Option A) (xs : List X) (ys : List A) → each_of (map f xs) ≡ Some ys → list_all (λ x. is_some (f x)) xs ≡ true
all_there f [] ys e = refl
all_there f (x ∷ xs) ys e =
    let p = first_some (f x) (each_of (map f xs)) ys e in
    ap (λ o. is_some o && list_all (λ x. is_some (f x)) xs) p.2 ∙ all_there f xs p.1 p.3

there_all : {A : Type 0} (o : Option A) (os : Option (List A)) → with_first o os ≡ None → is_some o ≡ true → os ≡ None
there_all None os e h = absurd (true≢false (sym h))
there_all (Some y) None e h = refl
there_all (Some y) (Some zs) e h = absurd (none_some (y ∷ zs) (sym e))

pub not_missing : {A X : Type 0} (f : X → Option A) (xs : List X) → each_of (map f xs) ≡ None → list_all (λ x. is_some (f x)) xs ≡ true → ⊥
not_missing f [] e h = none_some [] (sym e)
not_missing f (x ∷ xs) e h =
    let p = both_true (is_some (f x)) (list_all (λ x. is_some (f x)) xs) h in
    not_missing f xs (there_all (f x) (each_of (map f xs)) e p.0) p.1

-- ---- loops
next : {X : Type 0} (xs : List X) (i : ℕ) (x : X) → i < length xs → x ≡ get_or xs i x → take (suc i) xs ≡ take i xs ++ x ∷ []
next [] i x h e = absurd (omega arith)
next (y ∷ xs) zero x h e = ap (λ z. z ∷ []) (sym e)
next (y ∷ xs) (suc i) x h e = ap (λ ys. y ∷ ys) (next xs i x (omega arith) e)

pub take_more : {X : Type 0} (xs : List X) (i : ℕ) (x : X) → i < length xs → x ≡ get_or xs i x → take (i + 1) xs ≡ take i xs ++ x ∷ []
take_more xs i x h e = ap (λ n. take n xs) (let s : i + 1 ≡ suc i = omega arith in s) ∙ next xs i x h e

pub take_whole : {X : Type 0} (xs : List X) (i : ℕ) → length xs ≤ i → take i xs ≡ xs
take_whole [] zero h = refl
take_whole [] (suc i) h = refl
take_whole (x ∷ xs) zero h = absurd (omega arith)
take_whole (x ∷ xs) (suc i) h = ap (λ ys. x ∷ ys) (take_whole xs i (omega arith))

pub each_more : {A X : Type 0} (f : X → Option A) (xs : List X) (i : ℕ) (x : X) (y : A) (now new : List A) → i < length xs → x ≡ get_or xs i x → each_of (map f (take i xs)) ≡ Some now → f x ≡ Some y → new ≡ now ++ y ∷ [] → each_of (map f (take (i + 1) xs)) ≡ Some new
each_more f xs i x y now new h at e is n =
    ap (λ zs. each_of (map f zs)) (take_more xs i x h at) ∙ ap each_of (map-append f (take i xs) (x ∷ []))
    ∙ each-append (map f (take i xs)) (f x ∷ []) now (y ∷ []) e (ap (λ o. with_first o (Some [])) is) ∙ ap Some (sym n)

pub each_done : {A X : Type 0} (f : X → Option A) (xs : List X) (i : ℕ) (now : List A) → length xs ≤ i → each_of (map f (take i xs)) ≡ Some now → each_of (map f xs) ≡ Some now
each_done f xs i now h e = ap (λ zs. each_of (map f zs)) (sym (take_whole xs i h)) ∙ e

first_none : {A : Type 0} (o : Option A) → with_first o None ≡ None
first_none None = refl
first_none (Some y) = refl

pub each_missing : {A X : Type 0} (f : X → Option A) (xs : List X) (i : ℕ) (x : X) → i < length xs → x ≡ get_or xs i x → f x ≡ None → each_of (map f xs) ≡ None
each_missing f [] i x h at none = absurd (omega arith)
each_missing f (y ∷ xs) zero x h at none = ap (λ o. with_first o (each_of (map f xs))) (ap f (sym at) ∙ none)
each_missing f (y ∷ xs) (suc i) x h at none = ap (with_first (f y)) (each_missing f xs i x (omega arith) at none) ∙ first_none (f y)

-- the same where the items are numbers
get_there : (xs : List ℕ) (i d : ℕ) → i < length xs → get_or xs i 0 ≡ get_or xs i d
get_there [] i d h = absurd (omega arith)
get_there (x ∷ xs) zero d h = refl
get_there (x ∷ xs) (suc i) d h = get_there xs i d (omega arith)

pub number_more : {A : Type 0} (f : ℕ → Option A) (xs : List ℕ) (i : ℕ) (y : A) (now new : List A) → i < length xs → each_of (map f (take i xs)) ≡ Some now → f (get_or xs i 0) ≡ Some y → new ≡ now ++ y ∷ [] → each_of (map f (take (i + 1) xs)) ≡ Some new
number_more f xs i y now new h e is n = each_more f xs i (get_or xs i 0) y now new h (get_there xs i (get_or xs i 0) h) e is n

pub number_missing : {A : Type 0} (f : ℕ → Option A) (xs : List ℕ) (i : ℕ) → i < length xs → f (get_or xs i 0) ≡ None → each_of (map f xs) ≡ None
number_missing f xs i h none = each_missing f xs i (get_or xs i 0) h (get_there xs i (get_or xs i 0) h) none
