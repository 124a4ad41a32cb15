-- Runs of bytes and stretches, as functions and in the grammar.
use Rattle.std.proofs.Common.{◌≡◌, ℕ, suc, ◌+◌, Bool, true, false, List, [], ◌∷◌, ◌++◌, take, drop, length, refl, sym, ◌∙◌, ap, subst, arith}
use Rattle.std.specs.Prelude.{if◌then◌else◌}
use Rattle.std.specs.List.{prefix_len}
use Rattle.std.proofs.lemmas.List.{take-append-drop}
use Rattle.resin_scan.specs.Lists.{Every, NotBefore}
use Rattle.resin_scan.specs.Stretches.{reach, stops, escapes, Stretch, at_end, at_stop, plain, escape, cut_off}
use Rattle.resin_scan.specs.declared.stretches.Stop.{Stop}
use Rattle.resin_scan.proofs.Scans.{reach_stops, reach_goes}

pub if_true : {A : Type 0} (b : Bool) (x y : A) → b ≡ true → (if b then x else y) ≡ x
if_true b x y h = rw h refl

pub if_false : {A : Type 0} (b : Bool) (x y : A) → b ≡ false → (if b then x else y) ≡ y
if_false b x y h = rw h refl

-- what holds of both branches, each under its test
pub choose : {A : Type 0} (P : A → Type 0) {x y : A} (b : Bool) → (b ≡ true → P x) → (b ≡ false → P y) → P (if b then x else y)
choose P true f g = f refl
choose P false f g = g refl

pub one_taken : (n : ℕ) (x : ℕ) (xs : List ℕ) → take (1 + n) (x ∷ xs) ≡ x ∷ take n xs
one_taken n x xs = let e : 1 + n ≡ suc n = omega arith in rw e refl

pub one_dropped : (n : ℕ) (x : ℕ) (xs : List ℕ) → drop (1 + n) (x ∷ xs) ≡ drop n xs
one_dropped n x xs = let e : 1 + n ≡ suc n = omega arith in rw e refl

pub take_front : (w rest : List ℕ) → take (length w) (w ++ rest) ≡ w
take_front [] rest = refl
take_front (b ∷ w) rest = ap (λ u. b ∷ u) (take_front w rest)

pub drop_front : (w rest : List ℕ) → drop (length w) (w ++ rest) ≡ rest
drop_front [] rest = refl
drop_front (b ∷ w) rest = drop_front w rest

pub run_exact : (p : ℕ → Bool) (w rest : List ℕ) → Every p w → NotBefore p rest → prefix_len p (w ++ rest) ≡ length w
run_exact p [] [] e n = refl
run_exact p [] (b ∷ bs) e n = if_false (p b) _ _ n
run_exact p (x ∷ xs) rest e n = if_true (p x) _ _ e.0 ∙ (let i : prefix_len p (xs ++ rest) ≡ length xs = run_exact p xs rest e.1 n in omega arith)

pub every_run : (p : ℕ → Bool) (xs : List ℕ) → Every p (take (prefix_len p xs) xs)
every_run p [] = tt
every_run p (x ∷ xs) = choose (λ n. Every p (take n (x ∷ xs))) (p x) (λ h. rw (one_taken (prefix_len p xs) x xs) (h, every_run p xs)) (λ h. tt)

pub ends_run : (p : ℕ → Bool) (xs : List ℕ) → NotBefore p (drop (prefix_len p xs) xs)
ends_run p [] = tt
ends_run p (x ∷ xs) = choose (λ n. NotBefore p (drop n (x ∷ xs))) (p x) (λ h. rw (one_dropped (prefix_len p xs) x xs) (ends_run p xs)) (λ h. h)

pub reach_exact : (s : Stop) (body rest : List ℕ) → Stretch s body rest → reach s false (body ++ rest) ≡ length body
reach_exact s body rest at_end = refl
reach_exact s body rest (at_stop {b = b} {rest = xs} h) = reach_stops s b xs h
reach_exact s body rest (plain {b = b} {body = xs} h e r) = reach_goes s b (xs ++ rest) h ∙ ap (λ q. suc (reach s q (xs ++ rest))) e ∙ ap suc (reach_exact s xs rest r)
reach_exact s body rest (escape {b = b} {c = c} {body = xs} h e r) = reach_goes s b (c ∷ xs ++ rest) h ∙ ap (λ q. suc (reach s q (c ∷ xs ++ rest))) e ∙ ap (λ n. suc (suc n)) (reach_exact s xs rest r)
reach_exact s body rest (cut_off {b = b} h e) = reach_goes s b [] h ∙ ap (λ q. suc (reach s q [])) e

abbrev pub Reached : Stop → List ℕ → ℕ → Type 0
Reached s xs n = Stretch s (take n xs) (drop n xs)

one_left : (s : Stop) (b : ℕ) (e : Bool) → escapes s b ≡ e → stops s (b ∷ []) ≡ false → Reached s (b ∷ []) (suc (reach s e []))
one_left s b true e h = cut_off h e
one_left s b false e h = plain h e at_end

more_left : (s : Stop) (b c : ℕ) (xs : List ℕ) (e : Bool) → escapes s b ≡ e → stops s (b ∷ c ∷ xs) ≡ false → Reached s (c ∷ xs) (reach s false (c ∷ xs)) → Reached s xs (reach s false xs) → Reached s (b ∷ c ∷ xs) (suc (reach s e (c ∷ xs)))
more_left s b c xs true e h one two = escape (subst (λ ys. stops s (b ∷ c ∷ ys) ≡ false) (sym (take-append-drop (reach s false xs) xs)) h) e two
more_left s b c xs false e h one two = plain (subst (λ ys. stops s (b ∷ ys) ≡ false) (sym (take-append-drop (reach s false (c ∷ xs)) (c ∷ xs))) h) e one

pub stretch_reach : (s : Stop) (xs : List ℕ) → Reached s xs (reach s false xs)
stretch_reach s [] = at_end
stretch_reach s (b ∷ []) =
    choose (Reached s (b ∷ [])) (stops s (b ∷ [])) (λ h. at_stop h)
    (λ h. one_left s b (escapes s b) refl h)
stretch_reach s (b ∷ c ∷ xs) =
    choose (Reached s (b ∷ c ∷ xs)) (stops s (b ∷ c ∷ xs)) (λ h. at_stop h)
    (λ h. more_left s b c xs (escapes s b) refl h (stretch_reach s (c ∷ xs)) (stretch_reach s xs))
