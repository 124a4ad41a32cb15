-- Arguments: how many there are, the first and the rest of them, and what is no text.
use Rattle.std.proofs.Common.{◌≡◌, ℕ, suc, ◌-◌, ◌<◌, ◌≤◌, List, [], ◌∷◌, length, drop, take, get_or, Bool, refl, sym, ap, ◌∙◌, arith}
use Rattle.std.proofs.lemmas.List.{take_all}
use Rattle.resin_step_objects.specs.Under.lstr.Texts.{Text as LabelledText}
use Rattle.resin_step_objects.specs.Under.value.declared.value.Value.{Value}
use Rattle.resin_step_objects.specs.Under.value.declared.value.Value.TheVariants.{Text}
use Rattle.resin_step_objects.specs.Under.value.Seen.{trees_of}

-- a value that is no text
abbrev pub IsNoText : Value → Type 0
IsNoText v = (t : LabelledText) → v ≡ Text t → ⊥

-- ---- how many there are

pub count_of : (vs : List Value) → length (trees_of vs) ≡ length vs
count_of [] = refl
count_of (v ∷ vs) = ap suc (count_of vs)

-- a test of how many arguments there are
pub counted_as : (fits : ℕ → Bool) (vs : List Value) (n : ℕ) (b r : Bool) → b ≡ fits n → n ≡ length vs → b ≡ r → fits (length (trees_of vs)) ≡ r
counted_as fits vs n b r e k h = ap fits (count_of vs ∙ sym k) ∙ (sym e ∙ h)

-- ---- slices by their first items

pub opened : {A : Type 0} (xs : List A) (x : A) → 1 ≤ length xs → x ≡ get_or xs 0 x → xs ≡ x ∷ drop 1 xs
opened [] x lt e = absurd (omega (arith, lt))
opened (y ∷ ys) x lt e = λ i. sym e i ∷ ys

pub empty_list : {A : Type 0} (xs : List A) → length xs < 1 → xs ≡ []
empty_list [] lt = refl
empty_list (x ∷ xs) lt = absurd (omega (arith, lt))

-- a slice by its first item and the rest, as a pattern binds them
pub opened_rest : {A : Type 0} (xs : List A) (x : A) → 1 ≤ length xs → x ≡ get_or xs 0 x → xs ≡ x ∷ take (length xs - 1) (drop 1 xs)
opened_rest [] x lt e = absurd (omega (arith, lt))
opened_rest (y ∷ ys) x lt e =
    let h : suc (length ys) - 1 ≡ length ys = omega arith in
    let all : take (suc (length ys) - 1) ys ≡ ys = ap (λ n. take n ys) h ∙ take_all (length ys) ys (omega arith) in
    λ i. sym e i ∷ sym all i
