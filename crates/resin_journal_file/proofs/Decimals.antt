-- Numbers in decimal are read back, and nothing else is read as one.
use Rattle.std.proofs.Common.{◌≡◌, ℕ, ◌+◌, ◌-◌, ◌*◌, ◌^◌, ◌<◌, ◌≤◌, min, Bool, true, false, cond, List, [], ◌∷◌, Some, None, refl, sym, ap, subst, ◌∙◌, arith}
use Rattle.std.specs.Prelude.{◌&&◌, nat_le, nat_eq, decimal}
use Rattle.std.specs.List.{fold}
use Rattle.std.specs.Str.Parse.{AllDigits}
use Rattle.std.proofs.lemmas.Str.Parse.{IsNumeralModel, tells_digits, numerals_by_fold}
use Rattle.std.proofs.lemmas.Fmt.{digits_value-decimal}
use Rattle.std.proofs.lemmas.Bool.Decides.{nat_tests}
use Rattle.resin_bytes.specs.Numbers.{decimal_value}
use Rattle.resin_journal_file.specs.Reading.{is_text, value, number}

-- what digits spell behind the digits of another number
value_on : ℕ → List ℕ → ℕ
value_on n ds = fold (λ n c. n * 10 + (c - 48)) n ds

own : IsNumeralModel (AllDigits 10) (value_on 0)
unfolding value_on
own = numerals_by_fold (AllDigits 10) tells_digits value_on (record { empty = λ n. refl; more = λ n c cs h. refl })

pub value-decimal : (n : ℕ) → n < 2 ^ 64 → value (decimal n) ≡ n
unfolding value_on
value-decimal n h =
    let e : decimal_value (decimal n) ≡ n = digits_value-decimal own n h in
    ap (λ v. min v (2 ^ 64 - 1)) e ∙ omega (arith, h)

pub text_same : (xs : List ℕ) → is_text xs xs ≡ true
text_same [] = refl
text_same (x ∷ xs) = let e : nat_eq x x ≡ true = grind (arith, nat_tests) in ap (λ b. b && is_text xs xs) e ∙ text_same xs

pub and_left : (a b : Bool) → (a && b) ≡ true → a ≡ true
and_left true b h = refl
and_left false b h = absurd (cc)

pub and_right : (a b : Bool) → (a && b) ≡ true → b ≡ true
and_right true b h = h
and_right false b h = absurd (cc)

pub both : (a b : Bool) → a ≡ true → b ≡ true → (a && b) ≡ true
both a b h k = ap (λ x. x && b) h ∙ k

pub text_is : (xs ys : List ℕ) → is_text xs ys ≡ true → xs ≡ ys
text_is [] [] h = refl
text_is [] (y ∷ ys) h = absurd (cc)
text_is (x ∷ xs) [] h = absurd (cc)
text_is (x ∷ xs) (y ∷ ys) h =
    let e : x ≡ y = let t = and_left (nat_eq x y) (is_text xs ys) h in grind (arith, nat_tests) in
    ap (λ z. z ∷ xs) e ∙ ap (λ zs. y ∷ zs) (text_is xs ys (and_right (nat_eq x y) (is_text xs ys) h))

-- a number that may stand there is read back
pub number-decimal : (most n : ℕ) → n ≤ most → n < 2 ^ 64 → number most (decimal n) ≡ Some n
number-decimal most n le lt =
    let v = value-decimal n lt in
    let fits : nat_le (value (decimal n)) most ≡ true = subst (λ x. nat_le x most ≡ true) (sym v) (grind (arith, nat_tests)) in
    let same : is_text (decimal n) (decimal (value (decimal n))) ≡ true = subst (λ x. is_text (decimal n) (decimal x) ≡ true) (sym v) (text_same (decimal n)) in
    ap (λ b. cond b (Some (value (decimal n))) None) (both _ _ fits same) ∙ ap Some v

some_from : {A : Type 0} (b : Bool) (a r : A) → cond b (Some a) None ≡ Some r → (b ≡ true) × (a ≡ r)
some_from true a r e = (refl, cc)
some_from false a r e = absurd (cc)

-- what is read is the decimal of a number that may stand there
pub number_read : (most n : ℕ) (s : List ℕ) → number most s ≡ Some n → (s ≡ decimal n) × (n ≤ most) × (n < 2 ^ 64)
number_read most n s e =
    let h = some_from (nat_le (value s) most && is_text s (decimal (value s))) (value s) n e in
    let t = text_is s (decimal (value s)) (and_right (nat_le (value s) most) (is_text s (decimal (value s))) h.0) in
    let fits = and_left (nat_le (value s) most) (is_text s (decimal (value s))) h.0 in
    let le : value s ≤ most = grind (arith, nat_tests) in
    let lt : value s < 2 ^ 64 = omega arith in
    (t ∙ ap decimal h.1, subst (λ x. x ≤ most) h.1 le, subst (λ x. x < 2 ^ 64) h.1 lt)
