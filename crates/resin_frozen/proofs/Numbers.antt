-- Numbers in decimal are read back, and nothing else is read as one.
use Rattle.std.proofs.Common.{◌≡◌, ℕ, ℤ, pos, negsuc, neg_ℤ, zero, suc, ◌+◌, ◌-◌, ◌*◌, ◌^◌, ◌<◌, ◌≤◌, min, Bool, true, false, cond, List, [], ◌∷◌, drop, Option, Some, None, refl, sym, ap, subst, ◌∙◌, arith}
use lib.Signed.{mag}
use Rattle.std.specs.Prelude.{◌&&◌, not, nat_eq, decimal}
use Rattle.std.specs.Fmt.{signed_decimal}
use Rattle.std.specs.List.{fold, list_all}
use Rattle.std.specs.Str.{all_ascii_digits}
use Rattle.std.specs.Str.Parse.{AllDigits}
use Rattle.std.proofs.lemmas.Str.Parse.{IsNumeralModel, tells_digits, tells_all_ascii_digits, numerals_by_fold, numerals_by_value}
use Rattle.std.proofs.lemmas.Fmt.{digits_value-decimal, digits_decimal}
use Rattle.std.proofs.lemmas.Bool.Decides.{nat_tests}
use Rattle.resin_value.specs.Under.bytes.Numbers.{decimal_value, is_negative}
use Rattle.resin_frozen.specs.Reading.{is_text, value_of, number, signed_of, signed}

-- what digits spell behind the digits of another number
value_on : ℕ → List ℕ → ℕ
value_on n ds = fold (λ n c. n * 10 + (c - 48)) n ds

own : IsNumeralModel (AllDigits 10) (value_on 0)
unfolding value_on
own = numerals_by_fold (AllDigits 10) tells_digits value_on (record { empty = λ n. refl; more = λ n c cs h. refl })

pub value-decimal : (n : ℕ) → n < 2 ^ 64 → value_of (decimal n) ≡ n
unfolding value_on value_of
value-decimal n h =
    let e : decimal_value (decimal n) ≡ n = digits_value-decimal own n h in
    ap (λ v. min v (2 ^ 64 - 1)) e ∙ omega (arith, h)

pub text_same : (xs : List ℕ) → is_text xs xs ≡ true
text_same [] = refl
text_same (x ∷ xs) = let e : nat_eq x x ≡ true = grind (arith, nat_tests) in ap (λ b. b && is_text xs xs) e ∙ text_same xs

pub and_left : (a b : Bool) → (a && b) ≡ true → a ≡ true
and_left true b h = refl
and_left false b h = absurd (cc)

pub and_right : (a b : Bool) → (a && b) ≡ true → b ≡ true
and_right true b h = h
and_right false b h = absurd (cc)

pub both : (a b : Bool) → a ≡ true → b ≡ true → (a && b) ≡ true
both a b h k = ap (λ x. x && b) h ∙ k

pub text_is : (xs ys : List ℕ) → is_text xs ys ≡ true → xs ≡ ys
text_is [] [] h = refl
text_is [] (y ∷ ys) h = absurd (cc)
text_is (x ∷ xs) [] h = absurd (cc)
text_is (x ∷ xs) (y ∷ ys) h =
    let e : x ≡ y = let t = and_left (nat_eq x y) (is_text xs ys) h in grind (arith, nat_tests) in
    ap (λ z. z ∷ xs) e ∙ ap (λ zs. y ∷ zs) (text_is xs ys (and_right (nat_eq x y) (is_text xs ys) h))

pub from_some : {A : Type 0} (a b : A) → Some a ≡ Some b → a ≡ b
from_some a b e = cc

pub none_some : {A : Type 0} (a : A) → None ≡ Some a → ⊥
none_some a e = cc

-- a value that is read, with what is behind it
abbrev pub Gives : {A : Type 0} → Option (A × List ℕ) → A → List ℕ → Type 0
Gives o a rest = o ≡ Some (a, rest)

pub some_if : {A : Type 0} (b : Bool) (a r : A) → cond b (Some a) None ≡ Some r → (b ≡ true) × (a ≡ r)
some_if true a r e = (refl, from_some a r e)
some_if false a r e = absurd (none_some r e)

-- a choice that gives a value
pub chosen : {A : Type 0} (b : Bool) (o : Option A) (r : A) → cond b o None ≡ Some r → (b ≡ true) × (o ≡ Some r)
chosen true o r e = (refl, e)
chosen false o r e = absurd (none_some r e)

-- a number is read back
pub number-decimal : (n : ℕ) → n < 2 ^ 64 → number (decimal n) ≡ Some n
unfolding number
number-decimal n lt =
    let v = value-decimal n lt in
    let same : is_text (decimal n) (decimal (value_of (decimal n))) ≡ true = subst (λ x. is_text (decimal n) (decimal x) ≡ true) (sym v) (text_same (decimal n)) in
    ap (λ b. cond b (Some (value_of (decimal n))) None) same ∙ ap Some v

value_low : (s : List ℕ) → value_of s < 2 ^ 64
unfolding value_of
value_low s = omega arith

-- what is read is the decimal of a number
pub number_read : (s : List ℕ) (n : ℕ) → number s ≡ Some n → (s ≡ decimal n) × (n < 2 ^ 64)
unfolding number
number_read s n e =
    let h = some_if (is_text s (decimal (value_of s))) (value_of s) n e in
    (text_is s (decimal (value_of s)) h.0 ∙ ap decimal h.1, subst (λ x. x < 2 ^ 64) h.1 (value_low s))

digits : (n : ℕ) → n < 2 ^ 64 → all_ascii_digits (decimal n) ≡ true
digits n h = digits_decimal (numerals_by_value _ tells_all_ascii_digits) n h

no_sign : (ds : List ℕ) → all_ascii_digits ds ≡ true → is_negative ds ≡ false
no_sign [] h = refl
no_sign (d ∷ ds) h =
    let k = (tells_all_ascii_digits).parts d ds h in
    let l = k.0 in
    grind (arith, nat_tests)

-- without the byte
abbrev pub lacks : ℕ → List ℕ → Bool
lacks c xs = list_all (λ b. not (nat_eq b c)) xs

lacks_digits : (ds : List ℕ) → all_ascii_digits ds ≡ true → (c : ℕ) → 57 < c → lacks c ds ≡ true
lacks_digits [] h c lt = refl
lacks_digits (d ∷ ds) h c lt =
    let k = (tells_all_ascii_digits).parts d ds h in
    let e : nat_eq d c ≡ false = let l = k.0 in grind (arith, nat_tests) in
    both _ _ (ap not e) (lacks_digits ds k.1 c lt)

pub lacks-decimal : (c n : ℕ) → 57 < c → n < 2 ^ 64 → lacks c (decimal n) ≡ true
lacks-decimal c n low h = lacks_digits (decimal n) (digits n h) c low

signed_of-signed : (n : ℤ) → mag n < 2 ^ 63 → signed_of (signed_decimal n) ≡ n
unfolding signed_of
signed_of-signed (pos n) h =
    let lt : n < 2 ^ 64 = omega arith in
    let v = value-decimal n lt in
    ap (λ b. cond b (neg_ℤ (pos (min (value_of (drop 1 (decimal n))) (2 ^ 63)))) (pos (min (value_of (decimal n)) (2 ^ 63 - 1)))) (no_sign (decimal n) (digits n lt))
    ∙ ap (λ v. pos (min v (2 ^ 63 - 1))) v ∙ ap pos (omega arith)
signed_of-signed (negsuc n) h =
    let lt : suc n < 2 ^ 64 = omega arith in
    ap (λ v. neg_ℤ (pos (min v (2 ^ 63)))) (value-decimal (suc n) lt) ∙ ap (λ v. neg_ℤ (pos v)) (let e : min (suc n) (2 ^ 63) ≡ suc n = omega arith in e)

-- a number with a sign is read back
pub signed-signed : (n : ℤ) → mag n < 2 ^ 63 → signed (signed_decimal n) ≡ Some n
unfolding signed
signed-signed n h =
    let v = signed_of-signed n h in
    let same : is_text (signed_decimal n) (signed_decimal (signed_of (signed_decimal n))) ≡ true =
    subst (λ x. is_text (signed_decimal n) (signed_decimal x) ≡ true) (sym v) (text_same (signed_decimal n)) in
    ap (λ b. cond b (Some (signed_of (signed_decimal n))) None) same ∙ ap Some v

neg_low : (m : ℕ) → m ≤ 2 ^ 63 → mag (neg_ℤ (pos m)) < 2 ^ 63
neg_low zero h = omega arith
neg_low (suc m) h = omega arith

signed_low : (s : List ℕ) → mag (signed_of s) < 2 ^ 63
unfolding signed_of
signed_low s = by (is_negative s)
  where
    by : (b : Bool) → mag (cond b (neg_ℤ (pos (min (value_of (drop 1 s)) (2 ^ 63)))) (pos (min (value_of s) (2 ^ 63 - 1)))) < 2 ^ 63
    by true = neg_low (min (value_of (drop 1 s)) (2 ^ 63)) (omega arith)
    by false = omega arith

-- what is read is the decimal of a number with a sign
pub signed_read : (s : List ℕ) (n : ℤ) → signed s ≡ Some n → (s ≡ signed_decimal n) × (mag n < 2 ^ 63)
unfolding signed
signed_read s n e =
    let h = some_if (is_text s (signed_decimal (signed_of s))) (signed_of s) n e in
    (text_is s (signed_decimal (signed_of s)) h.0 ∙ ap signed_decimal h.1, subst (λ x. mag x < 2 ^ 63) h.1 (signed_low s))

pub lacks-signed : (c : ℕ) (n : ℤ) → 57 < c → mag n < 2 ^ 63 → lacks c (signed_decimal n) ≡ true
lacks-signed c (pos n) low h = lacks-decimal c n low (omega arith)
lacks-signed c (negsuc n) low h = both _ _ (ap not (let e : nat_eq 45 c ≡ false = grind (arith, nat_tests) in e)) (lacks-decimal c (suc n) low (omega arith))
