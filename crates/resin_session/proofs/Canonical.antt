-- Canonical decimals: an integer of 64 bits has one, and nothing else is read as it.
use Rattle.std.proofs.Common.{◌≡◌, ◌≢◌, ℕ, ℤ, pos, negsuc, neg_ℤ, zero, suc, ◌+◌, ◌-◌, ◌*◌, ◌^◌, ◌<◌, ◌≤◌, Bool, true, false, cond, List, [], ◌∷◌, get_or, Some, None, codes, refl, sym, ap, subst, ◌∙◌, arith}
use lib.Signed.{mag}
use Rattle.std.specs.Prelude.{◌&&◌, not, nat_eq, nat_le, nat_lt, decimal}
use Rattle.std.specs.Fmt.{signed_decimal}
use Rattle.std.specs.Char.{is_ascii_digit}
use Rattle.std.specs.List.{fold, list_all}
use Rattle.std.specs.Str.{all_ascii_digits}
use Rattle.std.specs.Cmp.Lexicographic.{pointwise}
use Rattle.std.proofs.lemmas.Str.Parse.{IsNumeralModel, tells_all_ascii_digits, numerals_by_fold}
use Rattle.std.proofs.lemmas.Fmt.{digits_value-decimal, digits_decimal, decimal-digits_value, decimal_digit, first_decimal}
use Rattle.std.proofs.lemmas.Bool.Decides.{nat_tests}
use Rattle.resin_value.specs.Under.bytes.declared.number.NumberForm.TheVariants.{Int, Float}
use Rattle.resin_value.specs.Under.bytes.Numbers.{decimal_value, is_negative, integer_form}
use Rattle.resin_value.specs.Under.bytes.Canonical.{is_unpadded, without_minus, integer_of, canonical_integer}
use Rattle.resin_session.proofs.Basics.{and_left, and_right, both, text_is, le_true, lt_true, from_some, none_some, chosen}

-- what digits spell behind the digits of another number
value_on : ℕ → List ℕ → ℕ
value_on n ds = fold (λ n c. n * 10 + (c - 48)) n ds

own : IsNumeralModel (λ ds. all_ascii_digits ds ≡ true) (value_on 0)
unfolding value_on
own = numerals_by_fold (λ ds. all_ascii_digits ds ≡ true) tells_all_ascii_digits value_on (record { empty = λ n. refl; more = λ n c cs h. refl })

same_digits : (ds : List ℕ) → list_all is_ascii_digit ds ≡ all_ascii_digits ds
same_digits [] = refl
same_digits (d ∷ ds) = ap (λ b. is_ascii_digit d && b) (same_digits ds)

value-decimal : (n : ℕ) → n < 2 ^ 64 → decimal_value (decimal n) ≡ n
unfolding value_on
value-decimal n h = digits_value-decimal own n h

zero_text : decimal 0 ≡ codes "0"
zero_text = decimal_digit 0 (omega arith)

-- ---- a decimal is read back
unequal : (a b : ℕ) → b < a → nat_eq a b ≡ false
unequal a b h = grind (arith, nat_tests)

-- what digits without a leading zero are read as, alone and behind a `-`
pub record Unpadded (ds : List ℕ) : Type 0 where
  pub alone : canonical_integer ds ≡ integer_of (integer_form false ds)
  pub behind : canonical_integer (45 ∷ ds) ≡ integer_of (integer_form true ds)

unpadded : (ds : List ℕ) → all_ascii_digits ds ≡ true → 48 < get_or ds 0 0 → Unpadded ds
unpadded [] h first = absurd (omega arith)
unpadded (c ∷ s) h first =
    let zero_no : nat_eq c 48 ≡ false = unequal c 48 first in
    let minus_no : nat_eq c 45 ≡ false = unequal c 45 (omega (arith, first)) in
    let fine : is_unpadded (c ∷ s) ≡ true = both _ _ (ap not zero_no) (same_digits (c ∷ s) ∙ h) in
    record {
      alone = ap (λ b. cond (b && pointwise nat_eq s []) (Some (pos 0)) (cond (is_unpadded (cond (nat_eq c 45) s (c ∷ s))) (integer_of (integer_form (nat_eq c 45) (cond (nat_eq c 45) s (c ∷ s)))) None)) zero_no
          ∙ ap (λ b. cond (is_unpadded (cond b s (c ∷ s))) (integer_of (integer_form b (cond b s (c ∷ s)))) None) minus_no
          ∙ ap (λ b. cond b (integer_of (integer_form false (c ∷ s))) None) fine;
      behind = ap (λ b. cond b (integer_of (integer_form true (c ∷ s))) None) fine;
    }

pub canonical-signed : (n : ℤ) → mag n < 2 ^ 63 → canonical_integer (signed_decimal n) ≡ Some n
canonical-signed (pos zero) h = ap canonical_integer zero_text
canonical-signed (pos (suc k)) h =
    let wide : suc k < 2 ^ 64 = omega arith in
    (unpadded (decimal (suc k)) (digits_decimal own (suc k) wide) (first_decimal (suc k) (omega arith) wide)).alone
    ∙ ap (λ m. integer_of (cond (nat_lt m (2 ^ 63)) (Int (pos m)) Float)) (value-decimal (suc k) wide)
    ∙ ap (λ b. integer_of (cond b (Int (pos (suc k))) Float)) (lt_true (suc k) (2 ^ 63) (omega arith))
canonical-signed (negsuc k) h =
    let wide : suc k < 2 ^ 64 = omega arith in
    (unpadded (decimal (suc k)) (digits_decimal own (suc k) wide) (first_decimal (suc k) (omega arith) wide)).behind
    ∙ ap (λ m. integer_of (cond (nat_le m (2 ^ 63)) (Int (neg_ℤ (pos m))) Float)) (value-decimal (suc k) wide)
    ∙ ap (λ b. integer_of (cond b (Int (neg_ℤ (pos (suc k)))) Float)) (le_true (suc k) (2 ^ 63) (omega arith))

-- ---- nothing else is read
-- the text of an integer of 64 bits
abbrev pub IsTextOf : List ℕ → ℤ → Type 0
IsTextOf w n = (w ≡ signed_decimal n) × (mag n < 2 ^ 63)

chosen_integer : (b : Bool) (m n : ℤ) → integer_of (cond b (Int m) Float) ≡ Some n → (b ≡ true) × (m ≡ n)
chosen_integer true m n e = (refl, from_some m n e)
chosen_integer false m n e = absurd (none_some n e)

nonzero : (v c : ℕ) (s : List ℕ) → decimal v ≡ c ∷ s → c ≢ 48 → 0 < v
nonzero zero c s e ne = absurd (ne (ap (λ ds. get_or ds 0 0) (sym e ∙ zero_text)))
nonzero (suc v) c s e ne = omega arith

spelled : (ds : List ℕ) → is_unpadded ds ≡ true → decimal_value ds < 2 ^ 64 → (decimal (decimal_value ds) ≡ ds) × (0 < decimal_value ds)
unfolding value_on
spelled [] h lt = absurd (cc)
spelled (c ∷ s) h lt =
    let first : c ≢ 48 = let t = and_left (not (nat_eq c 48)) (list_all is_ascii_digit (c ∷ s)) h in λ e. grind (arith, nat_tests) in
    let digits = sym (same_digits (c ∷ s)) ∙ and_right (not (nat_eq c 48)) (list_all is_ascii_digit (c ∷ s)) h in
    let back = decimal-digits_value own (c ∷ s) digits (omega arith) (λ e. absurd (first e)) lt in
    (back, nonzero (decimal_value (c ∷ s)) c s back first)

negated : (v : ℕ) → 0 < v → v ≤ 2 ^ 63 → IsTextOf (45 ∷ decimal v) (neg_ℤ (pos v))
negated zero h le = absurd (omega arith)
negated (suc k) h le = (refl, omega arith)

pub canonical_read : (w : List ℕ) (n : ℤ) → canonical_integer w ≡ Some n → IsTextOf w n
canonical_read w n e = by_zero (pointwise nat_eq w (codes "0")) refl e
  where
    minus : (s : List ℕ) → is_unpadded s ≡ true → integer_of (integer_form true s) ≡ Some n → IsTextOf (45 ∷ s) n
    minus s h f =
        let p = chosen_integer (nat_le (decimal_value s) (2 ^ 63)) (neg_ℤ (pos (decimal_value s))) n f in
        let le : decimal_value s ≤ 2 ^ 63 = let t : nat_le (decimal_value s) (2 ^ 63) ≡ true = p.0 in grind (arith, nat_tests) in
        let q = spelled s h (omega (arith, le)) in
        subst (IsTextOf (45 ∷ s)) p.1 (subst (λ ds. IsTextOf (45 ∷ ds) (neg_ℤ (pos (decimal_value s)))) q.0 (negated (decimal_value s) q.1 le))

    plain : (s : List ℕ) → is_unpadded s ≡ true → integer_of (integer_form false s) ≡ Some n → IsTextOf s n
    plain s h f =
        let p = chosen_integer (nat_lt (decimal_value s) (2 ^ 63)) (pos (decimal_value s)) n f in
        let lt : decimal_value s < 2 ^ 63 = let t : nat_lt (decimal_value s) (2 ^ 63) ≡ true = p.0 in grind (arith, nat_tests) in
        let q = spelled s h (omega (arith, lt)) in
        subst (IsTextOf s) p.1 (sym q.0, lt)

    by_sign : (s : List ℕ) → is_unpadded (without_minus s) ≡ true → integer_of (integer_form (is_negative s) (without_minus s)) ≡ Some n → IsTextOf s n
    by_sign [] h f = absurd (cc)
    by_sign (c ∷ s) h f = by (nat_eq c 45) refl h f
      where
        by : (b : Bool) → nat_eq c 45 ≡ b → is_unpadded (cond b s (c ∷ s)) ≡ true → integer_of (integer_form b (cond b s (c ∷ s))) ≡ Some n → IsTextOf (c ∷ s) n
        by true is k g = let same : c ≡ 45 = grind (arith, nat_tests) in subst (λ d. IsTextOf (d ∷ s) n) (sym same) (minus s k g)
        by false is k g = plain (c ∷ s) k g

    by_zero : (b : Bool) → pointwise nat_eq w (codes "0") ≡ b → cond b (Some (pos 0)) (cond (is_unpadded (without_minus w)) (integer_of (integer_form (is_negative w) (without_minus w))) None) ≡ Some n → IsTextOf w n
    by_zero true is f = let p = from_some (pos 0) n f in (text_is w (codes "0") is ∙ sym zero_text ∙ ap signed_decimal p, subst (λ m. mag m < 2 ^ 63) p (omega arith))
    by_zero false is f = let p = chosen (is_unpadded (without_minus w)) (integer_of (integer_form (is_negative w) (without_minus w))) n f in by_sign w p.0 p.1
