-- Eight bytes decide a number.
use Rattle.std.proofs.Common.{◌≡◌, ℕ, zero, suc, ◌+◌, ◌*◌, ◌<◌, ◌≤◌, Bool, true, false, List, [], ◌∷◌, length, take, min, refl, sym, ◌∙◌, ap, arith, length-take}
use Rattle.std.proofs.lemmas.Bool.{ltb-false, leb-true, leb-false}
use Rattle.std.proofs.lemmas.Bool.Decides.{nat_tests}
use Rattle.std.specs.Prelude.{◌==◌, ◌&&◌, ◌||◌, nat_lt, nat_le, if◌then◌else◌}
use Rattle.resin_trace.specs.Front.{is_digit, digit, digits, number, Within}
use Rattle.resin_trace.specs.declared.scan.Read.{Read}
use Rattle.resin_trace.specs.declared.scan.Read.TheVariants as n
use Rattle.std.proofs.lemmas.List.{take_all}

both : {A : Type 0} (b : Bool) {x x' y y' : A} → (b ≡ true → x ≡ x') → (b ≡ false → y ≡ y') → (if b then x else y) ≡ (if b then x' else y')
both true f g = f refl
both false f g = g refl

or_right : (a b : Bool) → (a || b) ≡ false → b ≡ false
or_right true b h = absurd (cc)
or_right false b h = h

-- with so many more digits
scale : ℕ → ℕ → ℕ
scale zero v = v
scale (suc k) v = scale k (10 * v)

scale_up : (k v u : ℕ) → v ≤ u → scale k v ≤ scale k u
unfolding scale
scale_up zero v u h = h
scale_up (suc k) v u h = scale_up k (10 * v) (10 * u) (omega arith)

near : (k high v used : ℕ) (text : List ℕ) → v ≤ high → high < scale k v → digits high v used (take k text) ≡ digits high v used text
unfolding scale
near zero high v used text h l = absurd (omega arith)
near (suc k) high v used [] h l = refl
near (suc k) high v used (b ∷ bs) h l =
    both (is_digit b)
    (λ d. both (v == 0 || nat_lt high (10 * v + digit b)) (λ t. refl)
    (λ t. let up : scale k (10 * v) ≤ scale k (10 * v + digit b) = scale_up k (10 * v) (10 * v + digit b) (omega arith) in
    near k high (10 * v + digit b) (suc used) bs (ltb-false _ _ (or_right _ _ t)) (omega arith)))
    (λ d. refl)

zero_near : (k high used : ℕ) (text : List ℕ) → digits high 0 used (take (suc k) text) ≡ digits high 0 used text
zero_near k high used [] = refl
zero_near k high used (b ∷ bs) = refl

seven : (high v used : ℕ) (text : List ℕ) → 9 ≤ high → high ≤ 1048576 → v ≤ 9 → digits high v used (take 7 text) ≡ digits high v used text
unfolding scale
seven high zero used text l h s = zero_near 6 high used text
seven high (suc v) used text l h s = near 7 high (suc v) used text (omega arith) (omega arith)

digit_small : (b : ℕ) → is_digit b ≡ true → digit b ≤ 9
digit_small b h = grind (arith, nat_tests)

and_left : (a b : Bool) → (a && b) ≡ true → a ≡ true
and_left true b h = refl
and_left false b h = absurd (cc)

eight : (low high : ℕ) (text : List ℕ) → 9 ≤ high → high ≤ 1048576 → number low high (take 8 text) ≡ number low high text
eight low high [] l h = refl
eight low high (b ∷ bs) l h = both (is_digit b && nat_le low (digit b)) (λ d. seven high (digit b) 1 bs l h (digit_small b (and_left _ _ d))) (λ d. refl)

taken : (text : List ℕ) → take (min (length text) 8) text ≡ take 8 text
taken text = elim (nat_le (length text) 8) as (λ b. nat_le (length text) 8 ≡ b → take (min (length text) 8) text ≡ take 8 text) [
  | true ↦ λ e. (let l : length text ≤ 8 = leb-true _ _ e in take_all (min (length text) 8) text (omega arith) ∙ sym (take_all 8 text l))
  | false ↦ λ e. (let l : 8 < length text = leb-false _ _ e in let m : min (length text) 8 ≡ 8 = omega arith in ap (λ k. take k text) m)
] refl

pub few : (low high : ℕ) (text : List ℕ) → 9 ≤ high → high ≤ 1048576 → number low high (take (min (length text) 8) text) ≡ number low high text
few low high text l h = ap (number low high) (taken text) ∙ eight low high text l h

pub within_few : (high : ℕ) (text : List ℕ) (m : ℕ) (r : Read) → Within high (take m text) r → Within high text r
within_few high text m n.Need w = tt
within_few high text m n.Bad w = tt
within_few high text m (n.Whole v u) w = (w.0, (let k : u ≤ length (take m text) = w.1 in omega (arith, length-take m text)))
