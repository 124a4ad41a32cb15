-- The innermost buffer is the last one.
use Rattle.std.proofs.Common.{◌≡◌, ℕ, zero, suc, ◌+◌, ◌-◌, ◌≤◌, ◌<◌, List, [], ◌∷◌, ◌++◌, length, get_or, Result, Ok, Err, refl, sym, ap, subst, ◌∙◌, arith}
use Rattle.std.proofs.Math.ListN.{set, length-set}
use Rattle.resin_scope.specs.Under.lstr.declared.limits.TheConstants.{LONGEST}
use Rattle.resin_scope.specs.Under.lstr.Texts.{Text}
use Rattle.resin_scope.specs.Under.lstr.declared.text.TextFault.{TextFault}
use Rattle.resin_scope.specs.Under.lstr.declared.text.TextFault.TheVariants.{TooLong, Memory}
use Rattle.resin_scope.specs.Pages.{innermost, appended_to_innermost}
use Rattle.resin_stage.specs.Buffered.{Joined, Joins}

innermost_is : (xs : List Text) (m : ℕ) (d : Text) → length xs ≡ suc m → innermost xs ≡ get_or xs m d
innermost_is [] m d e = absurd (omega (arith, e))
innermost_is (b ∷ []) zero d e = refl
innermost_is (b ∷ []) (suc m) d e = absurd (omega (arith, e))
innermost_is (b ∷ c ∷ bs) zero d e = absurd (omega (arith, e))
innermost_is (b ∷ c ∷ bs) (suc m) d e = innermost_is (c ∷ bs) m d (omega (arith, e))

appended_is : (t : Text) (xs : List Text) (m : ℕ) → length xs ≡ suc m → appended_to_innermost t xs ≡ set xs m (innermost xs ++ t)
appended_is t [] m e = absurd (omega (arith, e))
appended_is t (b ∷ []) zero e = refl
appended_is t (b ∷ []) (suc m) e = absurd (omega (arith, e))
appended_is t (b ∷ c ∷ bs) zero e = absurd (omega (arith, e))
appended_is t (b ∷ c ∷ bs) (suc m) e = ap (λ ys. b ∷ ys) (appended_is t (c ∷ bs) m (omega (arith, e)))

same_set : (xs : List Text) (m : ℕ) → length xs ≡ suc m → set xs m (innermost xs) ≡ xs
same_set [] m e = absurd (omega (arith, e))
same_set (b ∷ []) zero e = refl
same_set (b ∷ []) (suc m) e = absurd (omega (arith, e))
same_set (b ∷ c ∷ bs) zero e = absurd (omega (arith, e))
same_set (b ∷ c ∷ bs) (suc m) e = ap (λ ys. b ∷ ys) (same_set (c ∷ bs) m (omega (arith, e)))

pub joins_last : (t : Text) (xs : List Text) (n : ℕ) (r : Result (Unit {0}) TextFault) (old new : Text) → n ≡ length xs → 0 < length xs → old ≡ get_or xs (n - 1) old → Joined t old r new → Joins t xs r (set xs (n - 1) new)
joins_last t xs n r old new e pos at j = cases r j
  where
    long : length xs ≡ suc (n - 1)
    long = omega (arith, e, pos)

    inner : innermost xs ≡ old
    inner = innermost_is xs (n - 1) old long ∙ sym at

    cases : (r : Result (Unit {0}) TextFault) → Joined t old r new → Joins t xs r (set xs (n - 1) new)
    cases (Ok u) k = (
      ap (λ y. set xs (n - 1) y) (k.0 ∙ ap (λ y. y ++ t) (sym inner)) ∙ sym (appended_is t xs (n - 1) long),
      subst (λ y. length (y ++ t) ≤ LONGEST) (sym inner) k.1,
    )
    cases (Err TooLong) k = (
      ap (λ y. set xs (n - 1) y) (k.0 ∙ sym inner) ∙ same_set xs (n - 1) long,
      subst (λ y. LONGEST < length (y ++ t)) (sym inner) k.1,
    )
    cases (Err Memory) k = length-set xs (n - 1) new
