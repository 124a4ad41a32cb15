-- A text is of one version, and there is one of each.
use Rattle.std.proofs.Common.{◌≡◌, ◌⊎◌, inl, inr, ℕ, Bool, true, false, List, [], slice_get, Some, refl, sym, ap, ◌∙◌, arith}
use Rattle.std.specs.Prelude.{◌==◌, length}
use Rattle.resin_frozen.proofs.Numbers.{from_some}
use Rattle.resin_shadow.specs.Marks.{Marks, policies}
use Rattle.resin_shadow.specs.Shadows.{written1, written2}
use Rattle.resin_shadow.specs.Laws.{HasOneText, HasOneVersion}

pub has_one_text : HasOneText
has_one_text x y v = (λ a b. a ∙ sym b, λ a b. a ∙ sym b)

-- the byte that tells the version
first_or : (v : Marks) → (written1 v ≡ []) ⊎ (slice_get (written1 v) 5 ≡ Some 49)
first_or v = by (length (policies v) == 0) refl
  where
    by : (b : Bool) → (length (policies v) == 0) ≡ b → (written1 v ≡ []) ⊎ (slice_get (written1 v) 5 ≡ Some 49)
    by true h = inl (rw h refl)
    by false h = inr (rw h refl)

second_or : (v : Marks) → (written2 v ≡ []) ⊎ (slice_get (written2 v) 5 ≡ Some 50)
second_or v = by (length (policies v) == 0) refl
  where
    by : (b : Bool) → (length (policies v) == 0) ≡ b → (written2 v ≡ []) ⊎ (slice_get (written2 v) 5 ≡ Some 50)
    by true h = inl (rw h refl)
    by false h = inr (rw h refl)

differ : (x : List ℕ) → slice_get x 5 ≡ Some 49 → slice_get x 5 ≡ Some 50 → ⊥
differ x a b = let e : 49 ≡ 50 = from_some 49 50 (sym a ∙ b) in omega (arith, e)

pub has_one_version : HasOneVersion
has_one_version x v w a b = by (first_or v) (second_or w)
  where
    by : (written1 v ≡ []) ⊎ (slice_get (written1 v) 5 ≡ Some 49) → (written2 w ≡ []) ⊎ (slice_get (written2 w) 5 ≡ Some 50) → x ≡ []
    by (inl e) f = a ∙ e
    by (inr e) (inl f) = b ∙ f
    by (inr e) (inr f) = absurd (differ x (ap (λ y. slice_get y 5) a ∙ e) (ap (λ y. slice_get y 5) b ∙ f))
