-- The cells of two rows, one behind the other.
use Rattle.std.proofs.Common.{◌≡◌, ℕ, zero, suc, ◌+◌, ◌*◌, ◌-◌, ◌≤◌, ◌<◌, List, [], ◌∷◌, ◌++◌, refl, sym, ap, ◌∙◌, arith}
use Rattle.resin_base.specs.declared.cell.Cell.{Cell}
use Rattle.resin_rows.specs.Cells.{fitted, beside, cell_at, value_at, shadow_at}

none-at : (i : ℕ) → cell_at [] i ≡ cell_at [] (suc i)
none-at zero = refl
none-at (suc i) = refl

in-first : (n i : ℕ) (a b : List Cell) → i < n → cell_at (fitted n a ++ b) i ≡ cell_at a i
in-first zero i a b h = absurd (omega arith)
in-first (suc n) zero [] b h = refl
in-first (suc n) zero (c ∷ a) b h = refl
in-first (suc n) (suc i) [] b h = in-first n i [] b (omega arith) ∙ none-at i
in-first (suc n) (suc i) (c ∷ a) b h = in-first n i a b (omega arith)

in-last : (n i j : ℕ) (a b : List Cell) → j ≡ n + i → cell_at (fitted n a ++ b) j ≡ cell_at b i
in-last zero i j a b e = let same : j ≡ i = omega arith in ap (cell_at b) same
in-last (suc n) i zero a b e = absurd (omega arith)
in-last (suc n) i (suc j) [] b e = in-last n i j [] b (omega arith)
in-last (suc n) i (suc j) (c ∷ a) b e = in-last n i j a b (omega arith)

module _ (columns at : ℕ) (a b : List Cell) where
  pub value_in_first : at < columns → value_at a at ≡ value_at (beside columns a b) at
  value_in_first h = sym (in-first (2 * columns) (2 * at) a b (omega arith))

  pub shadow_in_first : at < columns → shadow_at a at ≡ shadow_at (beside columns a b) at
  shadow_in_first h = sym (in-first (2 * columns) (2 * at + 1) a b (omega arith))

  pub value_in_last : columns ≤ at → value_at b (at - columns) ≡ value_at (beside columns a b) at
  value_in_last h = sym (in-last (2 * columns) (2 * (at - columns)) (2 * at) a b (omega arith))

  pub shadow_in_last : columns ≤ at → shadow_at b (at - columns) ≡ shadow_at (beside columns a b) at
  shadow_in_last h = sym (in-last (2 * columns) (2 * (at - columns) + 1) (2 * at + 1) a b (omega arith))
