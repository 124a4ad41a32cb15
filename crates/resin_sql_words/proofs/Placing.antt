-- The bytes after a place, and the first of them.
use Rattle.std.proofs.Common.{◌≡◌, ℕ, zero, suc, ◌+◌, ◌-◌, ◌<◌, List, [], ◌∷◌, drop, length, Some, arith, add-one, refl, ap}
use Rattle.resin_form.specs.Reads.{first}
use Rattle.resin_sql_words.specs.Places.{placed}
use Rattle.resin_sql_words.specs.declared.cursor.Placed.{Placed}

passes_suc : (k n : ℕ) (bs : List ℕ) (t : Placed) → first (placed k (drop n bs)) ≡ Some t → placed k (drop n bs) ≡ t ∷ placed (suc k) (drop (suc n) bs)
passes_suc k zero [] t e = cc
passes_suc k zero (b ∷ bs) t e = cc
passes_suc k (suc n) [] t e = cc
passes_suc k (suc n) (b ∷ bs) t e = passes_suc k n bs t e

pub passes : (k n : ℕ) (bs : List ℕ) (t : Placed) → first (placed k (drop n bs)) ≡ Some t → placed k (drop n bs) ≡ t ∷ placed (k + 1) (drop (n + 1) bs)
passes k n bs t e = rw (add-one, add-one) (passes_suc k n bs t e)

pub in_bounds : (k n : ℕ) (bs : List ℕ) (t : Placed) → first (placed k (drop n bs)) ≡ Some t → n < length bs
in_bounds k zero [] t e = cc
in_bounds k zero (b ∷ bs) t e = omega arith
in_bounds k (suc n) [] t e = cc
in_bounds k (suc n) (b ∷ bs) t e = let h : n < length bs = in_bounds k n bs t e in omega arith

placed_length : (k : ℕ) (bs : List ℕ) → length (placed k bs) ≡ length bs
placed_length k [] = refl
placed_length k (b ∷ bs) = ap suc (placed_length (suc k) bs)

drop_length : (n : ℕ) (bs : List ℕ) → length bs - n ≡ length (drop n bs)
drop_length zero bs = omega arith
drop_length (suc n) [] = omega arith
drop_length (suc n) (b ∷ bs) = let h = drop_length n bs in omega (arith, h)

pub left_of : (k n : ℕ) (bs : List ℕ) → length bs - n ≡ length (placed k (drop n bs))
left_of k n bs = let h = drop_length n bs in let l = placed_length k (drop n bs) in omega (arith, h, l)
