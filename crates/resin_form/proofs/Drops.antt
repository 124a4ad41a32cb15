-- The list after an index, and its first element.
use Rattle.std.proofs.Common.{◌≡◌, ℕ, zero, suc, ◌+◌, ◌<◌, List, [], ◌∷◌, drop, length, Some, arith, add-one}
use Rattle.resin_form.specs.Reads.{first}

passes_suc : {Token : Type 0} (n : ℕ) (ts : List Token) (t : Token) → first (drop n ts) ≡ Some t → drop n ts ≡ t ∷ drop (suc n) ts
passes_suc zero [] t e = cc
passes_suc zero (u ∷ ts) t e = cc
passes_suc (suc n) [] t e = cc
passes_suc (suc n) (u ∷ ts) t e = passes_suc n ts t e

pub passes : {Token : Type 0} (n : ℕ) (ts : List Token) (t : Token) → first (drop n ts) ≡ Some t → drop n ts ≡ t ∷ drop (n + 1) ts
passes n ts t e = rw add-one (passes_suc n ts t e)

pub in_bounds : {Token : Type 0} (n : ℕ) (ts : List Token) (t : Token) → first (drop n ts) ≡ Some t → n < length ts
in_bounds zero [] t e = cc
in_bounds zero (u ∷ ts) t e = omega arith
in_bounds (suc n) [] t e = cc
in_bounds (suc n) (u ∷ ts) t e = let h : n < length ts = in_bounds n ts t e in omega arith
