-- Where the bytes of a kind with which a text begins end.
use Rattle.std.proofs.Common.{arith, ◌≡◌, ℕ, ltb, List, length, Some, None, cond, Bool, true, false, not, Option, sym, ◌∙◌}
use Rattle.std.specs.List.{position_or_len}
use Rattle.std.proofs.lemmas.Bool.{ltb-false}
use Rattle.std.proofs.lemmas.List.Sums.{prefix_len-le-length}

at_some : (b : Bool) (a end : ℕ) → Some end ≡ cond b (Some a) None → end ≡ a
at_some true a end e = cc
at_some false a end e = cc

at_none : (b : Bool) (a : ℕ) → None ≡ cond b (Some a) None → b ≡ false
at_none true a e = cc
at_none false a e = cc

-- the first place of such a byte
pub some_place : (p : ℕ → Bool) (xs : List ℕ) (r : Option ℕ) (end : ℕ) → r ≡ cond (ltb (position_or_len p xs) (length xs)) (Some (position_or_len p xs)) None → r ≡ Some end
    → end ≡ position_or_len p xs
some_place p xs r end is some = at_some _ _ _ (sym some ∙ is)

-- no place
pub no_place : (p : ℕ → Bool) (xs : List ℕ) (r : Option ℕ) → r ≡ cond (ltb (position_or_len p xs) (length xs)) (Some (position_or_len p xs)) None → r ≡ None
    → length xs ≡ position_or_len p xs
no_place p xs r is none =
    let past = ltb-false (position_or_len p xs) (length xs) (at_none _ _ (sym none ∙ is)) in
    omega (arith, past, prefix_len-le-length (λ x. not (p x)) xs)
