-- What stands before and after the first byte of a kind.
use Rattle.std.proofs.Common.{arith, ◌≡◌, ℕ, ◌+◌, ◌-◌, ltb, List, [], length, take, drop, Some, None, cond, Bool, Option, sym, ap, ◌∙◌}
use Rattle.std.specs.List.{position_or_len, before_first, after_first}
use Rattle.std.proofs.lemmas.List.{take_all, drop_all, take_rest}
use Rattle.resin_value.proofs.bytes_lemmas.Counts.{some_place, no_place}

-- the answer of a search for such a byte
abbrev pub Found : (ℕ → Bool) → List ℕ → Option ℕ → Type 0
Found p xs r = r ≡ cond (ltb (position_or_len p xs) (length xs)) (Some (position_or_len p xs)) None

pub all_before : (p : ℕ → Bool) (xs : List ℕ) (r : Option ℕ) → Found p xs r → r ≡ None → xs ≡ before_first p xs
all_before p xs r is none = let past = no_place p xs r is none in sym (take_all (position_or_len p xs) xs (omega (arith, past)))

pub none_after : (p : ℕ → Bool) (xs : List ℕ) (r : Option ℕ) → Found p xs r → r ≡ None → [] ≡ after_first p xs
none_after p xs r is none = let past = no_place p xs r is none in sym (drop_all (position_or_len p xs + 1) xs (omega (arith, past)))

pub none_from : (p : ℕ → Bool) (xs : List ℕ) (r : Option ℕ) → Found p xs r → r ≡ None → [] ≡ drop (position_or_len p xs) xs
none_from p xs r is none = let past = no_place p xs r is none in sym (drop_all (position_or_len p xs) xs (omega (arith, past)))

pub some_before : (p : ℕ → Bool) (xs : List ℕ) (r : Option ℕ) (place : ℕ) → Found p xs r → r ≡ Some place → take place xs ≡ before_first p xs
some_before p xs r place is some = ap (λ n. take n xs) (some_place p xs r place is some)

pub some_after : (p : ℕ → Bool) (xs : List ℕ) (r : Option ℕ) (place : ℕ) → Found p xs r → r ≡ Some place → take (length xs - (place + 1)) (drop (place + 1) xs) ≡ after_first p xs
some_after p xs r place is some = take_rest xs (place + 1) ∙ ap (λ n. drop (n + 1) xs) (some_place p xs r place is some)

pub some_from : (p : ℕ → Bool) (xs : List ℕ) (r : Option ℕ) (place : ℕ) → Found p xs r → r ≡ Some place → take (length xs - place) (drop place xs) ≡ drop (position_or_len p xs) xs
some_from p xs r place is some = take_rest xs place ∙ ap (λ n. drop n xs) (some_place p xs r place is some)
