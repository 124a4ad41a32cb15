-- One turn of each scanning loop.
use Rattle.std.proofs.Common.{◌≡◌, ◌≢◌, ℕ, suc, ◌+◌, ◌<◌, ◌≤◌, Bool, true, false, List, [], ◌∷◌, take, drop, ◌-◌, length, get_or, refl, sym, ◌∙◌, ap, arith, add-one, drop-cons}
use Rattle.std.proofs.lemmas.List.{drop_all, take_all, length-drop}
use Rattle.std.specs.Prelude.{◌==◌, ◌&&◌}
use Rattle.std.specs.List.{prefix_len}
use Rattle.resin_scan.specs.Bytes.{lower}
use Rattle.resin_scan.specs.Stretches.{reach, stops, escapes}
use Rattle.resin_scan.specs.Words.{spells}
use Rattle.resin_scan.specs.declared.stretches.Stop.{Stop}

-- what `&s[i..]` is
pub tail : (s : List ℕ) (i : ℕ) → take (length s - i) (drop i s) ≡ drop i s
tail s i = take_all (length s - i) (drop i s) (omega (arith, length-drop i s))

pub front : (i : ℕ) (s : List ℕ) → i < length s → drop i s ≡ get_or s i 0 ∷ drop (i + 1) s
front i s h = rw (add-one, drop-cons s i 0) refl

pub reach_stops : (stop : Stop) (b : ℕ) (xs : List ℕ) → stops stop (b ∷ xs) ≡ true → reach stop false (b ∷ xs) ≡ 0
reach_stops stop b xs h = rw h refl

pub reach_goes : (stop : Stop) (b : ℕ) (xs : List ℕ) → stops stop (b ∷ xs) ≡ false → reach stop false (b ∷ xs) ≡ suc (reach stop (escapes stop b) xs)
reach_goes stop b xs h = rw h refl

-- `total`: how many bytes the whole stretch has
module _ (stop : Stop) (s : List ℕ) (i : ℕ) (within : i < length s) (total : ℕ) where
  pub taken_along : i + reach stop true (drop i s) ≡ total → (i + 1) + reach stop false (drop (i + 1) s) ≡ total
  taken_along h = let e : reach stop true (drop i s) ≡ suc (reach stop false (drop (i + 1) s)) = ap (reach stop true) (front i s within) in omega arith

  pub goes_on : i + reach stop false (drop i s) ≡ total → stops stop (drop i s) ≡ false → (i + 1) + reach stop (escapes stop (get_or s i 0)) (drop (i + 1) s) ≡ total
  goes_on h closed = let e : reach stop false (drop i s) ≡ suc (reach stop (escapes stop (get_or s i 0)) (drop (i + 1) s)) = ap (reach stop false) (front i s within) ∙ reach_goes stop (get_or s i 0) (drop (i + 1) s) (sym (ap (stops stop) (front i s within)) ∙ closed) in omega arith

  pub halts : i + reach stop false (drop i s) ≡ total → stops stop (drop i s) ≡ true → i ≡ total
  halts h here = let e : reach stop false (drop i s) ≡ 0 = ap (reach stop false) (front i s within) ∙ reach_stops stop (get_or s i 0) (drop (i + 1) s) (sym (ap (stops stop) (front i s within)) ∙ here) in omega arith

pub ends_at : (stop : Stop) (escaped : Bool) (s : List ℕ) (i : ℕ) (total : ℕ) → length s ≤ i → i + reach stop escaped (drop i s) ≡ total → i ≡ total
ends_at stop escaped s i total h e = let none : reach stop escaped (drop i s) ≡ 0 = ap (reach stop escaped) (drop_all i s h) in omega arith

pub same_length : (word s : List ℕ) → length word ≢ length s → spells word s ≡ false
same_length [] [] h = absurd (h refl)
same_length [] (b ∷ bs) h = refl
same_length (c ∷ cs) [] h = refl
same_length (c ∷ cs) (b ∷ bs) h = rw (same_length cs bs (λ e. h (ap suc e))) (elim (lower b == c) as (λ v. (v && false) ≡ false) [ true ↦ refl | false ↦ refl ])

pub one_letter : (word s : List ℕ) (i : ℕ) → i < length word → i < length s → spells (drop i word) (drop i s) ≡ ((lower (get_or s i 0) == get_or word i 0) && spells (drop (i + 1) word) (drop (i + 1) s))
one_letter word s i h k = rw (front i word h, front i s k) refl

pub some_pass : (p : ℕ → Bool) (xs : List ℕ) → 0 < length xs → p (get_or xs 0 0) ≡ true → 0 < prefix_len p xs
some_pass p [] h e = absurd (omega arith)
some_pass p (x ∷ xs) h e = rw e (omega arith)

pub reach_some : (stop : Stop) (xs : List ℕ) → 0 < length xs → stops stop xs ≡ false → 0 < reach stop false xs
reach_some stop [] h e = absurd (omega arith)
reach_some stop (x ∷ xs) h e = rw (reach_goes stop x xs e) (omega arith)
