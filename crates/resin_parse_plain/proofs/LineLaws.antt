-- The lines of a text by the places where they end.
use Rattle.std.proofs.Common.{◌≡◌, ℕ, zero, suc, ◌+◌, ◌<◌, ◌≤◌, Bool, true, false, List, [], ◌∷◌, length, drop, get_or, refl, ◌∙◌, ap, arith}
use Rattle.std.specs.Prelude.{if◌then◌else◌, nat_lt, cond}
use Rattle.std.specs.List.{prefix_len}
use Rattle.resin_lex.specs.declared.token.Token.{Token}
use Rattle.resin_lex.specs.Lines.{ends_line, line_ends, line_of_token}
use Rattle.resin_parse_plain.specs.Lines.{line_in}
use Rattle.resin_parse_plain.specs.Rises.{RisesFrom, Rises, ends_from}

lower : (at low : ℕ) (xs : List ℕ) → low ≤ at → RisesFrom at xs → RisesFrom low xs
lower at low [] h r = tt
lower at low (x ∷ xs) h r = (let k : at ≤ x = r.0 in omega arith, r.1)

rises_if : (b : Bool) (at : ℕ) (xs : List ℕ) → RisesFrom (suc at) xs → RisesFrom at (if b then at ∷ xs else xs)
rises_if true at xs r = (omega arith, r)
rises_if false at xs r = lower (suc at) at xs (omega arith) r

ends_rise_from : (at : ℕ) (xs : List ℕ) → RisesFrom at (ends_from at xs)
ends_rise_from at [] = tt
ends_rise_from at (b ∷ xs) = rises_if (ends_line (b ∷ xs)) at (ends_from (suc at) xs) (ends_rise_from (suc at) xs)

pub ends_rise : (xs : List ℕ) → Rises (ends_from 0 xs)
unfolding Rises
ends_rise xs = ends_rise_from 0 xs

length_if : (b : Bool) (at n : ℕ) (xs : List ℕ) → length xs ≤ n → length (if b then at ∷ xs else xs) ≤ suc n
length_if true at n xs h = omega arith
length_if false at n xs h = omega arith

few_from : (at : ℕ) (xs : List ℕ) → length (ends_from at xs) ≤ length xs
few_from at [] = omega arith
few_from at (b ∷ xs) = length_if (ends_line (b ∷ xs)) at (length xs) (ends_from (suc at) xs) (few_from (suc at) xs)

pub few_ends : (xs : List ℕ) → length (ends_from 0 xs) ≤ length xs
few_ends xs = few_from 0 xs

module _ (p : ℕ) where
  abbrev before : ℕ → Bool
  before e = nat_lt e p

  is_before : (e : ℕ) → e < p → nat_lt e p ≡ true
  is_before e h = grind arith

  not_before : (e : ℕ) → p ≤ e → nat_lt e p ≡ false
  not_before e h = grind arith

  first_before : (x : ℕ) (xs : List ℕ) → x < p → prefix_len before (x ∷ xs) ≡ suc (prefix_len before xs)
  first_before x xs h = rw (is_before x h) (omega arith)

  none_before : (at : ℕ) (xs : List ℕ) → RisesFrom at xs → p ≤ at → prefix_len before xs ≡ 0
  none_before at [] r h = refl
  none_before at (x ∷ xs) r h = (let k : at ≤ x = r.0 in rw (not_before x (omega arith)) refl)

  counts_if : (b : Bool) (at : ℕ) (xs : List ℕ) → at < p → prefix_len before (if b then at ∷ xs else xs) ≡ (if b then 1 else 0) + prefix_len before xs
  counts_if true at xs h = first_before at xs h ∙ omega arith
  counts_if false at xs h = omega arith

  counts : (n at : ℕ) (xs : List ℕ) → at + n ≡ p → prefix_len before (ends_from at xs) ≡ line_ends n xs
  counts zero at xs h = none_before at (ends_from at xs) (ends_rise_from at xs) (omega arith)
  counts (suc n) at [] h = refl
  counts (suc n) at (b ∷ xs) h =
      counts_if (ends_line (b ∷ xs)) at (ends_from (suc at) xs) (omega arith)
      ∙ ap (λ k. (if ends_line (b ∷ xs) then 1 else 0) + k) (counts n (suc at) xs (omega arith))

  -- a step of a search
  lowest : (at : ℕ) (xs : List ℕ) (k d : ℕ) → RisesFrom at xs → k < length xs → at ≤ get_or xs k d
  lowest at [] k d r h = absurd (omega arith)
  lowest at (x ∷ xs) zero d r h = r.0
  lowest at (x ∷ xs) (suc k) d r h = (let i = lowest (suc x) xs k d r.1 (omega arith) in let j : at ≤ x = r.0 in omega arith)

  right_from : (at : ℕ) (xs : List ℕ) (k d : ℕ) → RisesFrom at xs → k < length xs → get_or xs k d < p → suc k ≤ prefix_len before xs
  right_from at [] k d r h l = absurd (omega arith)
  right_from at (x ∷ xs) zero d r h l = (let e = first_before x xs l in omega arith)
  right_from at (x ∷ xs) (suc k) d r h l =
      let i = lowest (suc x) xs k d r.1 (omega arith) in
      let e = first_before x xs (omega arith) in
      let j = right_from (suc x) xs k d r.1 (omega arith) l in omega arith

  pub right : (xs : List ℕ) (k d : ℕ) → Rises xs → k < length xs → get_or xs k d < p → suc k ≤ prefix_len before xs
  unfolding Rises
  right xs k d r h l = right_from 0 xs k d r h l

  stops : (b : Bool) (n k : ℕ) → n ≤ k → cond b (1 + n) 0 ≤ suc k
  stops true n k h = omega arith
  stops false n k h = omega arith

  pub left : (xs : List ℕ) (k d : ℕ) → k < length xs → p ≤ get_or xs k d → prefix_len before xs ≤ k
  left [] k d h l = absurd (omega arith)
  left (x ∷ xs) zero d h l = rw (not_before x l) (omega arith)
  left (x ∷ xs) (suc k) d h l = stops (nat_lt x p) (prefix_len before xs) k (left xs k d (omega arith) l)

  pub at_most : (xs : List ℕ) → prefix_len before xs ≤ length xs
  at_most [] = omega arith
  at_most (x ∷ xs) = stops (nat_lt x p) (prefix_len before xs) (length xs) (at_most xs)

pub lines_agree : (src : List ℕ) (t : Token) → line_in (ends_from 0 src) t ≡ line_of_token src t
lines_agree src t = ap (λ k. 1 + k) (counts t.from t.from 0 src (omega arith))

step_if : (b : Bool) (at : ℕ) (xs : List ℕ) → b ≡ true → (if b then at ∷ xs else xs) ≡ at ∷ xs
step_if true at xs e = refl
step_if false at xs e = cc

skip_if : (b : Bool) (at : ℕ) (xs : List ℕ) → b ≡ false → (if b then at ∷ xs else xs) ≡ xs
skip_if true at xs e = cc
skip_if false at xs e = refl

pub ends_next : (at i : ℕ) (src : List ℕ) → i < length src → ends_line (drop i src) ≡ true → ends_from at (drop i src) ≡ at ∷ ends_from (suc at) (drop (suc i) src)
ends_next at i [] h e = absurd (omega arith)
ends_next at zero (b ∷ xs) h e = step_if (ends_line (b ∷ xs)) at (ends_from (suc at) xs) e
ends_next at (suc i) (b ∷ xs) h e = ends_next at i xs (omega arith) e

pub ends_skip : (at i : ℕ) (src : List ℕ) → i < length src → ends_line (drop i src) ≡ false → ends_from at (drop i src) ≡ ends_from (suc at) (drop (suc i) src)
ends_skip at i [] h e = absurd (omega arith)
ends_skip at zero (b ∷ xs) h e = skip_if (ends_line (b ∷ xs)) at (ends_from (suc at) xs) e
ends_skip at (suc i) (b ∷ xs) h e = ends_skip at i xs (omega arith) e
