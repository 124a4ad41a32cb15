-- What stands between quotes, byte by byte.
use Rattle.std.proofs.Common.{◌≡◌, ℕ, zero, suc, ◌+◌, ◌-◌, ◌<◌, ◌≤◌, true, false, [], ◌∷◌, ◌++◌, take, drop, length, get_or, slice_range, ◌⊎◌, inl, inr, refl, sym, ap, ◌∙◌, arith, add-one, append_assoc, length-append, length-drop}
use Rattle.std.proofs.Math.Seq.{take-nil}
use Rattle.std.proofs.lemmas.List.{take_all, drop_all, append-nil}
use Rattle.std.specs.Prelude.{◌==◌, ◌&&◌}
use Rattle.resin_form.proofs.Cases.{if_true, if_false}
use Rattle.resin_label.specs.Sets.{NumberSet, empty, union}
use Rattle.resin_lstr.specs.declared.limits.TheConstants.{LONGEST}
use Rattle.resin_lstr.specs.Texts.{Text, bytes_of, sets_of, carrying}
use Rattle.resin_sql.specs.Labels.{begins_doubled, unquoted}

-- the byte at a place, with its set
abbrev pub item : ℕ → Text → ℕ × NumberSet
item i d = (get_or (bytes_of d) i 0, get_or (sets_of d) i empty)

item_at : (i : ℕ) (d : Text) → i < length d → drop i d ≡ item i d ∷ drop (suc i) d
item_at i [] h = absurd (omega arith)
item_at zero (p ∷ d) h = refl
item_at (suc i) (p ∷ d) h = let s : i < length d = omega arith in item_at i d s

pub one : (d : Text) (i j : ℕ) → i < j → j ≤ length d → slice_range d i j ≡ item i d ∷ slice_range d (i + 1) j
one d i j h l =
    let s : j - i ≡ suc (j - (i + 1)) = omega arith in
    let k : i < length d = omega arith in
    let e : drop i d ≡ item i d ∷ drop (i + 1) d = rw add-one (item_at i d k) in
    ap (λ n. take n (drop i d)) s ∙ ap (take (suc (j - (i + 1)))) e

pub none : (d : Text) (i j : ℕ) → j ≤ i → slice_range d i j ≡ []
none d i j h = let z : j - i ≡ 0 = omega arith in ap (λ n. take n (drop i d)) z

pub single : (d : Text) (i : ℕ) → i < length d → slice_range d i (i + 1) ≡ item i d ∷ []
single d i h =
    let k : i < i + 1 = omega arith in
    let l : i + 1 ≤ length d = omega arith in
    let m : i + 1 ≤ i + 1 = omega arith in
    one d i (i + 1) k l ∙ ap (λ t. item i d ∷ t) (none d (i + 1) (i + 1) m)

pub two : (d : Text) (i j : ℕ) → i + 2 ≤ j → j ≤ length d → slice_range d i j ≡ item i d ∷ item (i + 1) d ∷ slice_range d (i + 2) j
two d i j h l =
    let a : i < j = omega arith in
    let b : i + 1 < j = omega arith in
    let s : (i + 1) + 1 ≡ i + 2 = omega arith in
    one d i j a l ∙ ap (λ t. item i d ∷ t) (one d (i + 1) j b l ∙ ap (λ n. item (i + 1) d ∷ slice_range d n j) s)

plain : (p : ℕ × NumberSet) (t : Text) → begins_doubled (p ∷ t) ≡ false → unquoted (p ∷ t) ≡ p ∷ unquoted t
plain p [] h = refl
plain p (q ∷ t) h = if_false ((39, union p.1 q.1) ∷ unquoted t) (p ∷ unquoted (q ∷ t)) h

doubled : (p q : ℕ × NumberSet) (t : Text) → begins_doubled (p ∷ q ∷ t) ≡ true → unquoted (p ∷ q ∷ t) ≡ (39, union p.1 q.1) ∷ unquoted t
doubled p q t h = if_true ((39, union p.1 q.1) ∷ unquoted t) (p ∷ unquoted (q ∷ t)) h

-- one byte that is no part of a doubled quote, put last
pub put_plain : (out d : Text) (i j : ℕ) → i < j → j ≤ length d → begins_doubled (slice_range d i j) ≡ false
    → (out ++ slice_range d i (i + 1)) ++ unquoted (slice_range d (i + 1) j) ≡ out ++ unquoted (slice_range d i j)
put_plain out d i j h l n =
    let k : i < length d = omega arith in
    let e = one d i j h l in
    let f : begins_doubled (item i d ∷ slice_range d (i + 1) j) ≡ false = sym (ap begins_doubled e) ∙ n in
    ap (λ t. (out ++ t) ++ unquoted (slice_range d (i + 1) j)) (single d i k) ∙ append_assoc out (item i d ∷ []) (unquoted (slice_range d (i + 1) j))
    ∙ ap (λ t. out ++ t) (sym (plain (item i d) (slice_range d (i + 1) j) f) ∙ sym (ap unquoted e))

-- a doubled quote, put last as one
pub put_doubled : (out d : Text) (i j : ℕ) → i + 2 ≤ j → j ≤ length d → begins_doubled (slice_range d i j) ≡ true
    → (out ++ carrying (union (get_or (sets_of d) i empty) (get_or (sets_of d) (i + 1) empty)) (39 ∷ [])) ++ unquoted (slice_range d (i + 2) j) ≡ out ++ unquoted (slice_range d i j)
put_doubled out d i j h l n =
    let e = two d i j h l in
    let f : begins_doubled (item i d ∷ item (i + 1) d ∷ slice_range d (i + 2) j) ≡ true = sym (ap begins_doubled e) ∙ n in
    append_assoc out ((39, union (get_or (sets_of d) i empty) (get_or (sets_of d) (i + 1) empty)) ∷ []) (unquoted (slice_range d (i + 2) j))
    ∙ ap (λ t. out ++ t) (sym (doubled (item i d) (item (i + 1) d) (slice_range d (i + 2) j) f) ∙ sym (ap unquoted e))

-- a text whose front is too long is too long
pub too_long : (front rest all : Text) → front ++ rest ≡ all → LONGEST < length front → LONGEST < length all
too_long front rest all e h = let a = ap length e in let b = length-append front rest in omega arith

-- at the end nothing is to come
pub all_put : (out d whole : Text) (i j : ℕ) → j ≤ i → out ++ unquoted (slice_range d i j) ≡ whole → out ≡ whole
all_put out d whole i j h e = sym (append-nil out) ∙ sym (ap (λ t. out ++ unquoted t) (none d i j h)) ∙ e

-- a range is the same where its ends are brought into the text, and into one another
pub same_range : (t : Text) (a b from to : ℕ) → ((b ≤ length t) × (to ≡ b)) ⊎ ((length t < b) × (to ≡ length t)) → ((a ≤ to) × (from ≡ a)) ⊎ ((to < a) × (from ≡ to))
    → slice_range t a b ≡ slice_range t from to
same_range t a b from to (inl (h, e)) (inl (k, f)) = let x : b - a ≡ to - from = omega arith in cc
same_range t a b from to (inl (h, e)) (inr (k, f)) =
    let m : b ≤ a = omega arith in
    let n : to ≤ from = omega arith in
    none t a b m ∙ sym (none t from to n)
same_range t a b from to (inr (h, e)) (inl (k, f)) =
    let l : length (drop a t) ≡ length t - a = length-drop a t in
    let m : length (drop a t) ≤ b - a = omega arith in
    let n : length (drop a t) ≤ to - a = omega arith in
    take_all (b - a) (drop a t) m ∙ sym (take_all (to - a) (drop a t) n) ∙ sym (ap (λ i. slice_range t i to) f)
same_range t a b from to (inr (h, e)) (inr (k, f)) =
    let m : length t ≤ a = omega arith in
    let n : to ≤ from = omega arith in
    ap (take (b - a)) (drop_all a t m) ∙ take-nil (b - a) ∙ sym (none t from to n)

-- whether a doubled quote stands in front, by two bytes that were read
module _ (d : Text) (i j x : ℕ) (room : i + 1 < j) (within : j ≤ length d) (first : x ≡ get_or (bytes_of d) i 0) where
  in_front : begins_doubled (slice_range d i j) ≡ ((get_or (bytes_of d) i 0 == 39) && (get_or (bytes_of d) (i + 1) 0 == 39))
  in_front = let k : i + 2 ≤ j = omega arith in ap begins_doubled (two d i j k within)

  pub quote_first : (y : ℕ) → y ≡ get_or (bytes_of d) (i + 1) 0 → x ≡ 39 → (y == 39) ≡ begins_doubled (slice_range d i j)
  quote_first y second q =
      let f : get_or (bytes_of d) i 0 ≡ 39 = sym first ∙ q in
      ap (λ n. n == 39) second ∙ sym (in_front ∙ ap (λ n. (n == 39) && (get_or (bytes_of d) (i + 1) 0 == 39)) f)

  pub other_first : (x == 39) ≡ false → (x == 39) ≡ begins_doubled (slice_range d i j)
  other_first n =
      let f : (get_or (bytes_of d) i 0 == 39) ≡ false = ap (λ m. m == 39) (sym first) ∙ n in
      n ∙ sym (in_front ∙ ap (λ b. b && (get_or (bytes_of d) (i + 1) 0 == 39)) f)
