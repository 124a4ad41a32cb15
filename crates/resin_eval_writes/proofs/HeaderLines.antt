-- Cuts of header lines.
use Rattle.std.proofs.Common.{◌≡◌, ℕ, suc, ◌+◌, ◌-◌, ltb, List, [], ◌∷◌, length, take, drop, Bool, true, false, ◌||◌, cond, not, Option, None, Some, refl, sym, ap, ◌∙◌, arith}
use Rattle.std.specs.Prelude.{◌==◌, ◌&&◌, nat_lt, reverse}
use Rattle.std.specs.List.{list_any, position_or_len, before_first, after_first}
use Rattle.std.proofs.lemmas.Bool.Decides.{nat_tests}
use Rattle.std.proofs.lemmas.List.{take_rest, drop_all}
use Rattle.resin_eval_nested.proofs.bytes_lemmas.Counts.{some_place, no_place}
use Rattle.resin_eval_nested.specs.Under.bytes.declared.header.Header.{Header}
use Rattle.resin_eval_nested.specs.Under.stage.Lines.{is_colon, is_settable, skip_spaces, trimmed, header_line}

-- ---- spaces

one_more : (k : ℕ) → suc k ≡ 1 + k
one_more k = omega arith

pub skip_is_drop : (bs : List ℕ) → drop (position_or_len (λ b. not (b == 32)) bs) bs ≡ skip_spaces bs
skip_is_drop [] = refl
skip_is_drop (b ∷ bs) = by (b == 32) (skip_is_drop bs)
  where
    k : ℕ
    k = position_or_len (λ b. not (b == 32)) bs

    by : (t : Bool) → drop k bs ≡ skip_spaces bs → drop (cond (not (not t)) (1 + k) 0) (b ∷ bs) ≡ cond t (skip_spaces bs) (b ∷ bs)
    by true h = sym (ap (λ n. drop n (b ∷ bs)) (one_more k)) ∙ h
    by false h = refl

pub front_skipped : (bs : List ℕ) (r : Option ℕ) (place : ℕ) → r ≡ cond (ltb (position_or_len (λ b. not (b == 32)) bs) (length bs)) (Some (position_or_len (λ b. not (b == 32)) bs)) None → r ≡ Some place
    → take (length bs - place) (drop place bs) ≡ skip_spaces bs
front_skipped bs r place is some =
    take_rest bs place ∙ (ap (λ n. drop n bs) (some_place (λ b. not (b == 32)) bs r place is some) ∙ skip_is_drop bs)

pub all_skipped : (bs : List ℕ) (r : Option ℕ) → r ≡ cond (ltb (position_or_len (λ b. not (b == 32)) bs) (length bs)) (Some (position_or_len (λ b. not (b == 32)) bs)) None → r ≡ None → [] ≡ skip_spaces bs
all_skipped bs r is none =
    let past = no_place (λ b. not (b == 32)) bs r is none in
    sym (drop_all (position_or_len (λ b. not (b == 32)) bs) bs (omega (arith, past))) ∙ skip_is_drop bs

-- a text without the spaces behind
abbrev pub without_back : List ℕ → List ℕ
without_back bs = reverse (skip_spaces (reverse bs))

-- ---- colons

pub any_place : {X : Type 0} (p : X → Bool) (xs : List X) → list_any p xs ≡ nat_lt (position_or_len p xs) (length xs)
any_place p [] = refl
any_place p (x ∷ xs) = by (p x) (any_place p xs)
  where
    k : ℕ
    k = position_or_len p xs

    first : true ≡ nat_lt 0 (length (x ∷ xs))
    first = grind (arith, nat_tests)

    more : nat_lt k (length xs) ≡ nat_lt (1 + k) (length (x ∷ xs))
    more = grind (arith, nat_tests)

    by : (t : Bool) → list_any p xs ≡ nat_lt k (length xs) → t || list_any p xs ≡ nat_lt (cond (not t) (1 + k) 0) (length (x ∷ xs))
    by true h = first
    by false h = h ∙ more

abbrev pub Colon : List ℕ → Option ℕ → Type 0
Colon line r = r ≡ cond (nat_lt (position_or_len is_colon line) (length line)) (Some (position_or_len is_colon line)) None

abbrev header_by : Bool → Bool → List ℕ → List ℕ → Option Header
header_by there settable name value = cond (there && settable) (Some (record { name = name; value = trimmed value })) None

-- the line as its parts make it
parted : (line : List ℕ) (there settable : Bool) (name value : List ℕ) → list_any is_colon line ≡ there → before_first is_colon line ≡ name → after_first is_colon line ≡ value → is_settable name value ≡ settable
    → header_line line ≡ header_by there settable name value
parted line there settable name value a b v s =
    (λ i. header_by (a i) (is_settable (b i) (v i)) (b i) (v i)) ∙ ap (λ t. header_by there t name value) s

pub colon_missing : (line : List ℕ) (r : Option ℕ) → Colon line r → r ≡ None → None ≡ header_line line
colon_missing line r is none =
    let past = no_place is_colon line r is none in
    let out : list_any is_colon line ≡ false = any_place is_colon line ∙ beyond (position_or_len is_colon line) (length line) past in
    sym (ap (λ t. cond (t && is_settable (before_first is_colon line) (after_first is_colon line)) (Some (record { name = before_first is_colon line; value = trimmed (after_first is_colon line) })) None) out)
  where
    beyond : (k n : ℕ) → n ≡ k → nat_lt k n ≡ false
    beyond k n e = grind (arith, nat_tests)

colon_there : (line : List ℕ) (r : Option ℕ) (at : ℕ) → Colon line r → r ≡ Some at → list_any is_colon line ≡ true
colon_there line r at is some = by (nat_lt (position_or_len is_colon line) (length line)) (any_place is_colon line) is
  where
    no : ◌≡◌ {A = Option ℕ} None (Some at) → ⊥
    no e = cc

    by : (t : Bool) → list_any is_colon line ≡ t → r ≡ cond t (Some (position_or_len is_colon line)) None → list_any is_colon line ≡ true
    by true a e = a
    by false a e = absurd (no (sym e ∙ some))

before_colon : (line : List ℕ) (r : Option ℕ) (at : ℕ) → Colon line r → r ≡ Some at → before_first is_colon line ≡ take at line
before_colon line r at is some = ap (λ n. take n line) (sym (some_place is_colon line r at is some))

behind_colon : (line : List ℕ) (r : Option ℕ) (at : ℕ) → Colon line r → r ≡ Some at → after_first is_colon line ≡ take (length line - (at + 1)) (drop (at + 1) line)
behind_colon line r at is some = sym (take_rest line (at + 1) ∙ ap (λ n. drop (n + 1) line) (some_place is_colon line r at is some))

pub line_parted : (line : List ℕ) (r : Option ℕ) (at : ℕ) (settable : Bool) → Colon line r → r ≡ Some at → settable ≡ is_settable (take at line) (take (length line - (at + 1)) (drop (at + 1) line))
    → header_line line ≡ header_by true settable (take at line) (take (length line - (at + 1)) (drop (at + 1) line))
line_parted line r at settable is some s =
    parted line true settable _ _ (colon_there line r at is some) (before_colon line r at is some) (behind_colon line r at is some) (sym s)
