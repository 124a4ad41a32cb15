-- Line ends, one after another.
use Rattle.std.proofs.Common.{◌≡◌, ℕ, ◌<◌, ◌≤◌, ◌+◌, ◌-◌, Bool, true, false, List, [], ◌∷◌, ◌++◌, refl, sym, ap, ◌∙◌, arith, zero, suc, length, take, drop, get_or, append_assoc}
use Rattle.std.specs.Prelude.{if◌then◌else◌, cond, not, nat_lt, Some, None, position, slice_range}
use Rattle.std.specs.List.{position_or_len}
use Rattle.std.proofs.lemmas.Bool.{ltb-false}
use Rattle.std.proofs.lemmas.List.{get_or-drop, drop-map, drop-drop}
use Rattle.std.proofs.lemmas.List.Quantifiers.{position-Some}
use Rattle.resin_label.specs.Sets.{NumberSet, empty}
use Rattle.resin_lstr.specs.Texts.{Text, bytes_of, sets_of}
use Rattle.resin_lstr.proofs.Pieces.{all_behind}
use Rattle.resin_escape_fn.specs.LineBreaks.{is_line_byte, is_line_pair, break_tag, break_len, with_breaks}

-- a byte that ends no line stays
plain_byte : (p : ℕ × NumberSet) (t : Text) → is_line_byte p.0 ≡ false → with_breaks (p ∷ t) ≡ p ∷ with_breaks t
plain_byte p [] h = ap (λ (b : Bool). if b then break_tag p.1 ++ p ∷ [] else p ∷ []) h
plain_byte p (q ∷ t) h =
    ap (λ (b : Bool). if b then break_tag p.1 ++ p ∷ (if is_line_pair p.0 q.0 then q ∷ with_breaks t else with_breaks (q ∷ t)) else p ∷ with_breaks (q ∷ t)) h

pair_or_one : (b : Bool) (p q : ℕ × NumberSet) (t : Text) → p ∷ (if b then q ∷ with_breaks t else with_breaks (q ∷ t)) ≡ take (if b then 2 else 1) (p ∷ q ∷ t) ++ with_breaks (drop (if b then 2 else 1) (p ∷ q ∷ t))
pair_or_one true p q t = refl
pair_or_one false p q t = refl

-- a line end gets the tag
line_ends : (p : ℕ × NumberSet) (t : Text) → is_line_byte p.0 ≡ true → with_breaks (p ∷ t) ≡ break_tag p.1 ++ (take (break_len (bytes_of (p ∷ t))) (p ∷ t) ++ with_breaks (drop (break_len (bytes_of (p ∷ t))) (p ∷ t)))
line_ends p [] h = ap (λ (b : Bool). if b then break_tag p.1 ++ p ∷ [] else p ∷ []) h
line_ends p (q ∷ t) h =
    ap (λ (b : Bool). if b then break_tag p.1 ++ p ∷ (if is_line_pair p.0 q.0 then q ∷ with_breaks t else with_breaks (q ∷ t)) else p ∷ with_breaks (q ∷ t)) h
    ∙ ap (λ v. break_tag p.1 ++ v) (pair_or_one (is_line_pair p.0 q.0) p q t)

-- the first line end of a text, at the place n
first_end : (n : ℕ) (u : Text) → n < length (bytes_of u) → is_line_byte (get_or (bytes_of u) n 0) ≡ true → ((k : ℕ) → k < n → is_line_byte (get_or (bytes_of u) k 0) ≡ false) → with_breaks u ≡ take n u ++ (break_tag (get_or (sets_of u) n empty) ++ (take (break_len (drop n (bytes_of u))) (drop n u) ++ with_breaks (drop (break_len (drop n (bytes_of u))) (drop n u))))
first_end n [] lt here before = absurd (omega arith)
first_end zero (p ∷ u) lt here before = line_ends p u here
first_end (suc n) (p ∷ u) lt here before =
    plain_byte p u (before 0 (omega arith)) ∙ ap (λ v. p ∷ v) (first_end n u (omega arith) here (λ k low. before (suc k) (omega arith)))

-- a text without line ends stays
unbroken_front : (b : Bool) (p : ℕ × NumberSet) (u : Text) → is_line_byte p.0 ≡ b → suc (length (bytes_of u)) ≤ cond (not b) (1 + position_or_len is_line_byte (bytes_of u)) 0 → (length (bytes_of u) ≤ position_or_len is_line_byte (bytes_of u) → with_breaks u ≡ u) → with_breaks (p ∷ u) ≡ p ∷ u
unbroken_front true p u is long rest = absurd (omega arith)
unbroken_front false p u is long rest = plain_byte p u is ∙ ap (λ v. p ∷ v) (rest (omega arith))

unbroken : (u : Text) → length (bytes_of u) ≤ position_or_len is_line_byte (bytes_of u) → with_breaks u ≡ u
unbroken [] long = refl
unbroken (p ∷ u) long = unbroken_front (is_line_byte p.0) p u refl long (unbroken u)

none_long : (b : Bool) (a n : ℕ) → nat_lt a n ≡ b → cond b (Some a) None ≡ None → n ≤ a
none_long true a n is none = absurd (let no : Some a ≡ None → ⊥ = λ e. cc in no none)
none_long false a n is none = ltb-false a n is

regroup : {X : Type 0} (a b c d e : List X) → (((a ++ b) ++ c) ++ d) ++ e ≡ a ++ (b ++ (c ++ (d ++ e)))
regroup a b c d e = simp append_assoc

-- one line end more
pub broken_step : (t : Text) (bs : List ℕ) (from skipped len : ℕ) (s : NumberSet) (out : Text) → bs ≡ bytes_of t → position is_line_byte (drop from bs) ≡ Some skipped → len ≡ break_len (drop (from + skipped) bs) → s ≡ get_or (sets_of t) (from + skipped) empty → (((out ++ slice_range t from (from + skipped)) ++ break_tag s) ++ slice_range t (from + skipped) ((from + skipped) + len)) ++ with_breaks (drop ((from + skipped) + len) t) ≡ out ++ with_breaks (drop from t)
broken_step t bs from skipped len s out is found len_is s_is =
    let u = drop from t in
    let rest = with_breaks (drop ((from + skipped) + len) t) in
    let a : (from + skipped) - from ≡ skipped = omega arith in
    let b : ((from + skipped) + len) - (from + skipped) ≡ len = omega arith in
    let bytes_here : drop from bs ≡ bytes_of (drop from t) = ap (drop from) is ∙ drop-map (λ (p : ℕ × NumberSet). p.0) from t in
    let first_here = position-Some is_line_byte (bytes_of (drop from t)) skipped 0 (ap (position is_line_byte) (sym bytes_here) ∙ found) in
    let set_here : get_or (sets_of (drop from t)) skipped empty ≡ s
    = ap (λ ss. get_or ss skipped empty) (sym (drop-map (λ (p : ℕ × NumberSet). p.1) from t)) ∙ get_or-drop from (sets_of t) skipped empty ∙ sym s_is in
    let len_here : break_len (drop skipped (bytes_of (drop from t))) ≡ len
    = ap (λ bytes. break_len (drop skipped bytes)) (sym bytes_here) ∙ ap break_len (drop-drop skipped from bs) ∙ sym len_is in
    let rest_here : drop len (drop skipped (drop from t)) ≡ drop ((from + skipped) + len) t
    = ap (drop len) (drop-drop skipped from t) ∙ drop-drop len (from + skipped) t in
    let tail : NumberSet → ℕ → Text = λ q m. break_tag q ++ (take m (drop skipped u) ++ with_breaks (drop m (drop skipped u))) in
    regroup out (slice_range t from (from + skipped)) (break_tag s) (slice_range t (from + skipped) ((from + skipped) + len)) rest
    ∙ ap (λ v. out ++ v) (
    ap (λ n. take n u ++ (break_tag s ++ (slice_range t (from + skipped) ((from + skipped) + len) ++ rest))) a
    ∙ ap (λ v. take skipped u ++ (break_tag s ++ v)) (
    ap (λ n. take n (drop (from + skipped) t) ++ rest) b
    ∙ ap (λ v. take len v ++ rest) (sym (drop-drop skipped from t))
    ∙ ap (λ v. take len (drop skipped u) ++ with_breaks v) (sym rest_here)
    )
    ∙ ap (λ q. take skipped u ++ tail q len) (sym set_here)
    ∙ ap (λ m. take skipped u ++ tail (get_or (sets_of u) skipped empty) m) (sym len_here)
    ∙ sym (first_end skipped u first_here.0 first_here.1 first_here.2)
    )

pub unbroken_rest : (t : Text) (bs : List ℕ) (from : ℕ) → bs ≡ bytes_of t → position is_line_byte (drop from bs) ≡ None → with_breaks (drop from t) ≡ drop from t
unbroken_rest t bs from is none =
    let here : bytes_of (drop from t) ≡ drop from bs = sym (ap (drop from) is ∙ drop-map (λ (p : ℕ × NumberSet). p.0) from t) in
    let found : position is_line_byte (bytes_of (drop from t)) ≡ None = ap (position is_line_byte) here ∙ none in
    unbroken (drop from t) (none_long (nat_lt (position_or_len is_line_byte (bytes_of (drop from t))) (length (bytes_of (drop from t)))) _ _ refl found)

-- what is left behind the last line end
pub broken_end : (t : Text) (bs : List ℕ) (from len : ℕ) (out : Text) → bs ≡ bytes_of t → position is_line_byte (drop from bs) ≡ None → len ≡ length t → out ++ with_breaks (drop from t) ≡ with_breaks t → out ++ slice_range t from len ≡ with_breaks t
broken_end t bs from len out is none long so_far =
    ap (λ n. out ++ take (n - from) (drop from t)) long ∙ ap (λ v. out ++ v) (all_behind t from ∙ sym (unbroken_rest t bs from is none)) ∙ so_far
