-- Bytes taken off the ends.
use Rattle.std.proofs.Common.{◌≡◌, ℕ, ◌+◌, ◌-◌, ◌<◌, Bool, true, false, List, length, take, drop, get_or, set, refl, sym, ap, ◌∙◌, ⊎_elim, arith}
use Rattle.std.specs.Prelude.{◌||◌, nat_eq}
use Rattle.std.specs.List.{prefix_len, suffix_len}
use Rattle.std.proofs.lemmas.Bool.{cases_eq, eq-eqb, ne_eqb, or_right}
use Rattle.std.proofs.lemmas.List.{drop-map, length-map, get_or-set_same, get_or-set_other}
use Rattle.std.proofs.lemmas.List.Folds.{list_any_more}
use Rattle.resin_lstr.specs.Texts.{Text, bytes_of}
use Rattle.resin_text_fn.specs.Rows.{is_among, trim}

or_false : (b : Bool) → (b || false) ≡ b
or_false true = refl
or_false false = refl

-- one more byte in the set
pub set_more : (flags : List Bool) (bytes : List ℕ) (k : ℕ) → length flags ≡ 256 → k < length bytes → ((b : ℕ) → b < 256 → get_or flags b false ≡ is_among (take k bytes) b) → (b : ℕ) → b < 256 → get_or (set flags (get_or bytes k 0) true) b false ≡ is_among (take (k + 1) bytes) b
set_more flags bytes k long lt before b small =
    let x = get_or bytes k 0 in
    let more = list_any_more (λ c. nat_eq c b) bytes k 0 lt in
    ⊎_elim
    (λ same.
    ap (λ n. get_or (set flags (get_or bytes k 0) true) n false) (sym same)
    ∙ get_or-set_same flags (get_or bytes k 0) true false (omega arith)
    ∙ sym (more ∙ or_right _ _ (eq-eqb (get_or bytes k 0) b same)))
    (λ other.
    get_or-set_other flags (get_or bytes k 0) b true false (λ e. other (sym e)) ∙ before b small
    ∙ sym (more ∙ ap (λ v. is_among (take k bytes) b || v) (ne_eqb (get_or bytes k 0) b other) ∙ or_false (is_among (take k bytes) b)))
    (cases_eq (get_or bytes k 0) b)

-- what is left when both ends are trimmed
pub trim_is : (s chars : Text) (start kept : ℕ) → start ≡ prefix_len (is_among (bytes_of chars)) (bytes_of s) → kept ≡ length (drop start (bytes_of s)) - suffix_len (is_among (bytes_of chars)) (drop start (bytes_of s)) → take ((start + kept) - start) (drop start s) ≡ trim s chars
trim_is s chars start kept begins is =
    let kept_of : List ℕ → ℕ = λ bs. length bs - suffix_len (is_among (bytes_of chars)) bs in
    let bytes : drop start (bytes_of s) ≡ bytes_of (drop start s) = drop-map (λ p. p.0) start s in
    let long : length (bytes_of (drop start s)) ≡ length (drop start s) = length-map (drop start s) (λ p. p.0) in
    let count : (start + kept) - start ≡ kept = omega arith in
    ap (λ n. take n (drop start s)) (count ∙ is ∙ ap kept_of bytes ∙ ap (λ n. n - suffix_len (is_among (bytes_of chars)) (bytes_of (drop start s))) long)
    ∙ ap (λ k. take (length (drop k s) - suffix_len (is_among (bytes_of chars)) (bytes_of (drop k s))) (drop k s)) begins
