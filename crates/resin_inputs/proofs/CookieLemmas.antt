-- The cookies of a field, part by part.
use Rattle.std.proofs.Common.{arith, ◌≡◌, ℕ, ◌+◌, ltb, List, length, true, false, refl, sym, ap, ◌∙◌}
use Rattle.std.specs.Prelude.{fold}
use Rattle.std.specs.List.{position_or_len, before_first, after_first}
use Rattle.std.proofs.lemmas.Bool.{ltb-true, ltb-false}
use Rattle.std.proofs.lemmas.List.{take_all, drop_all}
use Rattle.std.proofs.lemmas.List.Splits.{slice_split_first, slice_split_none}
use Rattle.std.proofs.lemmas.List.Elements.{All-from_get_or}
use Rattle.std.proofs.lemmas.List.Sums.{fails_before_first}
use Rattle.resin_value.specs.Arrays.{Array}
use Rattle.resin_inputs.specs.Cookies.{is_semicolon, put_part, put_parts}

-- the first part and then those of what stands after its `;`
pub first_part : (a : Array) (xs : List ℕ) → put_parts (put_part a (before_first is_semicolon xs)) (after_first is_semicolon xs) ≡ put_parts a xs
first_part a xs =
    let n = position_or_len is_semicolon xs in
    elim (ltb n (length xs)) as (λ b. ltb n (length xs) ≡ b → put_parts (put_part a (before_first is_semicolon xs)) (after_first is_semicolon xs) ≡ put_parts a xs) [
      | true ↦ λ h. sym (ap (fold put_part a) (slice_split_first is_semicolon xs 0 (ltb-true n (length xs) h)))
      | false ↦ λ h.
          let past = ltb-false n (length xs) h in
          let one = slice_split_none is_semicolon xs (All-from_get_or (λ x. is_semicolon x ≡ false) xs 0 (λ k within. fails_before_first is_semicolon xs k 0 (omega (arith, past, within)))) in
          ap (λ ys. put_parts (put_part a ys) (after_first is_semicolon xs)) (take_all n xs past)
          ∙ ap (put_parts (put_part a xs)) (drop_all (n + 1) xs (omega (arith, past)))
          ∙ sym (ap (fold put_part a) one)
    ] refl
