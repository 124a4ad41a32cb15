-- The end of a merge.
use Rattle.std.proofs.Common.{◌≡◌, ℕ, ◌-◌, ◌≤◌, List, [], ◌∷◌, ◌++◌, refl, sym, ap, ◌∙◌, length, take, drop, append-nil}
use Rattle.std.proofs.lemmas.List.{take_rest, drop_all}
use Rattle.resin_label.specs.Kept.{merge}

merge_nil : (xs : List ℕ) → merge xs [] ≡ xs
merge_nil [] = refl
merge_nil (x ∷ xs) = ap (λ zs. x ∷ zs) (merge_nil xs)

module _ (out xs ys : List ℕ) (i j : ℕ) (so_far : out ++ merge (drop i xs) (drop j ys) ≡ merge xs ys) where
  pub ends_left : length xs ≤ i → (out ++ take (length xs - i) (drop i xs)) ++ take (length ys - j) (drop j ys) ≡ merge xs ys
  ends_left h =
      ap (λ zs. (out ++ zs) ++ take (length ys - j) (drop j ys)) (take_rest xs i) ∙ ap (λ zs. (out ++ drop i xs) ++ zs) (take_rest ys j)
      ∙ ap (λ zs. (out ++ zs) ++ drop j ys) (drop_all i xs h) ∙ ap (λ zs. zs ++ drop j ys) (append-nil out)
      ∙ sym (ap (λ zs. out ++ merge zs (drop j ys)) (drop_all i xs h)) ∙ so_far

  pub ends_right : length ys ≤ j → (out ++ take (length xs - i) (drop i xs)) ++ take (length ys - j) (drop j ys) ≡ merge xs ys
  ends_right h =
      ap (λ zs. (out ++ zs) ++ take (length ys - j) (drop j ys)) (take_rest xs i) ∙ ap (λ zs. (out ++ drop i xs) ++ zs) (take_rest ys j)
      ∙ ap (λ zs. (out ++ drop i xs) ++ zs) (drop_all j ys h) ∙ append-nil (out ++ drop i xs)
      ∙ sym (ap (λ zs. out ++ merge (drop i xs) zs) (drop_all j ys h) ∙ ap (λ zs. out ++ zs) (merge_nil (drop i xs))) ∙ so_far
