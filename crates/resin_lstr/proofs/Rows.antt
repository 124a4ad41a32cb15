-- Tables of bytes by the rows that are kept.
use Rattle.std.proofs.Common.{◌≡◌, ℕ, ◌<◌, ◌+◌, List, [], ◌∷◌, ◌++◌, refl, sym, ap, ◌∙◌, arith, zero, suc, length, take, drop, get_or, set, length-append, ◌≤◌}
use Rattle.std.specs.Prelude.{map, replicate, Option, Some, None}
use Rattle.std.specs.List.{flat_map, range_with_len}
use Rattle.std.proofs.lemmas.List.{take-append-drop, take_more, flat_map_more}
use Rattle.std.proofs.lemmas.List.Concat.{flat_map-append}
use Rattle.std.proofs.lemmas.List.{map-append}
use Rattle.resin_label.specs.Sets.{NumberSet}
use Rattle.resin_lstr.specs.Texts.{carrying}
use Rattle.resin_lstr.specs.Tables.{identity, replacement, replaced, rows_from}

unchanged_rows : (b n : ℕ) → rows_from b (replicate n None) ≡ map (λ c. c ∷ []) (range_with_len b n)
unchanged_rows b zero = refl
unchanged_rows b (suc n) = ap (λ rows. (b ∷ []) ∷ rows) (unchanged_rows (b + 1) n)

pub identity_rows : (rows : List (Option (List ℕ))) (n : ℕ) → n ≡ 256 → rows ≡ replicate n None → rows_from 0 rows ≡ identity
unfolding identity
identity_rows rows n long is = ap (rows_from 0) is ∙ unchanged_rows 0 n ∙ ap (λ m. map (λ c. c ∷ []) (range_with_len 0 m)) long

pub put_rows : (b i : ℕ) (rows : List (Option (List ℕ))) (x : List ℕ) → rows_from b (set rows i (Some x)) ≡ set (rows_from b rows) i x
put_rows b i [] x = refl
put_rows b zero (None ∷ rows) x = refl
put_rows b zero (Some y ∷ rows) x = refl
put_rows b (suc i) (None ∷ rows) x = ap (λ rs. (b ∷ []) ∷ rs) (put_rows (b + 1) i rows x)
put_rows b (suc i) (Some y ∷ rows) x = ap (λ rs. y ∷ rs) (put_rows (b + 1) i rows x)

-- the row of a byte
pub row_some : (b i : ℕ) (rows : List (Option (List ℕ))) (x : List ℕ) (d : Option (List ℕ)) → i < length rows → get_or rows i d ≡ Some x → get_or (rows_from b rows) i [] ≡ x
row_some b i [] x d lt is = absurd (omega arith)
row_some b zero (None ∷ rows) x d lt is = absurd (let no : None ≡ Some x → ⊥ = λ e. cc in no is)
row_some b zero (Some y ∷ rows) x d lt is = let yes : Some y ≡ Some x → y ≡ x = λ e. cc in yes is
row_some b (suc i) (None ∷ rows) x d lt is = row_some (b + 1) i rows x d (omega arith) is
row_some b (suc i) (Some y ∷ rows) x d lt is = row_some (b + 1) i rows x d (omega arith) is

pub row_none : (b i : ℕ) (rows : List (Option (List ℕ))) (d : Option (List ℕ)) → i < length rows → get_or rows i d ≡ None → get_or (rows_from b rows) i [] ≡ (b + i) ∷ []
row_none b i [] d lt is = absurd (omega arith)
row_none b zero (None ∷ rows) d lt is = let e : b ≡ b + zero = omega arith in ap (λ n. n ∷ []) e
row_none b zero (Some y ∷ rows) d lt is = absurd (let no : Some y ≡ None → ⊥ = λ e. cc in no is)
row_none b (suc i) (None ∷ rows) d lt is = row_none (b + 1) i rows d (omega arith) is ∙ let e : (b + 1) + i ≡ b + suc i = omega arith in ap (λ n. n ∷ []) e
row_none b (suc i) (Some y ∷ rows) d lt is = row_none (b + 1) i rows d (omega arith) is ∙ let e : (b + 1) + i ≡ b + suc i = omega arith in ap (λ n. n ∷ []) e

-- a table works on the bytes of one set as on bytes
pub replaced-carrying : (table : List (List ℕ)) (s : NumberSet) (bs : List ℕ) → replaced table (carrying s bs) ≡ carrying s (flat_map (replacement table) bs)
replaced-carrying table s [] = refl
replaced-carrying table s (b ∷ bs) =
    ap (λ t. carrying s (replacement table b) ++ t) (replaced-carrying table s bs) ∙ sym (map-append (λ c. (c, s)) (replacement table b) (flat_map (replacement table) bs))

-- ---- rows put one after another
pub rows_more : (f : ℕ → List ℕ) (bs : List ℕ) (k : ℕ) (out cur new : List ℕ) → k < length bs → cur ≡ out ++ flat_map f (take k bs) → new ≡ cur ++ f (get_or bs k 0) → new ≡ out ++ flat_map f (take (k + 1) bs)
rows_more f bs k out cur new lt cur_is new_is =
    new_is ∙ ap (λ zs. zs ++ f (get_or bs k 0)) cur_is ∙ flat_map_more f out (take k bs) (get_or bs k 0) ∙ ap (λ xs. out ++ flat_map f xs) (sym (take_more bs k 0 lt))

pub rows_front : (f : ℕ → List ℕ) (bs : List ℕ) (k : ℕ) (out : List ℕ) → length (out ++ flat_map f (take k bs)) ≤ length (out ++ flat_map f bs)
rows_front f bs k out =
    omega (
      arith,
      length-append out (flat_map f (take k bs)),
      length-append out (flat_map f bs),
      ap length (ap (flat_map f) (sym (take-append-drop k bs)) ∙ flat_map-append f (take k bs) (drop k bs)),
      length-append (flat_map f (take k bs)) (flat_map f (drop k bs)),
    )
