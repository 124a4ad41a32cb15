-- Pairs of rows, turn by turn.
use Rattle.std.proofs.Common.{◌≡◌, ℕ, zero, suc, ◌+◌, ◌<◌, List, [], ◌∷◌, ◌++◌, length, map, filter, drop, Bool, true, false, cond, refl, sym, ap, ◌∙◌, arith, append_assoc}
use Rattle.std.specs.List.{flat_map}
use Rattle.resin_base.specs.declared.cell.Cell.{Cell}
use Rattle.resin_base.specs.declared.cell.Row.{Row}
use Rattle.resin_rows.specs.Rows.{cells_of, row_at}

-- the row at a place, and those behind it
pub cells_front : (rows : List Row) (i : ℕ) → i < length rows → cells_of (drop i rows) ≡ row_at (cells_of rows) i ∷ cells_of (drop (i + 1) rows)
cells_front [] i lt = absurd (omega arith)
cells_front (r ∷ rows) zero lt = refl
cells_front (r ∷ rows) (suc i) lt =
    let e : suc i + 1 ≡ suc (i + 1) = omega arith in
    cells_front rows i (omega arith) ∙ sym (ap (λ n. row_at (cells_of (r ∷ rows)) (suc i) ∷ cells_of (drop n (r ∷ rows))) e)

map-push : {A B : Type 0} (f : A → B) (xs : List A) (x : A) → map f (xs ++ x ∷ []) ≡ map f xs ++ f x ∷ []
map-push f [] x = refl
map-push f (y ∷ xs) x = ap (λ ys. f y ∷ ys) (map-push f xs x)

filter-append : {A : Type 0} (test : A → Bool) (xs ys : List A) → filter test (xs ++ ys) ≡ filter test xs ++ filter test ys
filter-append test [] ys = refl
filter-append test (x ∷ xs) ys =
    elim (test x) as (λ b. cond b (x ∷ filter test (xs ++ ys)) (filter test (xs ++ ys)) ≡ cond b (x ∷ filter test xs) (filter test xs) ++ filter test ys) [
      | true ↦ ap (λ zs. x ∷ zs) (filter-append test xs ys)
      | false ↦ filter-append test xs ys
    ]

module _ (f : ℕ × ℕ → List Cell) (test : List Cell → Bool) where
  -- one more pair of a row
  pub pair_turn : (k : List Cell → List Cell) (rows : List Row) (i : ℕ) (pair : ℕ × ℕ) (pairs next : List (ℕ × ℕ)) (is : Bool) (all : List (List Cell))
      → i < length rows → f pair ≡ k (row_at (cells_of rows) i) → is ≡ test (f pair) → next ≡ cond is (pairs ++ pair ∷ []) pairs
      → map f pairs ++ filter test (map k (cells_of (drop i rows))) ≡ all → map f next ++ filter test (map k (cells_of (drop (i + 1) rows))) ≡ all
  pair_turn k rows i pair pairs next is all lt at e n h =
      let rest = filter test (map k (cells_of (drop (i + 1) rows))) in
      let h' : map f pairs ++ cond (test (f pair)) (f pair ∷ rest) rest ≡ all
      = ap (λ y. map f pairs ++ cond (test y) (y ∷ rest) rest) at ∙ (sym (ap (λ cs. map f pairs ++ filter test (map k cs)) (cells_front rows i lt)) ∙ h) in
      rw n (elim is as (λ b. is ≡ b → map f (cond b (pairs ++ pair ∷ []) pairs) ++ rest ≡ all) [
        | true ↦ λ t.
            let yes : test (f pair) ≡ true = sym e ∙ t in
            ap (λ ys. ys ++ rest) (map-push f pairs pair) ∙ (append_assoc (map f pairs) (f pair ∷ []) rest ∙ (sym (ap (λ b. map f pairs ++ cond b (f pair ∷ rest) rest) yes) ∙ h'))
        | false ↦ λ t.
            let no : test (f pair) ≡ false = sym e ∙ t in
            sym (ap (λ b. map f pairs ++ cond b (f pair ∷ rest) rest) no) ∙ h'
      ] refl)

  -- the pairs of one more row
  pub row_turn : (k : List Cell → List (List Cell)) (rows : List Row) (i : ℕ) (pairs next : List (ℕ × ℕ)) (all : List (List Cell))
      → i < length rows → map f next ≡ map f pairs ++ filter test (k (row_at (cells_of rows) i))
      → map f pairs ++ filter test (flat_map k (cells_of (drop i rows))) ≡ all → map f next ++ filter test (flat_map k (cells_of (drop (i + 1) rows))) ≡ all
  row_turn k rows i pairs next all lt n h =
      let one = k (row_at (cells_of rows) i) in
      let others = flat_map k (cells_of (drop (i + 1) rows)) in
      ap (λ ys. ys ++ filter test others) n
      ∙ (append_assoc (map f pairs) (filter test one) (filter test others)
      ∙ (ap (λ ys. map f pairs ++ ys) (sym (filter-append test one others))
      ∙ (sym (ap (λ cs. map f pairs ++ filter test (flat_map k cs)) (cells_front rows i lt)) ∙ h)))
