-- Rows in rising number: which one is the last, and what changes keep them rising.
use Rattle.std.proofs.Common.{arith, ◌≡◌, ◌==◌, ℕ, zero, suc, ◌+◌, ◌<◌, ◌≤◌, nat_le, true, false, cond, not, ◌||◌, List, [], ◌∷◌, ◌++◌, length, map, refl, ap, ◌∙◌}
use Rattle.std.specs.Prelude.{slice_set, slice_index_or}
use Rattle.std.proofs.lemmas.Bool.{and_parts, and_from, leb-true, le-leb, eq-eqb, ne_eqb}
use Rattle.resin_base.specs.declared.cell.Cell.{Cell}
use Rattle.resin_base.specs.declared.cell.Column.{Column}
use Rattle.resin_base.specs.declared.cell.Row.{Row}
use Rattle.resin_base.specs.TableStore.{rise_from, have_cells, has_number, largest_number, with_cells, without_number}

-- the parts of rising rows
rise-parts : (least : ℕ) (row : Row) (rows : List Row) → rise_from least (row ∷ rows) ≡ true → (least ≤ row.number) × (rise_from (row.number + 1) rows ≡ true)
rise-parts least row rows rise =
    let parts = and_parts (nat_le least row.number) (rise_from (row.number + 1) rows) rise in
    (leb-true _ _ parts.0, parts.1)

rise-from_parts : (least : ℕ) (row : Row) (rows : List Row) → least ≤ row.number → rise_from (row.number + 1) rows ≡ true → rise_from least (row ∷ rows) ≡ true
rise-from_parts least row rows le rise = and_from _ _ (le-leb _ _ le) rise

-- each row's number is at least the bound
rise_at : (least : ℕ) (rows : List Row) (i : ℕ) (d : Row) → rise_from least rows ≡ true → i < length rows → least ≤ (slice_index_or rows i d).number
rise_at least [] i d rise within = absurd (omega arith)
rise_at least (row ∷ rows) zero d rise within = (rise-parts least row rows rise).0
rise_at least (row ∷ rows) (suc i) d rise within =
    let parts = rise-parts least row rows rise in
    omega (arith, parts.0, rise_at (row.number + 1) rows i d parts.1 (omega arith))

-- the last row has the largest number
pub last_largest : (least : ℕ) (rows : List Row) (n : ℕ) (row : Row) → rise_from least rows ≡ true → length rows ≡ suc n → row ≡ slice_index_or rows n row
    → row.number ≡ largest_number rows
last_largest least [] n row rise is here = absurd (omega arith)
last_largest least (x ∷ []) zero row rise is here = ap (λ (r : Row). r.number) here ∙ omega arith
last_largest least (x ∷ []) (suc n) row rise is here = absurd (omega arith)
last_largest least (x ∷ y ∷ rows) zero row rise is here = absurd (omega arith)
last_largest least (x ∷ y ∷ rows) (suc n) row rise is here =
    let parts = rise-parts least x (y ∷ rows) rise in
    let next = rise-parts (x.number + 1) y rows parts.1 in
    let rest = last_largest (x.number + 1) (y ∷ rows) n row parts.1 (omega arith) here in
    rest ∙ omega (arith, next.0)

-- numbers below the bound are absent
below_absent : (least : ℕ) (rows : List Row) (number : ℕ) → rise_from least rows ≡ true → number < least → has_number rows number ≡ false
below_absent least [] number rise lt = refl
below_absent least (row ∷ rows) number rise lt =
    let parts = rise-parts least row rows rise in
    rw (ne_eqb row.number number (λ e. omega (arith, e, parts.0))) (below_absent (row.number + 1) rows number parts.1 (omega (arith, parts.0)))

-- rows without the number keep their cells
pub map_absent : (rows : List Row) (number : ℕ) (cells : List Cell) → has_number rows number ≡ false → map (with_cells number cells) rows ≡ rows
map_absent [] number cells none = refl
map_absent (row ∷ rows) number cells none =
    elim (row.number == number) as (λ b. (b || has_number rows number) ≡ false → cond b (record { number = row.number; cells = cells }) row ∷ map (with_cells number cells) rows ≡ row ∷ rows) [
      | true ↦ λ e. cc
      | false ↦ λ e. ap (λ rs. row ∷ rs) (map_absent rows number cells e)
    ] none

-- the cells set at the place of a number are those of the rows of that number
pub set_at : (least : ℕ) (rows : List Row) (i number : ℕ) (cells : List Cell) (d : Row) → rise_from least rows ≡ true → i < length rows
    → (slice_index_or rows i d).number ≡ number
    → slice_set rows i (record { number = (slice_index_or rows i d).number; cells = cells }) ≡ map (with_cells number cells) rows
set_at least [] i number cells d rise within here = absurd (omega arith)
set_at least (row ∷ rows) zero number cells d rise within here =
    let parts = rise-parts least row rows rise in
    let kept = map_absent rows number cells (below_absent (row.number + 1) rows number parts.1 (omega arith)) in
    rw (eq-eqb row.number number here, kept) refl
set_at least (row ∷ rows) (suc i) number cells d rise within here =
    let parts = rise-parts least row rows rise in
    let above = rise_at (row.number + 1) rows i d parts.1 (omega arith) in
    rw (ne_eqb row.number number (λ e. omega (arith, e, above, here)))
    (ap (λ rs. row ∷ rs) (set_at (row.number + 1) rows i number cells d parts.1 (omega arith) here))

-- rows rise from a smaller bound too
pub rise_less : (least most : ℕ) (rows : List Row) → least ≤ most → rise_from most rows ≡ true → rise_from least rows ≡ true
rise_less least most [] le rise = refl
rise_less least most (row ∷ rows) le rise =
    let parts = rise-parts most row rows rise in
    rise-from_parts least row rows (omega (arith, parts.0)) parts.1

-- a row put last whose number is above all keeps them rising
pub rise_push : (least : ℕ) (rows : List Row) (row : Row) → rise_from least rows ≡ true → largest_number rows < row.number → least ≤ row.number
    → rise_from least (rows ++ row ∷ []) ≡ true
rise_push least [] row rise above le = rise-from_parts least row [] le refl
rise_push least (x ∷ rows) row rise above le =
    let parts = rise-parts least x rows rise in
    rise-from_parts least x (rows ++ row ∷ []) parts.0 (rise_push (x.number + 1) rows row parts.1 (omega arith) (omega arith))

-- other cells leave the numbers
number-with_cells : (number : ℕ) (cells : List Cell) (row : Row) → (with_cells number cells row).number ≡ row.number
number-with_cells number cells row =
    elim (row.number == number) as (λ b. (let r : Row = cond b (record { number = row.number; cells = cells }) row in r.number) ≡ row.number) [ true ↦ refl | false ↦ refl ]

pub rise_map : (least : ℕ) (rows : List Row) (number : ℕ) (cells : List Cell) → rise_from least rows ≡ true → rise_from least (map (with_cells number cells) rows) ≡ true
rise_map least [] number cells rise = refl
rise_map least (row ∷ rows) number cells rise =
    let parts = rise-parts least row rows rise in
    let same = number-with_cells number cells row in
    rise-from_parts least (with_cells number cells row) (map (with_cells number cells) rows) (rw same parts.0)
    (rw same (rise_map (row.number + 1) rows number cells parts.1))

pub rise_filter : (least : ℕ) (rows : List Row) (number : ℕ) → rise_from least rows ≡ true → rise_from least (without_number number rows) ≡ true
rise_filter least [] number rise = refl
rise_filter least (row ∷ rows) number rise =
    let parts = rise-parts least row rows rise in
    let rest = rise_filter (row.number + 1) rows number parts.1 in
    elim (row.number == number) as (λ b. rise_from least (cond (not b) (row ∷ without_number number rows) (without_number number rows)) ≡ true) [
      | true ↦ rise_less least (row.number + 1) (without_number number rows) (omega (arith, parts.0)) rest
      | false ↦ rise-from_parts least row (without_number number rows) parts.0 rest
    ]

-- the same of the number of cells
cells-parts : (columns : List Column) (row : Row) (rows : List Row) → have_cells columns (row ∷ rows) ≡ true
    → ((length row.cells == length columns) ≡ true) × (have_cells columns rows ≡ true)
cells-parts columns row rows have = and_parts (length row.cells == length columns) (have_cells columns rows) have

pub cells_push : (columns : List Column) (rows : List Row) (row : Row) → have_cells columns rows ≡ true → (length row.cells == length columns) ≡ true
    → have_cells columns (rows ++ row ∷ []) ≡ true
cells_push columns [] row have fits = and_from _ _ fits refl
cells_push columns (x ∷ rows) row have fits =
    let parts = cells-parts columns x rows have in
    and_from _ _ parts.0 (cells_push columns rows row parts.1 fits)

cells-with_cells : (columns : List Column) (number : ℕ) (cells : List Cell) (row : Row) → (length row.cells == length columns) ≡ true
    → (length cells == length columns) ≡ true → (length (with_cells number cells row).cells == length columns) ≡ true
cells-with_cells columns number cells row had fits =
    elim (row.number == number) as (λ b. (let r : Row = cond b (record { number = row.number; cells = cells }) row in length r.cells == length columns) ≡ true) [ true ↦ fits | false ↦ had ]

pub cells_map : (columns : List Column) (rows : List Row) (number : ℕ) (cells : List Cell) → have_cells columns rows ≡ true
    → (length cells == length columns) ≡ true → have_cells columns (map (with_cells number cells) rows) ≡ true
cells_map columns [] number cells have fits = refl
cells_map columns (row ∷ rows) number cells have fits =
    let parts = cells-parts columns row rows have in
    and_from _ _ (cells-with_cells columns number cells row parts.0 fits) (cells_map columns rows number cells parts.1 fits)

pub cells_filter : (columns : List Column) (rows : List Row) (number : ℕ) → have_cells columns rows ≡ true → have_cells columns (without_number number rows) ≡ true
cells_filter columns [] number have = refl
cells_filter columns (row ∷ rows) number have =
    let parts = cells-parts columns row rows have in
    let rest = cells_filter columns rows number parts.1 in
    elim (row.number == number) as (λ b. have_cells columns (cond (not b) (row ∷ without_number number rows) (without_number number rows)) ≡ true) [
      | true ↦ rest
      | false ↦ and_from _ _ parts.0 rest
    ]
