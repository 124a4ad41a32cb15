-- Tables stay whole.
use Rattle.std.proofs.Common.{arith, ◌≡◌, ◌==◌, ℕ, ◌+◌, nat_lt, true, false, cond, ◌&&◌, List, [], ◌∷◌, ◌++◌, length, map, Some, None, Result, Ok, Err, OnOk, OnErr, refl, sym, ap, ◌∙◌}
use Rattle.std.specs.FinMap.{get, insert, empty, get-empty, get-insert, contains_key}
use Rattle.std.specs.Ordering.{eq_by_cmp}
use Rattle.std.specs.Option.{option_map_or}
use Rattle.std.specs.Cmp.Lexicographic.{nat_list_cmp_total}
use Rattle.std.proofs.lemmas.Bool.{and_parts, and_from}
use Rattle.resin_base.specs.Contents.{byte_order}
use Rattle.resin_base.specs.TableStore.{TableStore, EachWhole, is_whole, rise_from, have_cells, table_of, with_rows, with_cells, without_number, rows_of, fits, largest_number, last_row_number, has_row, can_update, after_create, after_insert, after_update, after_delete}
use Rattle.resin_base.specs.declared.cell.Table.{Table}
use Rattle.resin_base.specs.declared.cell.Cell.{Cell}
use Rattle.resin_base.specs.declared.cell.Column.{Column}
use Rattle.resin_base.specs.declared.cell.Row.{Row}
use Rattle.resin_base.proofs.RowLists.{rise_less, rise_push, rise_map, rise_filter, cells_push, cells_map, cells_filter}

-- no table
pub whole-empty : (s : TableStore) → s ≡ empty → EachWhole s
whole-empty s is = λ name table e. let none : get s name ≡ None = ap (λ m. get m name) is ∙ get-empty byte_order name in cc

-- a whole table more
pub whole-insert : (s : TableStore) (name : List ℕ) (table : Table) → EachWhole s → is_whole table ≡ true → EachWhole (insert s name table)
whole-insert s name table each whole = λ q found e.
    let at = sym (get-insert nat_list_cmp_total s name table q) ∙ e in
    (elim (eq_by_cmp byte_order q name) as (λ b. cond b (Some table) (get s q) ≡ Some found → is_whole found ≡ true) [
      | true ↦ λ is. let same : table ≡ found = cc in ap is_whole (sym same) ∙ whole
      | false ↦ λ is. each q found is
    ]) at

-- other rows
pub whole-with_rows : (s : TableStore) (name : List ℕ) (change : List Row → List Row) → EachWhole s
    → ((table : Table) → get s name ≡ Some table → is_whole table ≡ true → is_whole (table_of table.columns (change table.rows)) ≡ true) → EachWhole (with_rows s name change)
whole-with_rows s name change each keeps =
    elim (get s name) as (λ o. get s name ≡ o → EachWhole (option_map_or (λ (t : Table). insert s name (table_of t.columns (change t.rows))) o s)) [
      | None ↦ λ e. each
      | Some table ↦ λ e. whole-insert s name _ each (keeps table e (each name table e))
    ] refl

-- the parts of a whole table
pub whole-parts : (table : Table) → is_whole table ≡ true → (rise_from 0 table.rows ≡ true) × (have_cells table.columns table.rows ≡ true)
whole-parts table whole = and_parts (rise_from 0 table.rows) (have_cells table.columns table.rows) whole

pub whole-create : (s : TableStore) (name : List ℕ) (columns : List Column) → EachWhole s → EachWhole (after_create s name columns)
whole-create s name columns each =
    elim (contains_key s name) as (λ b. EachWhole (cond b s (insert s name (table_of columns [])))) [
      | true ↦ each
      | false ↦ whole-insert s name (table_of columns []) each refl
    ]

fits-table : (s : TableStore) (name : List ℕ) (cells : List Cell) (table : Table) → get s name ≡ Some table → fits s name cells ≡ (length cells == length table.columns)
fits-table s name cells table e = rw e refl

rows-table : (s : TableStore) (name : List ℕ) (table : Table) → get s name ≡ Some table → rows_of s name ≡ table.rows
rows-table s name table e = rw e refl

pub whole-insert_row : (s : TableStore) (name : List ℕ) (cells : List Cell) → EachWhole s → EachWhole (after_insert s name cells)
whole-insert_row s name cells each =
    elim (fits s name cells && nat_lt (largest_number (rows_of s name)) last_row_number) as (λ b.
    (fits s name cells && nat_lt (largest_number (rows_of s name)) last_row_number) ≡ b
    → EachWhole (option_map_or (λ (number : ℕ). with_rows s name (λ rows. rows ++ record { number = number; cells = cells } ∷ [])) (cond b (Some (largest_number (rows_of s name) + 1)) None) s)) [
      | true ↦ λ can. whole-with_rows s name _ each (λ table e whole.
          let parts = whole-parts table whole in
          let number = largest_number (rows_of s name) + 1 in
          let row : Row = record { number = number; cells = cells } in
          let fit = sym (fits-table s name cells table e) ∙ (and_parts (fits s name cells) _ can).0 in
          and_from (rise_from 0 (table.rows ++ row ∷ [])) (have_cells table.columns (table.rows ++ row ∷ []))
          (rise_push 0 table.rows row parts.0 (omega (arith, ap largest_number (rows-table s name table e))) (omega arith))
          (cells_push table.columns table.rows row parts.1 fit))
      | false ↦ λ can. each
    ] refl

pub whole-update : (s : TableStore) (name : List ℕ) (number : ℕ) (cells : List Cell) → EachWhole s → EachWhole (after_update s name number cells)
whole-update s name number cells each =
    elim (can_update s name number cells) as (λ b. can_update s name number cells ≡ b → EachWhole (cond b (with_rows s name (map (with_cells number cells))) s)) [
      | true ↦ λ can. whole-with_rows s name _ each (λ table e whole.
          let parts = whole-parts table whole in
          let fit = sym (fits-table s name cells table e) ∙ (and_parts (fits s name cells) _ can).0 in
          and_from (rise_from 0 (map (with_cells number cells) table.rows)) (have_cells table.columns (map (with_cells number cells) table.rows))
          (rise_map 0 table.rows number cells parts.0) (cells_map table.columns table.rows number cells parts.1 fit))
      | false ↦ λ can. each
    ] refl

pub whole-delete : (s : TableStore) (name : List ℕ) (number : ℕ) → EachWhole s → EachWhole (after_delete s name number)
whole-delete s name number each =
    elim (has_row s name number) as (λ b. EachWhole (cond b (with_rows s name (without_number number)) s)) [
      | true ↦ whole-with_rows s name _ each (λ table e whole.
          let parts = whole-parts table whole in
          and_from (rise_from 0 (without_number number table.rows)) (have_cells table.columns (without_number number table.rows))
          (rise_filter 0 table.rows number parts.0) (cells_filter table.columns table.rows number parts.1))
      | false ↦ each
    ]

-- a put table is whole where its rows rise from 1 on and fit
pub whole-put : (s : TableStore) (name : List ℕ) (columns : List Column) (rows : List Row) → EachWhole s → rise_from 1 rows ≡ true → have_cells columns rows ≡ true
    → EachWhole (insert s name (table_of columns rows))
whole-put s name columns rows each rise have =
    whole-insert s name (table_of columns rows) each (and_from (rise_from 0 rows) (have_cells columns rows) (rise_less 0 1 rows (omega arith) rise) have)

-- tables stay whole in a call that keeps them so where it succeeds, and else leaves them
pub whole-call : {T E : Type 0} (r : Result T E) (old new after : TableStore) → OnOk r (new ≡ after) → OnErr r (new ≡ old) → EachWhole old → EachWhole after → EachWhole new
whole-call (Ok x) old new after ok err was is = rw ok is
whole-call (Err e) old new after ok err was is = rw err was
