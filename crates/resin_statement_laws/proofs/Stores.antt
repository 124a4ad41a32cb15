-- Stores that keepers hold stay whole; and what is known of the table that a statement works on.
use Rattle.std.proofs.Common.{◌≡◌, ℕ, ◌+◌, ◌<◌, ◌==◌, nat_lt, ◌&&◌, ◌||◌, Bool, true, false, cond, List, [], ◌∷◌, ◌++◌, length, map, Option, Some, None, is_some, refl, sym, ap, subst, ◌∙◌, arith}
use Rattle.std.specs.Prelude.{⊤}
use Rattle.std.specs.FinMap.{get, insert, get-insert}
use Rattle.std.specs.Ordering.{eq_by_cmp}
use Rattle.std.specs.Option.{option_map, option_map_or}
use Rattle.std.specs.Cmp.Lexicographic.{nat_list_cmp_total}
use Rattle.std.proofs.lemmas.Bool.{true≢false, and_parts, and_from, eq-eqb, eqb-true, ne_eqb}
use Rattle.resin_base.specs.Contents.{byte_order}
use Rattle.resin_base.specs.TableStore.{TableStore, table_of, EachWhole, is_whole, have_cells, rise_from, columns_of, rows_of, with_rows, fits, has_number, has_row, largest_number, last_row_number}
use Rattle.resin_base.specs.TableStore.{next_number, after_insert, can_update, with_cells, after_update, without_number, after_delete}
use Rattle.resin_base.specs.declared.cell.Cell.{Cell}
use Rattle.resin_base.specs.declared.cell.Column.{Column}
use Rattle.resin_base.specs.declared.cell.Row.{Row}
use Rattle.resin_base.specs.declared.cell.Table.{Table}
use Rattle.resin_base.proofs.RowLists.{rise_push, rise_map, rise_filter, cells_push, cells_map, cells_filter}
use Rattle.resin_store.specs.Cells.{LabelledCell}
use Rattle.resin_meaning_forms.specs.Under.meaning_tables.Under.rows.Columns.{paired, shape}
use Rattle.resin_frame.specs.LabelledTables.{LabelledRow, plain_cells, plain_row, plain_table, lift_row, lifted_table, lift_tables}
use Rattle.resin_frame.specs.Rows.{AreSet, AreWithout, ends, gone, stays, IsUpdated, IsDeleted}
use Rattle.resin_frame.proofs.LabelledTables.{keeps_tables}
use Rattle.resin_frame.proofs.Rows.{insert_keeps, update_keeps, delete_keeps}
use Rattle.resin_statement_laws.specs.Calls.{columns_shown, AreRead, AreReadAt}
use Rattle.resin_statement_laws.proofs.Calls.{whole_at, have_at, rise_of, shape_back, length-plain, length-paired, lift_whole, number_fits, update_fits, shows_columns}
use Rattle.resin_statement_laws.proofs.Cells.{EachRead, read_all, read_length, lifted_read}

-- ---- whole stores

pub whole_insert : (s : TableStore) (name : List ℕ) (table : Table) → EachWhole s → is_whole table ≡ true → EachWhole (insert s name table)
whole_insert s name table whole w other t e = by (eq_by_cmp byte_order other name) (sym (get-insert nat_list_cmp_total s name table other) ∙ e)
  where
    by : (b : Bool) → cond b (Some table) (get s other) ≡ Some t → is_whole t ≡ true
    by true f = let same : table ≡ t = cc in subst (λ (x : Table). is_whole x ≡ true) same w
    by false f = whole other t f

whole_with : (s : TableStore) (name : List ℕ) (held : List Row → List Row) → EachWhole s
    → ((table : Table) → get s name ≡ Some table → is_whole (table_of table.columns (held table.rows)) ≡ true) → EachWhole (with_rows s name held)
whole_with s name held whole each = by (get s name) refl
  where
    by : (o : Option Table) → get s name ≡ o → EachWhole (option_map_or (λ (table : Table). insert s name (table_of table.columns (held table.rows))) o s)
    by None e = whole
    by (Some table) e = whole_insert s name (table_of table.columns (held table.rows)) whole (each table e)

told_number : (b : Bool) (large number : ℕ) → cond b (Some (large + 1)) None ≡ Some number → number ≡ large + 1
told_number true large number e = let same : large + 1 ≡ number = cc in sym same
told_number false large number e = absurd (let none : is_some (Some number) ≡ false = ap is_some (sym e) in true≢false none)

pub number_is : (s : TableStore) (name : List ℕ) (cells : List Cell) (number : ℕ) → next_number s name cells ≡ Some number → number ≡ largest_number (rows_of s name) + 1
number_is s name cells number e = told_number (fits s name cells && nat_lt (largest_number (rows_of s name)) last_row_number) (largest_number (rows_of s name)) number e

pub whole_after_insert : (s : TableStore) (name : List ℕ) (cells : List Cell) → EachWhole s → EachWhole (after_insert s name cells)
whole_after_insert s name cells whole = by (next_number s name cells) refl
  where
    each : (number : ℕ) → next_number s name cells ≡ Some number → (table : Table) → get s name ≡ Some table
        → is_whole (table_of table.columns (table.rows ++ record { number = number; cells = cells } ∷ [])) ≡ true
    each number e table there =
        let w = whole_at s name table whole there in
        let row : Row = record { number = number; cells = cells } in
        let large : number ≡ largest_number table.rows + 1
        = number_is s name cells number e ∙ ap (λ o. largest_number (option_map_or (λ (t : Table). t.rows) o []) + 1) there in
        and_from (rise_from 0 (table.rows ++ row ∷ [])) (have_cells table.columns (table.rows ++ row ∷ [])) (rise_push 0 table.rows row (rise_of table w) (omega (arith, large)) (omega arith))
        (cells_push table.columns table.rows row (have_at table w) (number_fits s name table cells number there e))

    by : (o : Option ℕ) → next_number s name cells ≡ o
        → EachWhole (option_map_or (λ (number : ℕ). with_rows s name (λ rows. rows ++ record { number = number; cells = cells } ∷ [])) o s)
    by None e = whole
    by (Some number) e = whole_with s name (λ rows. rows ++ record { number = number; cells = cells } ∷ []) whole (each number e)

pub whole_after_update : (s : TableStore) (name : List ℕ) (number : ℕ) (cells : List Cell) → EachWhole s → EachWhole (after_update s name number cells)
whole_after_update s name number cells whole = by (can_update s name number cells) refl
  where
    by : (b : Bool) → can_update s name number cells ≡ b → EachWhole (cond b (with_rows s name (map (with_cells number cells))) s)
    by false e = whole
    by true e = whole_with s name (map (with_cells number cells)) whole (λ table there.
        let w = whole_at s name table whole there in
        and_from (rise_from 0 (map (with_cells number cells) table.rows)) (have_cells table.columns (map (with_cells number cells) table.rows)) (rise_map 0 table.rows number cells (rise_of table w))
        (cells_map table.columns table.rows number cells (have_at table w) (update_fits s name table number cells there e)))

pub whole_after_delete : (s : TableStore) (name : List ℕ) (number : ℕ) → EachWhole s → EachWhole (after_delete s name number)
whole_after_delete s name number whole = by (has_row s name number)
  where
    by : (b : Bool) → EachWhole (cond b (with_rows s name (without_number number)) s)
    by false = whole
    by true = whole_with s name (without_number number) whole (λ table there.
        let w = whole_at s name table whole there in
        and_from (rise_from 0 (without_number number table.rows)) (have_cells table.columns (without_number number table.rows)) (rise_filter 0 table.rows number (rise_of table w)) (cells_filter table.columns table.rows number (have_at table w)))

-- ---- the table of a statement, as its columns and rows are asked for

abbrev pub RowsRead : List Column → List LabelledRow → Type 0
RowsRead columns [] = ⊤
RowsRead columns (row ∷ rows) = EachRead columns row.cells × RowsRead columns rows

pub record Stands (s : TableStore) (name : List ℕ) (columns : List Column) (rows : List LabelledRow) : Type 0 where
  pub whole : EachWhole s
  pub there : get s name ≡ Some (table_of (paired columns) (map plain_row rows))
  pub is : shape (paired columns) ≡ Some columns
  pub read : RowsRead columns rows
  pub rise : rise_from 0 (map plain_row rows) ≡ true

rows_read : (kept columns : List Column) (rows : List Row) → paired columns ≡ kept → have_cells kept rows ≡ true → RowsRead columns (map (lift_row columns) rows)
rows_read kept columns [] same have = tt
rows_read kept columns (row ∷ rows) same have =
    let parts = and_parts (length row.cells == length kept) (have_cells kept rows) have in
    (lifted_read columns row.cells (eqb-true _ _ parts.0 ∙ ap length (sym same)), rows_read kept columns rows same parts.1)

pub stands : (s : TableStore) (name : List ℕ) (table : Table) (columns : List Column) → EachWhole s → get s name ≡ Some table → shape table.columns ≡ Some columns
    → Stands s name columns (map (lift_row columns) table.rows)
stands s name table columns whole there is =
    let w = whole_at s name table whole there in
    let same : paired columns ≡ table.columns = shape_back table.columns columns is in
    let held : table_of (paired columns) (map plain_row (map (lift_row columns) table.rows)) ≡ table
    = sym (ap plain_table (lift_whole table w ∙ ap (lifted_table table) is)) ∙ keeps_tables table in
    record {
      whole = whole;
      there = there ∙ ap (λ (t : Table). let o : Option Table = Some t in o) (sym held);
      is = ap shape same ∙ is;
      read = rows_read table.columns columns table.rows same (have_at table w);
      rise = ap (λ (t : Table). rise_from 0 t.rows) held ∙ rise_of table w;
    }

-- what is known of it while rows are changed
pub record AtWork (s : TableStore) (name : List ℕ) (columns : List Column) : Type 0 where
  pub whole : EachWhole s
  pub kept : columns_of s name ≡ Some (paired columns)
  pub is : shape (paired columns) ≡ Some columns

pub at_work : {s : TableStore} {name : List ℕ} {columns : List Column} {rows : List LabelledRow} → Stands s name columns rows → AtWork s name columns
at_work st = record { whole = st.whole; kept = ap (option_map (λ (table : Table). table.columns)) st.there; is = st.is }

pub stood_rows : {s : TableStore} {name : List ℕ} {columns : List Column} {rows : List LabelledRow} → Stands s name columns rows → rows_of s name ≡ map plain_row rows
stood_rows st = ap (λ o. option_map_or (λ (table : Table). table.rows) o []) st.there

pub read_there : (s : TableStore) (name : List ℕ) (columns : List Column) (cells : List LabelledCell) → AtWork s name columns → EachRead columns cells
    → AreReadAt (lift_tables s) name cells
read_there s name columns cells w r cs shown len =
    let here : columns_shown (lift_tables s) name ≡ Some columns
    = shows_columns s w.whole name ∙ ap (λ o. option_map_or shape o None) w.kept ∙ w.is in
    let same : Some columns ≡ Some cs = sym here ∙ shown in
    let equal : columns ≡ cs = cc in
    subst (λ (c : List Column). AreRead c cells) equal (read_all columns cells r)

pub fits_there : (s : TableStore) (name : List ℕ) (columns : List Column) (cells : List LabelledCell) → AtWork s name columns → EachRead columns cells
    → fits s name (plain_cells cells) ≡ true
fits_there s name columns cells w r =
    ap (λ o. option_map_or (λ (cs : List Column). length (plain_cells cells) == length cs) o false) w.kept
    ∙ eq-eqb _ _ (omega (arith, length-plain cells, length-paired columns, read_length columns cells r))

-- ---- while rows are changed

pub work_inserted : (s : TableStore) (name : List ℕ) (columns : List Column) (cells : List Cell) → AtWork s name columns → AtWork (after_insert s name cells) name columns
work_inserted s name columns cells w = record {
  whole = whole_after_insert s name cells w.whole;
  kept = (insert_keeps s name cells).columns ∙ w.kept;
  is = w.is;
}

pub work_updated : (s : TableStore) (name : List ℕ) (columns : List Column) (number : ℕ) (cells : List Cell) → AtWork s name columns → AtWork (after_update s name number cells) name columns
work_updated s name columns number cells w = record {
  whole = whole_after_update s name number cells w.whole;
  kept = (update_keeps s name number cells).columns ∙ w.kept;
  is = w.is;
}

pub work_deleted : (s : TableStore) (name : List ℕ) (columns : List Column) (number : ℕ) → AtWork s name columns → AtWork (after_delete s name number) name columns
work_deleted s name columns number w = record {
  whole = whole_after_delete s name number w.whole;
  kept = (delete_keeps s name number).columns ∙ w.kept;
  is = w.is;
}

set_numbers : (number : ℕ) (cells : List Cell) (rows afters : List Row) (n : ℕ) → AreSet number cells rows afters → has_number afters n ≡ has_number rows n
set_numbers number cells [] [] n h = refl
set_numbers number cells [] (a ∷ afters) n h = elim h [ ]
set_numbers number cells (r ∷ rows) [] n h = elim h [ ]
set_numbers number cells (r ∷ rows) (a ∷ afters) n h =
    ap (λ m. (m == n) || has_number afters n) h.0.number_stays ∙ ap (λ b. (r.number == n) || b) (set_numbers number cells rows afters n h.1)

pub updated_numbers : (s : TableStore) (name : List ℕ) (number : ℕ) (cells : List Cell) (n : ℕ) → has_row (after_update s name number cells) name n ≡ has_row s name n
updated_numbers s name number cells n = by (can_update s name number cells) (update_keeps s name number cells)
  where
    by : (made : Bool) → IsUpdated s name number cells made (after_update s name number cells) → has_row (after_update s name number cells) name n ≡ has_row s name n
    by true k = set_numbers number cells (rows_of s name) (rows_of (after_update s name number cells) name) n (k.rows refl)
    by false k = ap (λ x. has_row x name n) (k.refused refl)

without_numbers : {number : ℕ} {rows left : List Row} (n : ℕ) → (n ≡ number → ⊥) → AreWithout number rows left → has_number left n ≡ has_number rows n
without_numbers n other ends = refl
without_numbers n other (gone {row = row} {rows = rows} is w) =
    without_numbers n other w ∙ sym (ap (λ b. b || has_number rows n) (ne_eqb row.number n (λ e. other (sym e ∙ is))))
without_numbers n other (stays {row = row} not w) = ap (λ b. (row.number == n) || b) (without_numbers n other w)

pub deleted_numbers : (s : TableStore) (name : List ℕ) (number n : ℕ) → (n ≡ number → ⊥) → has_row (after_delete s name number) name n ≡ has_row s name n
deleted_numbers s name number n other = by (has_row s name number) (delete_keeps s name number)
  where
    by : (made : Bool) → IsDeleted s name number made (after_delete s name number) → has_row (after_delete s name number) name n ≡ has_row s name n
    by true k = without_numbers n other (k.rows refl)
    by false k = ap (λ x. has_row x name n) (k.refused refl)

largest_push : (rows : List Row) (row : Row) → largest_number rows < row.number → largest_number (rows ++ row ∷ []) ≡ row.number
largest_push [] row h = omega arith
largest_push (r ∷ rows) row h = omega (arith, largest_push rows row (omega arith))

pub inserted_largest : (s : TableStore) (name : List ℕ) (cells : List Cell) (number : ℕ) → next_number s name cells ≡ Some number
    → largest_number (rows_of (after_insert s name cells) name) ≡ largest_number (rows_of s name) + 1
inserted_largest s name cells number e =
    ap largest_number ((insert_keeps s name cells).rows number e)
    ∙ largest_push (rows_of s name) (record { number = number; cells = cells }) (omega (arith, number_is s name cells number e))
    ∙ number_is s name cells number e
