-- What keeper calls leave, as tables whose cells carry their policies.
use Rattle.std.proofs.Common.{◌≡◌, ℕ, ◌+◌, ◌*◌, ◌==◌, nat_lt, ◌&&◌, not, Bool, true, false, cond, List, [], ◌∷◌, ◌++◌, length, map, Option, Some, None, is_some, refl, sym, ap, ◌∙◌, arith}
use Rattle.std.specs.FinMap.{get, insert, contains_key, nat_cmp-IsAntisymmetric, slice_cmp-IsAntisymmetric}
use Rattle.std.specs.Option.{option_map, option_map_or}
use Rattle.std.specs.Cmp.Lexicographic.{nat_list_cmp_total}
use Rattle.std.proofs.lemmas.Bool.{true≢false, and_parts, eqb-true}
use Rattle.std.proofs.lemmas.Slice.Eq.{bytes_eq-Decides}
use Rattle.resin_base.specs.Contents.{byte_order}
use Rattle.resin_base.specs.TableStore.{TableStore, table_of, EachWhole, is_whole, have_cells, rise_from, with_rows, next_number, can_update, has_row, without_number, with_cells}
use Rattle.resin_base.specs.TableStore.{largest_number, last_row_number}
use Rattle.resin_base.specs.declared.cell.Cell.{Cell}
use Rattle.resin_base.specs.declared.cell.Column.{Column}
use Rattle.resin_base.specs.declared.cell.Row.{Row}
use Rattle.resin_base.specs.declared.cell.Table.{Table}
use Rattle.resin_base.proofs.RowLists.{cells_push, cells_map, cells_filter}
use Rattle.resin_store.specs.Cells.{LabelledCell}
use Rattle.resin_store.proofs.Maps.{get-mapped, contains-mapped, mapped-insert}
use Rattle.resin_meaning_forms.specs.Under.meaning_tables.Under.rows.Columns.{names_of, is_repeated, shadow_name, shadow_of, paired, is_shadow_of, unpaired, shape}
use Rattle.resin_frame.specs.LabelledTables.{LabelledRow, LabelledTable, Rows, Odd, LabelledTables, plain_cells, plain_row, plain_table, plain_tables, lift_row, lifted_table, lift_table, lift_tables}
use Rattle.resin_frame.proofs.LabelledTables.{keeps_tables, keeps_table_stores}
use Rattle.resin_statement_laws.specs.Calls.{columns_in, rows_in, columns_shown, number_given, can_set, can_take, changed_table, with_changed, new_table, made, row_of, put_last, with_labelled, set_cells, others_than, taken_out}
use Rattle.resin_statement_laws.specs.Calls.{AreRead, AreReadAt, Holds, ShowsColumns, ShowsRows, Makes, PutsLast, SetsCells, TakesOut}

-- ---- what stands at a name

pub lift_get : (s : TableStore) (name : List ℕ) → get (lift_tables s) name ≡ option_map lift_table (get s name)
lift_get s name = get-mapped byte_order lift_table s name

pub lift_insert : (s : TableStore) (name : List ℕ) (table : Table) → lift_tables (insert s name table) ≡ insert (lift_tables s) name (lift_table table)
lift_insert s name table = mapped-insert byte_order lift_table nat_list_cmp_total (slice_cmp-IsAntisymmetric nat_cmp-IsAntisymmetric) s name table

pub holds_of : (t : TableStore) (after : LabelledTables) → lift_tables t ≡ after → Holds t after
holds_of t after e = record { lifted = e; held = ap plain_tables (sym e) ∙ keeps_table_stores t }

-- a table that stands in a store is whole
pub whole_at : (s : TableStore) (name : List ℕ) (table : Table) → EachWhole s → get s name ≡ Some table → is_whole table ≡ true
whole_at s name table whole e = whole name table e

pub have_at : (table : Table) → is_whole table ≡ true → have_cells table.columns table.rows ≡ true
have_at table whole = (and_parts (rise_from 0 table.rows) (have_cells table.columns table.rows) whole).1

pub rise_of : (table : Table) → is_whole table ≡ true → rise_from 0 table.rows ≡ true
rise_of table whole = (and_parts (rise_from 0 table.rows) (have_cells table.columns table.rows) whole).0

-- ---- columns

pub shape_back : (kept columns : List Column) → shape kept ≡ Some columns → paired columns ≡ kept
shape_back kept columns e =
    ap (λ (t : Table). t.columns) (sym (ap (λ o. plain_table (lifted_table (table_of kept []) o)) e) ∙ keeps_tables (table_of kept []))

unpaired_paired : (columns : List Column) → unpaired (paired columns) ≡ Some columns
unpaired_paired [] = refl
unpaired_paired (column ∷ columns) =
    let same : is_shadow_of column (shadow_of column) ≡ true
    = ap (λ b. b && true) ((bytes_eq-Decides (shadow_name column.name) (shadow_name column.name)).1 refl) in
    ap (λ b. cond b (option_map (λ cs. column ∷ cs) (unpaired (paired columns))) None) same
    ∙ ap (option_map (λ (cs : List Column). column ∷ cs)) (unpaired_paired columns)

new_lifted : (columns : List Column) → lift_table (table_of (paired columns) []) ≡ new_table columns
new_lifted [] = refl
new_lifted (column ∷ columns) = by (is_repeated (names_of (paired (column ∷ columns))))
  where
    empty : Table
    empty = table_of (paired (column ∷ columns)) []

    by : (b : Bool) → lifted_table (table_of (paired (column ∷ columns)) []) (cond b None (unpaired (paired (column ∷ columns)))) ≡ cond (not b) (Rows (column ∷ columns) []) (Odd (table_of (paired (column ∷ columns)) []))
    by true = refl
    by false = ap (lifted_table (table_of (paired (column ∷ columns)) [])) (unpaired_paired (column ∷ columns))

pub length-paired : (columns : List Column) → length (paired columns) ≡ 2 * length columns
length-paired [] = refl
length-paired (column ∷ columns) = omega (arith, length-paired columns)

pub length-plain : (cells : List LabelledCell) → length (plain_cells cells) ≡ 2 * length cells
length-plain [] = refl
length-plain (c ∷ cells) = omega (arith, length-plain cells)

-- ---- what is shown

pub lift_whole : (table : Table) → is_whole table ≡ true → lift_table table ≡ lifted_table table (shape table.columns)
lift_whole table whole = ap (λ b. cond b (lifted_table table (shape table.columns)) (Odd table)) (have_at table whole)

columns_of_lifted : (table : Table) (o : Option (List Column)) → columns_in (Some (lifted_table table o)) ≡ o
columns_of_lifted table None = refl
columns_of_lifted table (Some columns) = refl

pub shows_columns : ShowsColumns
shows_columns s whole name = ap columns_in (lift_get s name) ∙ by (get s name) refl
  where
    by : (o : Option Table) → get s name ≡ o → columns_in (option_map lift_table o) ≡ option_map_or shape (option_map (λ (table : Table). table.columns) o) None
    by None e = refl
    by (Some table) e = ap (λ t. columns_in (Some t)) (lift_whole table (whole_at s name table whole e)) ∙ columns_of_lifted table (shape table.columns)

pub shows_rows : ShowsRows
shows_rows s name columns shown = by (get s name) (sym (ap columns_in (lift_get s name)) ∙ shown) ∙ sym (ap (λ o. map plain_row (rows_in o)) (lift_get s name))
  where
    rows_same : (table : Table) (t : LabelledTable) → plain_table t ≡ table → columns_in (Some t) ≡ Some columns → table.rows ≡ map plain_row (rows_in (Some t))
    rows_same table (Rows cs rows) e f = ap (λ (x : Table). x.rows) (sym e)
    rows_same table (Odd x) e f = absurd (let none : None ≡ Some columns = f in cc)

    by : (o : Option Table) → columns_in (option_map lift_table o) ≡ Some columns
        → option_map_or (λ (table : Table). table.rows) o [] ≡ map plain_row (rows_in (option_map lift_table o))
    by None e = refl
    by (Some table) e = rows_same table (lift_table table) (keeps_tables table) e

-- ---- create

pub makes : Makes
makes s name columns = (sym same, holds_of _ _ (by (contains_key s name) refl))
  where
    same : contains_key (lift_tables s) name ≡ contains_key s name
    same = contains-mapped byte_order lift_table s name

    by : (b : Bool) → contains_key s name ≡ b → lift_tables (cond b s (insert s name (table_of (paired columns) []))) ≡ made (lift_tables s) name columns
    by true e = sym (ap (λ b. cond b (lift_tables s) (insert (lift_tables s) name (new_table columns))) (same ∙ e))
    by false e =
        lift_insert s name (table_of (paired columns) []) ∙ ap (insert (lift_tables s) name) (new_lifted columns)
        ∙ sym (ap (λ b. cond b (lift_tables s) (insert (lift_tables s) name (new_table columns))) (same ∙ e))

-- ---- other rows in a table

lifted_change : (table : Table) (change : List LabelledRow → List LabelledRow) (held : List Row → List Row) → have_cells table.columns table.rows ≡ true
    → have_cells table.columns (held table.rows) ≡ true
    → ((columns : List Column) → shape table.columns ≡ Some columns → map (lift_row columns) (held table.rows) ≡ change (map (lift_row columns) table.rows))
    → lift_table (table_of table.columns (held table.rows)) ≡ changed_table change held (lift_table table)
lifted_change table change held had have same =
    ap (λ b. cond b (lifted_table (table_of table.columns (held table.rows)) (shape table.columns)) (Odd (table_of table.columns (held table.rows)))) have
    ∙ by (shape table.columns) refl
    ∙ sym (ap (λ b. changed_table change held (cond b (lifted_table table (shape table.columns)) (Odd table))) had)
  where
    by : (o : Option (List Column)) → shape table.columns ≡ o
        → lifted_table (table_of table.columns (held table.rows)) o ≡ changed_table change held (lifted_table table o)
    by None e = refl
    by (Some columns) e = ap (Rows columns) (same columns e)

-- the store by what stands at the name
abbrev rows_set : TableStore → List ℕ → (List Row → List Row) → Option Table → TableStore
rows_set s name held o = option_map_or (λ (table : Table). insert s name (table_of table.columns (held table.rows))) o s

abbrev labelled_set : LabelledTables → List ℕ → (List LabelledRow → List LabelledRow) → (List Row → List Row) → Option LabelledTable → LabelledTables
labelled_set s name change held o = option_map_or (λ (table : LabelledTable). insert s name (changed_table change held table)) o s

lifted_with : (s : TableStore) (name : List ℕ) (change : List LabelledRow → List LabelledRow) (held : List Row → List Row)
    → ((table : Table) → get s name ≡ Some table → lift_table (table_of table.columns (held table.rows)) ≡ changed_table change held (lift_table table))
    → lift_tables (with_rows s name held) ≡ with_changed (lift_tables s) name change held
lifted_with s name change held each = by (get s name) refl
  where
    by : (o : Option Table) → get s name ≡ o → lift_tables (rows_set s name held o) ≡ labelled_set (lift_tables s) name change held (get (lift_tables s) name)
    by None e = sym (ap (labelled_set (lift_tables s) name change held) (lift_get s name ∙ ap (option_map lift_table) e))
    by (Some table) e =
        lift_insert s name (table_of table.columns (held table.rows)) ∙ ap (insert (lift_tables s) name) (each table e)
        ∙ sym (ap (labelled_set (lift_tables s) name change held) (lift_get s name ∙ ap (option_map lift_table) e))

-- cells that fit a table are read by its columns as they are
read_at : (s : TableStore) (name : List ℕ) (table : Table) (columns : List Column) (cells : List LabelledCell) → EachWhole s → get s name ≡ Some table
    → shape table.columns ≡ Some columns → (length (plain_cells cells) == length table.columns) ≡ true → AreReadAt (lift_tables s) name cells → AreRead columns cells
read_at s name table columns cells whole there is fit read =
    let shown : columns_shown (lift_tables s) name ≡ Some columns
    = ap columns_in (lift_get s name) ∙ ap (λ o. columns_in (option_map lift_table o)) there
    ∙ ap (λ t. columns_in (Some t)) (lift_whole table (whole_at s name table whole there)) ∙ columns_of_lifted table (shape table.columns) ∙ is in
    let wide : length table.columns ≡ 2 * length columns = ap length (sym (shape_back table.columns columns is)) ∙ length-paired columns in
    let long : length (plain_cells cells) ≡ length table.columns = eqb-true _ _ fit in
    read columns shown (omega (arith, wide, long, length-plain cells))

-- ---- insert

map-push : {A B : Type 0} (f : A → B) (xs : List A) (x : A) → map f (xs ++ x ∷ []) ≡ map f xs ++ f x ∷ []
map-push f [] x = refl
map-push f (y ∷ xs) x = ap (λ ys. f y ∷ ys) (map-push f xs x)

-- the definitions of an insert, over what stands at its name
abbrev pub held_rows : Option Table → List Row
held_rows o = option_map_or (λ (table : Table). table.rows) o []

abbrev pub fits_in : Option Table → List Cell → Bool
fits_in o cells =
    option_map_or (λ (columns : List Column). length cells == length columns) (option_map (λ (table : Table). table.columns) o) false

abbrev pub next_in : Option Table → List Cell → Option ℕ
next_in o cells = cond (fits_in o cells && nat_lt (largest_number (held_rows o)) last_row_number) (Some (largest_number (held_rows o) + 1)) None

-- where a number is told, the cells fit
told_fits : (b c : Bool) (n number : ℕ) → cond (b && c) (Some n) None ≡ Some number → b ≡ true
told_fits true c n number e = refl
told_fits false c n number e = absurd (let none : is_some (Some number) ≡ false = ap is_some (sym e) in true≢false none)

pub number_fits : (s : TableStore) (name : List ℕ) (table : Table) (cells : List Cell) (number : ℕ) → get s name ≡ Some table → next_number s name cells ≡ Some number
    → (length cells == length table.columns) ≡ true
number_fits s name table cells number there e =
    told_fits (fits_in (Some table) cells) (nat_lt (largest_number table.rows) last_row_number) (largest_number table.rows + 1) number
    (sym (ap (λ o. next_in o cells) there) ∙ e)

pub puts_last : PutsLast
puts_last s whole name cells read = (same, holds_of _ _ (by (next_number s name (plain_cells cells)) refl))
  where
    same : next_number s name (plain_cells cells) ≡ number_given (lift_tables s) name cells
    same = ap (λ x. next_number x name (plain_cells cells)) (sym (keeps_table_stores s))

    held : ℕ → List Row → List Row
    held number rows = rows ++ plain_row (row_of number cells) ∷ []

    change : ℕ → List LabelledRow → List LabelledRow
    change number rows = rows ++ row_of number cells ∷ []

    each : (number : ℕ) → next_number s name (plain_cells cells) ≡ Some number → (table : Table) → get s name ≡ Some table
        → lift_table (table_of table.columns (held number table.rows)) ≡ changed_table (change number) (held number) (lift_table table)
    each number e table there =
        let had = have_at table (whole_at s name table whole there) in
        let fit = number_fits s name table (plain_cells cells) number there e in
        lifted_change table (change number) (held number) had (cells_push table.columns table.rows (plain_row (row_of number cells)) had fit)
        (λ columns is. map-push (lift_row columns) table.rows (plain_row (row_of number cells))
        ∙ ap (λ cs. map (lift_row columns) table.rows ++ row_of number cs ∷ []) (read_at s name table columns cells whole there is fit read))

    by : (told : Option ℕ) → next_number s name (plain_cells cells) ≡ told
        → lift_tables (option_map_or (λ (number : ℕ). with_rows s name (held number)) told s) ≡ put_last (lift_tables s) name cells
    by None e =
        sym (ap (λ o. option_map_or (λ (number : ℕ). with_changed (lift_tables s) name (change number) (held number)) o (lift_tables s)) (sym same ∙ e))
    by (Some number) e =
        lifted_with s name (change number) (held number) (each number e)
        ∙ sym (ap (λ o. option_map_or (λ (n : ℕ). with_changed (lift_tables s) name (change n) (held n)) o (lift_tables s)) (sym same ∙ e))

-- ---- update

pub update_fits : (s : TableStore) (name : List ℕ) (table : Table) (number : ℕ) (cells : List Cell) → get s name ≡ Some table → can_update s name number cells ≡ true
    → (length cells == length table.columns) ≡ true
update_fits s name table number cells there e = sym (ap (λ o. fits_in o cells) there) ∙ (and_parts (fits_in (get s name) cells) (has_row s name number) e).0

pub map_set : (columns : List Column) (number : ℕ) (cells : List LabelledCell) (rows : List Row) → AreRead columns cells
    → map (lift_row columns) (map (with_cells number (plain_cells cells)) rows) ≡ map (with_labelled number cells) (map (lift_row columns) rows)
map_set columns number cells [] read = refl
map_set columns number cells (row ∷ rows) read = by (row.number == number) ∙ ap (λ rs. with_labelled number cells (lift_row columns row) ∷ rs) (map_set columns number cells rows read)
  where
    by : (b : Bool) → lift_row columns (cond b (record { number = row.number; cells = plain_cells cells }) row) ∷ map (lift_row columns) (map (with_cells number (plain_cells cells)) rows)
        ≡ cond b (row_of row.number cells) (lift_row columns row) ∷ map (lift_row columns) (map (with_cells number (plain_cells cells)) rows)
    by true = ap (λ cs. row_of row.number cs ∷ map (lift_row columns) (map (with_cells number (plain_cells cells)) rows)) read
    by false = refl

pub sets_cells : SetsCells
sets_cells s whole name number cells read = (same, holds_of _ _ (by (can_update s name number (plain_cells cells)) refl))
  where
    same : can_update s name number (plain_cells cells) ≡ can_set (lift_tables s) name number cells
    same = ap (λ x. can_update x name number (plain_cells cells)) (sym (keeps_table_stores s))

    each : can_update s name number (plain_cells cells) ≡ true → (table : Table) → get s name ≡ Some table
        → lift_table (table_of table.columns (map (with_cells number (plain_cells cells)) table.rows))
        ≡ changed_table (map (with_labelled number cells)) (map (with_cells number (plain_cells cells))) (lift_table table)
    each e table there =
        let had = have_at table (whole_at s name table whole there) in
        let fit = update_fits s name table number (plain_cells cells) there e in
        lifted_change table (map (with_labelled number cells)) (map (with_cells number (plain_cells cells))) had (cells_map table.columns table.rows number (plain_cells cells) had fit)
        (λ columns is. map_set columns number cells table.rows (read_at s name table columns cells whole there is fit read))

    by : (b : Bool) → can_update s name number (plain_cells cells) ≡ b
        → lift_tables (cond b (with_rows s name (map (with_cells number (plain_cells cells)))) s) ≡ set_cells (lift_tables s) name number cells
    by false e =
        sym (ap (λ b. cond b (with_changed (lift_tables s) name (map (with_labelled number cells)) (map (with_cells number (plain_cells cells)))) (lift_tables s)) (sym same ∙ e))
    by true e =
        lifted_with s name (map (with_labelled number cells)) (map (with_cells number (plain_cells cells))) (each e)
        ∙ sym (ap (λ b. cond b (with_changed (lift_tables s) name (map (with_labelled number cells)) (map (with_cells number (plain_cells cells)))) (lift_tables s)) (sym same ∙ e))

-- ---- delete

pub map_out : (columns : List Column) (number : ℕ) (rows : List Row) → map (lift_row columns) (without_number number rows) ≡ others_than number (map (lift_row columns) rows)
map_out columns number [] = refl
map_out columns number (row ∷ rows) = by (not (row.number == number)) (map_out columns number rows)
  where
    by : (b : Bool) → map (lift_row columns) (without_number number rows) ≡ others_than number (map (lift_row columns) rows)
        → map (lift_row columns) (cond b (row ∷ without_number number rows) (without_number number rows))
        ≡ cond b (lift_row columns row ∷ others_than number (map (lift_row columns) rows)) (others_than number (map (lift_row columns) rows))
    by true h = ap (λ rs. lift_row columns row ∷ rs) h
    by false h = h

pub takes_out : TakesOut
takes_out s whole name number = (same, holds_of _ _ (by (has_row s name number) refl))
  where
    same : has_row s name number ≡ can_take (lift_tables s) name number
    same = ap (λ x. has_row x name number) (sym (keeps_table_stores s))

    each : (table : Table) → get s name ≡ Some table
        → lift_table (table_of table.columns (without_number number table.rows)) ≡ changed_table (others_than number) (without_number number) (lift_table table)
    each table there =
        let had = have_at table (whole_at s name table whole there) in
        lifted_change table (others_than number) (without_number number) had (cells_filter table.columns table.rows number had) (λ columns is. map_out columns number table.rows)

    by : (b : Bool) → has_row s name number ≡ b → lift_tables (cond b (with_rows s name (without_number number)) s) ≡ taken_out (lift_tables s) name number
    by false e = sym (ap (λ b. cond b (with_changed (lift_tables s) name (others_than number) (without_number number)) (lift_tables s)) (sym same ∙ e))
    by true e =
        lifted_with s name (others_than number) (without_number number) each
        ∙ sym (ap (λ b. cond b (with_changed (lift_tables s) name (others_than number) (without_number number)) (lift_tables s)) (sym same ∙ e))
