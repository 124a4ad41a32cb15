-- Tables and their cells with policies: what a keeper holds of them, and what a read takes them for.
use Rattle.std.proofs.Common.{◌≡◌, ℕ, zero, suc, ◌+◌, ◌*◌, ◌==◌, ℤ, Bool, true, false, cond, List, [], ◌∷◌, length, map, Option, Some, None, refl, sym, ap, subst, ◌∙◌, arith}
use Rattle.std.specs.Prelude.{slice_get}
use Rattle.std.specs.Option.{option_map}
use Rattle.std.specs.Str.{bytes_eq}
use Rattle.std.specs.Cmp.Lexicographic.{nat_list_cmp_total}
use Rattle.std.specs.FinMap.{nat_cmp-IsAntisymmetric, slice_cmp-IsAntisymmetric}
use Rattle.std.proofs.lemmas.Bool.{false≢true, and_parts, eqb-true}
use Rattle.std.proofs.lemmas.Slice.Eq.{bytes_eq-Decides}
use Rattle.resin_meaning_forms.specs.Under.base.Contents.{byte_order}
use Rattle.resin_meaning_forms.specs.Under.base.FileStore.{entry_of}
use Rattle.resin_meaning_forms.specs.Under.base.TableStore.{table_of, rise_from, have_cells}
use Rattle.resin_meaning_forms.specs.Under.base.declared.cell.Cell.{Cell}
use Rattle.resin_meaning_forms.specs.Under.base.declared.cell.Cell.TheVariants as cell
use Rattle.resin_meaning_forms.specs.Under.base.declared.cell.Column.{Column}
use Rattle.resin_meaning_forms.specs.Under.base.declared.cell.Kind.{Kind}
use Rattle.resin_meaning_forms.specs.Under.base.declared.cell.Kind.TheVariants as kind
use Rattle.resin_meaning_forms.specs.Under.base.declared.cell.Row.{Row}
use Rattle.resin_meaning_forms.specs.Under.base.declared.cell.Table.{Table}
use Rattle.resin_meaning_forms.specs.Under.base.declared.files.Entry.{Entry}
use Rattle.resin_meaning_forms.specs.Under.base.declared.stored.StoredCell.{StoredCell}
use Rattle.resin_meaning_forms.specs.Under.meaning_tables.Under.rows.Cells.{fits, cell_at, value_at, shadow_at}
use Rattle.resin_meaning_forms.specs.Under.meaning_tables.Under.rows.Columns.{names_of, is_repeated, shadow_name, shadow_of, paired, is_text, is_shadow_of, unpaired, shape, found_from}
use Rattle.resin_meaning_forms.specs.Under.meaning_tables.Under.rows.Rows.{stored_at}
use Rattle.resin_meaning_forms.specs.Under.meaning_tables.Under.rows.declared.columns.Place.{Place}
use Rattle.resin_meaning_forms.specs.Under.store.Cells.{stored, one_byte, integer_with, lifted_text, lifted_integer, lifted_cell, lift_cell}
use Rattle.resin_meaning_forms.specs.Under.store.Entries.{Marked, plain_bytes, marks, LabelledEntry, Good, Bad, plain, lift}
use Rattle.resin_shadow.specs.Marks.{TextSet}
use Rattle.resin_store.proofs.CellLifts.{keeps_cells}
use Rattle.resin_store.proofs.Lifts.{keeps_entries}
use Rattle.resin_store.proofs.Maps.{mapped_back}
use Rattle.resin_frame.specs.LabelledTables.{Rows, Odd, plain_cells, plain_row, plain_table, lift_cells, lift_row, lifted_table, lift_table, entry_read, entry_in}
use Rattle.resin_frame.specs.LabelledTables.{KeepsTables, KeepsTableStores, LiftsOdd, ReadsCells}

-- ---- columns in pairs

text_kind : (k : Kind) → is_text k ≡ true → k ≡ kind.Text
text_kind kind.Text e = refl
text_kind kind.Integer e = absurd (false≢true e)

shadow_same : (column shadow : Column) → is_shadow_of column shadow ≡ true → shadow_of column ≡ shadow
shadow_same column shadow e =
    let parts = and_parts (bytes_eq shadow.name (shadow_name column.name)) (is_text shadow.kind) e in
    let name : shadow.name ≡ shadow_name column.name = (bytes_eq-Decides shadow.name (shadow_name column.name)).0 parts.0 in
    let text : shadow.kind ≡ kind.Text = text_kind shadow.kind parts.1 in
    ap (λ (n : List ℕ). let c : Column = record { name = n; kind = kind.Text } in c) (sym name)
    ∙ ap (λ (k : Kind). let c : Column = record { name = shadow.name; kind = k } in c) (sym text)

pair_back : (column shadow : Column) (rest columns : List Column) (b : Bool) (o : Option (List Column)) → is_shadow_of column shadow ≡ b
    → ((cs : List Column) → o ≡ Some cs → paired cs ≡ rest) → cond b (option_map (λ cs. column ∷ cs) o) None ≡ Some columns → paired columns ≡ column ∷ shadow ∷ rest
pair_back column shadow rest columns false o is back e = absurd (let n : None ≡ Some columns = e in cc)
pair_back column shadow rest columns true None is back e = absurd (let n : None ≡ Some columns = e in cc)
pair_back column shadow rest columns true (Some cs) is back e =
    let same : column ∷ cs ≡ columns = cc in
    ap paired (sym same) ∙ ap (λ s. column ∷ s ∷ paired cs) (shadow_same column shadow is) ∙ ap (λ cs. column ∷ shadow ∷ cs) (back cs refl)

unpaired_back : (kept columns : List Column) → unpaired kept ≡ Some columns → paired columns ≡ kept
unpaired_back [] columns e = let same : [] ≡ columns = cc in ap paired (sym same)
unpaired_back (column ∷ []) columns e = absurd (let n : None ≡ Some columns = e in cc)
unpaired_back (column ∷ shadow ∷ rest) columns e =
    pair_back column shadow rest columns (is_shadow_of column shadow) (unpaired rest) refl (λ cs f. unpaired_back rest cs f) e

shape_back : (kept columns : List Column) → shape kept ≡ Some columns → paired columns ≡ kept
shape_back [] columns e = absurd (let n : None ≡ Some columns = e in cc)
shape_back (column ∷ rest) columns e = by (is_repeated (names_of (column ∷ rest))) e
  where
    by : (b : Bool) → cond b None (unpaired (column ∷ rest)) ≡ Some columns → paired columns ≡ column ∷ rest
    by true f = absurd (let n : None ≡ Some columns = f in cc)
    by false f = unpaired_back (column ∷ rest) columns f

-- ---- what a keeper holds

cells_back : (columns : List Column) (cells : List Cell) → length cells ≡ length (paired columns) → plain_cells (lift_cells columns cells) ≡ cells
cells_back [] [] len = refl
cells_back [] (value ∷ cells) len = absurd (omega arith)
cells_back (column ∷ columns) [] len = absurd (omega arith)
cells_back (column ∷ columns) (value ∷ []) len = absurd (omega arith)
cells_back (column ∷ columns) (value ∷ shadow ∷ cells) len =
    ap (λ (held : StoredCell). held.value ∷ held.shadow ∷ plain_cells (lift_cells columns cells)) (keeps_cells column.kind (stored value shadow))
    ∙ ap (λ cs. value ∷ shadow ∷ cs) (cells_back columns cells (omega arith))

rows_back : (columns : List Column) (rows : List Row) → have_cells (paired columns) rows ≡ true → map plain_row (map (lift_row columns) rows) ≡ rows
rows_back columns [] have = refl
rows_back columns (row ∷ rows) have =
    let parts = and_parts (length row.cells == length (paired columns)) (have_cells (paired columns) rows) have in
    ap (λ (cells : List Cell). let r : Row = record { number = row.number; cells = cells } in r ∷ map plain_row (map (lift_row columns) rows))
    (cells_back columns row.cells (eqb-true _ _ parts.0))
    ∙ ap (λ rs. row ∷ rs) (rows_back columns rows parts.1)

pub keeps_tables : KeepsTables
keeps_tables table = by (have_cells table.columns table.rows) (shape table.columns) refl refl
  where
    by : (b : Bool) (o : Option (List Column)) → have_cells table.columns table.rows ≡ b → shape table.columns ≡ o
        → plain_table (cond b (lifted_table table o) (Odd table)) ≡ table
    by false o have is = refl
    by true None have is = refl
    by true (Some columns) have is =
        let same : paired columns ≡ table.columns = shape_back table.columns columns is in
        ap (table_of (paired columns)) (rows_back columns table.rows (subst (λ cs. have_cells cs table.rows ≡ true) (sym same) have))
        ∙ ap (λ cs. table_of cs table.rows) same

pub keeps_table_stores : KeepsTableStores
keeps_table_stores s = mapped_back byte_order nat_list_cmp_total (slice_cmp-IsAntisymmetric nat_cmp-IsAntisymmetric) lift_table plain_table keeps_tables s

rows_odd : (table : Table) (o : Option (List Column)) → lifted_table table o ≡ Odd table → o ≡ None
rows_odd table None e = refl
rows_odd table (Some columns) e = absurd (let odd : Rows columns (map (lift_row columns) table.rows) ≡ Odd table = e in cc)

pub lifts_odd : LiftsOdd
lifts_odd table whole = (λ e. rows_odd table (shape table.columns) (sym lifted ∙ e), λ e. lifted ∙ ap (lifted_table table) e)
  where
    lifted : lift_table table ≡ lifted_table table (shape table.columns)
    lifted = ap (λ b. cond b (lifted_table table (shape table.columns)) (Odd table)) (and_parts (rise_from 0 table.rows) (have_cells table.columns table.rows) whole).1

-- ---- what a read takes a cell for

-- what is answered of a cell in a column of this kind
abbrev answered : Kind → Cell → Cell → StoredCell
answered k value shadow = cond (fits k value) (stored value shadow) (stored cell.Null cell.Null)

abbrev head_of : List ℕ → ℕ
head_of [] = 0
head_of (b ∷ bytes) = b

-- marked bytes that are one byte
one_of : (d : Marked) → plain_bytes d ≡ 0 ∷ [] → (set : TextSet) × (d ≡ (0, set) ∷ [])
one_of [] e = absurd (let n = ap length e in omega (arith, n))
one_of (b ∷ []) e = (b.1, ap (λ n. (n, b.1) ∷ []) (ap head_of e))
one_of (b ∷ c ∷ d) e = absurd (let n = ap length e in omega (arith, n))

reads_text : (bytes shadow : List ℕ) (x : LabelledEntry) → lift (entry_of bytes shadow) ≡ x → Some x ≡ entry_in kind.Text (lifted_text bytes shadow x)
reads_text bytes shadow (Good d version) e = refl
reads_text bytes shadow (Bad b y) e =
    let same : entry_of b y ≡ entry_of bytes shadow = ap plain (sym e) ∙ keeps_entries (entry_of bytes shadow) in
    ap (λ (held : Entry). Some (Bad held.bytes held.shadow)) same

reads_integer : (n : ℤ) (shadow : List ℕ) (x : LabelledEntry) → lift (one_byte shadow) ≡ x → Some x ≡ entry_in kind.Integer (lifted_integer n shadow x)
reads_integer n shadow (Good d version) e =
    let same : plain (Good d version) ≡ one_byte shadow = ap plain (sym e) ∙ keeps_entries (one_byte shadow) in
    let one = one_of d (ap (λ (held : Entry). held.bytes) same) in
    subst (λ ds. Some (Good ds version) ≡ entry_in kind.Integer (integer_with n shadow (marks ds) version)) (sym one.1) refl
reads_integer n shadow (Bad b y) e =
    let same : entry_of b y ≡ one_byte shadow = ap plain (sym e) ∙ keeps_entries (one_byte shadow) in
    ap (λ (held : Entry). Some (Bad held.bytes held.shadow)) same

reads_cell : (k : Kind) (value shadow : Cell) → entry_read (answered k value shadow) ≡ entry_in k (lifted_cell k value shadow)
reads_cell kind.Text (cell.Text bytes) (cell.Text shadow) = reads_text bytes shadow (lift (entry_of bytes shadow)) refl
reads_cell kind.Text (cell.Text bytes) (cell.Int n) = refl
reads_cell kind.Text (cell.Text bytes) cell.Null = refl
reads_cell kind.Text (cell.Int n) (cell.Text shadow) = refl
reads_cell kind.Text (cell.Int n) (cell.Int m) = refl
reads_cell kind.Text (cell.Int n) cell.Null = refl
reads_cell kind.Text cell.Null (cell.Text []) = refl
reads_cell kind.Text cell.Null (cell.Text (b ∷ bytes)) = refl
reads_cell kind.Text cell.Null (cell.Int n) = refl
reads_cell kind.Text cell.Null cell.Null = refl
reads_cell kind.Integer (cell.Int n) (cell.Text shadow) = reads_integer n shadow (lift (one_byte shadow)) refl
reads_cell kind.Integer (cell.Int n) (cell.Int m) = refl
reads_cell kind.Integer (cell.Int n) cell.Null = refl
reads_cell kind.Integer (cell.Text bytes) (cell.Text shadow) = refl
reads_cell kind.Integer (cell.Text bytes) (cell.Int n) = refl
reads_cell kind.Integer (cell.Text bytes) cell.Null = refl
reads_cell kind.Integer cell.Null (cell.Text []) = refl
reads_cell kind.Integer cell.Null (cell.Text (b ∷ bytes)) = refl
reads_cell kind.Integer cell.Null (cell.Int n) = refl
reads_cell kind.Integer cell.Null cell.Null = refl

-- ---- the cell of a column

-- a column was found so many behind the place where the search began
record IsFound (at : ℕ) (columns : List Column) (place : Place) : Type 0 where
  behind : ℕ
  column : Column
  at_is : place.at ≡ at + behind
  kind_is : place.kind ≡ column.kind
  there : slice_get columns behind ≡ Some column

found_is : (at : ℕ) (columns : List Column) (name : List ℕ) (place : Place) → found_from at columns name ≡ Some place → IsFound at columns place
found_is at [] name place e = absurd (let n : None ≡ Some place = e in cc)
found_is at (column ∷ columns) name place e = by (bytes_eq column.name name) e (λ f. found_is (at + 1) columns name place f)
  where
    by : (b : Bool) → cond b (Some (record { at = at; kind = column.kind })) (found_from (at + 1) columns name) ≡ Some place
        → (found_from (at + 1) columns name ≡ Some place → IsFound (at + 1) columns place) → IsFound at (column ∷ columns) place
    by true f rest =
        let here : Place = record { at = at; kind = column.kind } in
        let same : here ≡ place = cc in
        record {
          behind = 0;
          column = column;
          at_is = ap (λ (p : Place). p.at) (sym same) ∙ omega arith;
          kind_is = ap (λ (p : Place). p.kind) (sym same);
          there = refl;
        }
    by false f rest =
        let r = rest f in
        record {
          behind = suc r.behind;
          column = r.column;
          at_is = r.at_is ∙ omega arith;
          kind_is = r.kind_is;
          there = r.there;
        }

lifted_at : (columns : List Column) (cells : List Cell) (i : ℕ) (column : Column) → length cells ≡ length (paired columns) → slice_get columns i ≡ Some column
    → slice_get (lift_cells columns cells) i ≡ Some (lift_cell column.kind (stored_at cells i))
lifted_at [] cells i column len e = absurd (let n : None ≡ Some column = e in cc)
lifted_at (c ∷ columns) [] i column len e = absurd (omega arith)
lifted_at (c ∷ columns) (value ∷ []) i column len e = absurd (omega arith)
lifted_at (c ∷ columns) (value ∷ shadow ∷ cells) zero column len e =
    let same : c ≡ column = cc in ap (λ (x : Column). Some (lift_cell x.kind (stored value shadow))) same
lifted_at (c ∷ columns) (value ∷ shadow ∷ cells) (suc i) column len e =
    let first : 2 * suc i ≡ suc (suc (2 * i)) = omega arith in
    let second : 2 * suc i + 1 ≡ suc (suc (2 * i + 1)) = omega arith in
    let all = value ∷ shadow ∷ cells in
    lifted_at columns cells i column (omega arith) e
    ∙ ap (λ v. Some (lift_cell column.kind (stored v (shadow_at cells i)))) (sym (ap (cell_at all) first))
    ∙ ap (λ s. Some (lift_cell column.kind (stored (value_at all (suc i)) s))) (sym (ap (cell_at all) second))

pub reads_cells : ReadsCells
reads_cells columns row name place len e =
    let f = found_is 0 columns name place e in
    let there : slice_get columns place.at ≡ Some f.column = ap (slice_get columns) (f.at_is ∙ omega arith) ∙ f.there in
    let held = stored_at row.cells place.at in
    ap (option_map (entry_in place.kind)) (lifted_at columns row.cells place.at f.column len there)
    ∙ ap (λ k. Some (entry_in place.kind (lift_cell k held))) (sym f.kind_is)
    ∙ ap Some (sym (reads_cell place.kind (value_at row.cells place.at) (shadow_at row.cells place.at)))
