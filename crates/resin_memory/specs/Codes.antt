-- By which numbers a proof tells apart what the implementations in memory hold.
use Rattle.std.specs.Prelude.{◌≡◌, ℕ, ℤ, List, refl, ◌⊎◌, Bool, true, false, Option, Some, None}
use Rattle.std.proofs.Common.{inl, inr}
use Rattle.std.specs.Coded.{Coded, code_by, coded×, coded⊎, coded_ℕ, coded_ℤ, coded_bool, coded_list, coded_option, Coded-set}
use base.Stored.{coded_via}
use mathlib.Core.HLevel.{Σ_prop_path}
use Rattle.std.specs.FinMap as map
use Rattle.resin_base.specs.FileStore.{FileStore}
use Rattle.resin_memory.specs.Fakes.{FakedSource, FakedSink, FakedFiles, FakedTables, KeptTables}
use Rattle.resin_base.specs.TableStore.{TableStore, EachWhole}
use Rattle.resin_base.specs.declared.cell.Cell.{Cell}
use Rattle.resin_base.specs.declared.cell.Cell.TheVariants.{Null, Int, Text as CellText}
use Rattle.resin_base.specs.declared.cell.Column.{Column}
use Rattle.resin_base.specs.declared.cell.Kind.{Kind}
use Rattle.resin_base.specs.declared.cell.Kind.TheVariants.{Integer, Text}
use Rattle.resin_base.specs.declared.cell.Row.{Row}
use Rattle.resin_base.specs.declared.cell.Table.{Table}
use Rattle.resin_base.specs.declared.files.Entry.{Entry}
use Rattle.resin_memory.specs.declared.tally.Tally.{Tally}

abbrev pub bytes_code : Coded (List ℕ)
bytes_code = coded_list coded_ℕ

abbrev pub entry_code : Coded Entry
entry_code =
    code_by (List ℕ × List ℕ) (coded× bytes_code bytes_code) (λ e. (e.bytes, e.shadow)) (λ p. record { bytes = p.0; shadow = p.1 }) (λ _. refl)

abbrev pub file_store_code : Coded FileStore
file_store_code = map.code bytes_code entry_code

abbrev pub tally_code : Coded Tally
tally_code =
    code_by (List ℕ × (ℕ × ℕ)) (coded× bytes_code (coded× coded_ℕ coded_ℕ)) (λ t. (t.fail, (t.made, t.faults)))
    (λ p. record { fail = p.0; made = p.1.0; faults = p.1.1 }) (λ _. refl)

abbrev pub faked_files_code : Coded FakedFiles
faked_files_code =
    code_by (FileStore × Tally) (coded× file_store_code tally_code) (λ f. (f.files, f.tally)) (λ p. record { files = p.0; tally = p.1 }) (λ _. refl)

abbrev pub faked_source_code : Coded FakedSource
faked_source_code =
    code_by (List ℕ × (ℕ × Tally)) (coded× bytes_code (coded× coded_ℕ tally_code)) (λ s. (s.left, (s.chunk, s.tally)))
    (λ p. record { left = p.0; chunk = p.1.0; tally = p.1.1 }) (λ _. refl)

abbrev pub faked_sink_code : Coded FakedSink
faked_sink_code =
    code_by (List ℕ × (ℕ × (ℕ × Tally))) (coded× bytes_code (coded× coded_ℕ (coded× coded_ℕ tally_code)))
    (λ s. (s.written, (s.chunk, (s.stalls, s.tally))))
    (λ p. record { written = p.0; chunk = p.1.0; stalls = p.1.1.0; tally = p.1.1.1 }) (λ _. refl)

abbrev is_text : Kind → Bool
is_text Integer = false
is_text Text = true

abbrev kind_of : Bool → Kind
kind_of false = Integer
kind_of true = Text

pub kind_of-is_text : (kind : Kind) → kind_of (is_text kind) ≡ kind
kind_of-is_text Integer = refl
kind_of-is_text Text = refl

abbrev pub kind_code : Coded Kind
kind_code = code_by Bool coded_bool is_text kind_of kind_of-is_text

abbrev pub column_code : Coded Column
column_code = code_by (List ℕ × Kind) (coded× bytes_code kind_code) (λ c. (c.name, c.kind)) (λ p. record { name = p.0; kind = p.1 }) (λ _. refl)

abbrev parts : Cell → Option (ℤ ⊎ List ℕ)
parts Null = None
parts (Int n) = Some (inl n)
parts (CellText bytes) = Some (inr bytes)

abbrev cell_of : Option (ℤ ⊎ List ℕ) → Cell
cell_of None = Null
cell_of (Some (inl n)) = Int n
cell_of (Some (inr bytes)) = CellText bytes

pub cell_of-parts : (cell : Cell) → cell_of (parts cell) ≡ cell
cell_of-parts Null = refl
cell_of-parts (Int n) = refl
cell_of-parts (CellText bytes) = refl

abbrev pub cell_code : Coded Cell
cell_code = code_by (Option (ℤ ⊎ List ℕ)) (coded_option (coded⊎ coded_ℤ bytes_code)) parts cell_of cell_of-parts

abbrev pub row_code : Coded Row
row_code =
    code_by (ℕ × List Cell) (coded× coded_ℕ (coded_list cell_code)) (λ r. (r.number, r.cells)) (λ p. record { number = p.0; cells = p.1 }) (λ _. refl)

abbrev pub table_code : Coded Table
table_code =
    code_by (List Column × List Row) (coded× (coded_list column_code) (coded_list row_code)) (λ t. (t.columns, t.rows))
    (λ p. record { columns = p.0; rows = p.1 }) (λ _. refl)

abbrev pub table_store_code : Coded TableStore
table_store_code = map.code bytes_code table_code

-- that each table is whole has one proof at most
pub EachWhole_prop : (s : TableStore) → IsProp (EachWhole s)
EachWhole_prop s p q = λ i name table is. Coded-set coded_bool _ _ (p name table is) (q name table is) i

pub same_kept : (x y : KeptTables) → x.tables ≡ y.tables → x ≡ y
same_kept x y e =
    let pairs : ◌≡◌ {A = (s : TableStore) × EachWhole s} (x.tables, x.whole) (y.tables, y.whole) = Σ_prop_path EachWhole_prop e in
    λ i. record { tables = (pairs i).0; whole = (pairs i).1 }

abbrev pub kept_tables_code : Coded KeptTables
kept_tables_code = coded_via table_store_code (λ k. k.tables) same_kept

abbrev pub faked_tables_code : Coded FakedTables
faked_tables_code =
    code_by (KeptTables × Tally) (coded× kept_tables_code tally_code) (λ f. (f.kept, f.tally)) (λ p. record { kept = p.0; tally = p.1 }) (λ _. refl)
