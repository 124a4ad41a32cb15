-- The keeper calls as programs: what each asks of the keepers' contents (the meanings of the calls stand in resin_base).
use Rattle.std.specs.Prelude.{◌≡◌, ℕ, ◌≤◌, ◌<◌, Bool, true, false, not, List, Option, Result, Ok, Err, ◌⊎◌}
use Rattle.std.specs.FinMap.{get, insert, remove, contains_key}
use Rattle.std.specs.Option.{option_map}
use Rattle.resin_base.specs.Causes.{last_count}
use Rattle.resin_base.specs.TableStore.{columns_of, rows_of, next_number, after_create, after_insert, can_update, after_update, has_row, after_delete}
use Rattle.resin_base.specs.Numbering.{IsAsked}
use Rattle.resin_base.specs.declared.calls.Calls.{Calls}
use Rattle.resin_base.specs.declared.cell.Cell.{Cell}
use Rattle.resin_base.specs.declared.cell.Column.{Column}
use Rattle.resin_base.specs.declared.cell.Row.{Row}
use Rattle.resin_base.specs.declared.faults.KeepFault.{KeepFault}
use Rattle.resin_base.specs.declared.faults.KeepFault.TheVariants.{Failed, Memory}
use Rattle.resin_base.specs.declared.files.Entry.{Entry}
use Rattle.resin_machine.specs.Under.scalar.declared.faults.ScriptFault.TheVariants.{FuelSpent}
use Rattle.resin_machine.specs.declared.stop.Stop.{Stop}
use Rattle.resin_machine.specs.declared.stop.Stop.TheVariants.{Fault, Keeper}
use Rattle.resin_machine.specs.declared.stop.Stop.TheVariants.{Memory as NoMemory}
use Rattle.resin_machine.specs.State.{State}
use Rattle.resin_store.specs.Entries.{Marked, LabelledEntry, Good, Second, lift}
use Rattle.resin_meaning.specs.Programs.{Prog, keep, on_files, on_tables, file_call, table_call}

-- the entry at a path
abbrev pub read_file : List ℕ → Prog (Option LabelledEntry)
read_file path = keep (file_call path false) (on_files (λ s. (get s path, s)))

-- sets the bytes at a path, each with its policies; what is written has the second version of shadow texts
abbrev pub write_file : List ℕ → Marked → Prog (Unit {0})
write_file path d = keep (file_call path true) (on_files (λ s. (tt, insert s path (Good d Second))))

-- takes the entry at a path out, and says whether there was one
abbrev pub remove_file : List ℕ → Prog Bool
remove_file path = keep (file_call path true) (on_files (λ s. (contains_key s path, remove s path)))

-- whether a path has an entry
abbrev pub file_exists : List ℕ → Prog Bool
file_exists path = keep (file_call path false) (on_files (λ s. (contains_key s path, s)))

-- makes a table, and says whether it did
abbrev pub create_table : List ℕ → List Column → Prog Bool
create_table name columns = keep (table_call name true) (on_tables (λ s. (not (contains_key s name), after_create s name columns)))

-- the columns of a table
abbrev pub table_columns : List ℕ → Prog (Option (List Column))
table_columns name = keep (table_call name false) (on_tables (λ s. (columns_of s name, s)))

-- the rows of a table
abbrev pub table_rows : List ℕ → Prog (List Row)
table_rows name = keep (table_call name false) (on_tables (λ s. (rows_of s name, s)))

-- puts a row last, and tells its number
abbrev pub insert_row : List ℕ → List Cell → Prog (Option ℕ)
insert_row name cells = keep (table_call name true) (on_tables (λ s. (next_number s name cells, after_insert s name cells)))

-- sets the cells of a row, and says whether it was there
abbrev pub update_row : List ℕ → ℕ → List Cell → Prog Bool
update_row name number cells = keep (table_call name true) (on_tables (λ s. (can_update s name number cells, after_update s name number cells)))

-- takes a row out, and says whether it was there
abbrev pub delete_row : List ℕ → ℕ → Prog Bool
delete_row name number = keep (table_call name true) (on_tables (λ s. (has_row s name number, after_delete s name number)))

-- how a keeper's answer ends the call
abbrev pub kept : {A : Type 0} → Result A KeepFault → Result A Stop
kept (Ok v) = Ok v
kept (Err Failed) = Err Keeper
kept (Err Memory) = Err NoMemory

-- an answer, changed where there is one
abbrev pub answered_by : {A B E : Type 0} → (A → B) → Result A E → Result B E
answered_by f (Ok v) = Ok (f v)
answered_by f (Err e) = Err e

-- an entry that was answered, with the policies that its shadow text tells
abbrev pub lifted : {E : Type 0} → Result (Option Entry) E → Result (Option LabelledEntry) E
lifted r = answered_by (option_map lift) r

-- the number of the next call is listed; there may be none left, or no memory
abbrev pub Asks : State → Calls → Result (Unit {0}) Stop → Calls → Type 0
Asks m c (Ok u) c' = (c.made < last_count) × IsAsked c c'
Asks m c (Err s) c' = (((s ≡ Fault FuelSpent m.line) × (last_count ≤ c.made)) ⊎ (s ≡ NoMemory)) × (c' ≡ c)

-- the answer is that of a change, and what is held is what the change leaves; a call that fails changes nothing
abbrev pub Follows : {A S : Type 0} → (S → A × S) → S → Result A KeepFault → S → Type 0
Follows change s (Ok v) t = (v ≡ (change s).0) × (t ≡ (change s).1)
Follows change s (Err fault) t = t ≡ s
