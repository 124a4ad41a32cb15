-- Totals as scripts get them: the value of each item, with what the cells carry that it was made of.
use Rattle.std.specs.Prelude.{ℕ, List, [], ◌∷◌, map, Some, Result, Ok, Err}
use Rattle.resin_builtin.specs.Under.array_fn.Filled.{added_at}
use Rattle.resin_builtin.specs.Under.label.Sets.{NumberSet}
use Rattle.resin_builtin.specs.Under.lstr.Texts.{carrying}
use Rattle.resin_builtin.specs.Under.scalar.declared.faults.ScriptFault.TheVariants.{IntegerOverflow, TextTooLong}
use Rattle.resin_builtin.specs.Under.value.Arrays.{Array}
use Rattle.resin_builtin.specs.Under.value.Keys.{text_key}
use Rattle.resin_builtin.specs.Under.value.Trees.{Tree, null, integer}
use Rattle.resin_target.specs.Under.machine.declared.stop.Stop.TheVariants.{Memory}
use Rattle.resin_meaning_tables.specs.Under.base.declared.cell.Cell.{Cell}
use Rattle.resin_meaning_tables.specs.Under.base.declared.cell.Cell.TheVariants as cell
use Rattle.resin_meaning_tables.specs.Under.base.declared.stored.StoredCell.{StoredCell}
use Rattle.resin_meaning_tables.specs.Under.meaning.Programs.{Prog, give, stop, ◌>>=◌}
use Rattle.resin_meaning_tables.specs.Under.sql_more.Totals.{item_name}
use Rattle.resin_meaning_tables.specs.Under.sql_more.Values.{item_value}
use Rattle.resin_meaning_tables.specs.Under.sql_more.declared.values.TotalFault.{TotalFault}
use Rattle.resin_meaning_tables.specs.Under.sql_more.declared.values.TotalFault.TheVariants as fault
use Rattle.resin_meaning_tables.specs.Under.joint.declared.tree.TotalItem.{TotalItem}
use Rattle.resin_meaning_forms.specs.Cells.{read_text, marks_of_cells}
use Rattle.resin_meaning_forms.specs.Keeping.{thaw_sets}
use Rattle.resin_meaning_forms.specs.Merges.{fold_sets}
use Rattle.resin_meaning_forms.specs.Parts.{Evals, computed, faulted}

-- the value of an item, or its fault
abbrev pub item_or_fault : Result Cell TotalFault → Prog Cell
item_or_fault (Ok c) = give c
item_or_fault (Err fault.IntegerOverflow) = faulted IntegerOverflow
item_or_fault (Err fault.TextTooLong) = faulted TextTooLong
item_or_fault (Err fault.Memory) = stop Memory

-- it carries one set, on the integer or on every byte; a text passes the filters of its column, which is the item
abbrev pub total_value : Evals → List ℕ → NumberSet → Cell → Prog Tree
total_value ev name set cell.Null = give null
total_value ev name set (cell.Int n) = give (integer n set)
total_value ev name set (cell.Text bytes) = read_text ev name (carrying set bytes)

-- All cells of an item are looked at first; then objects are made for their policy texts, one for each distinct text; then the value is
-- computed; then the distinct sets of the cells' bytes and integers are merged to one, in the order in which they first occur.
abbrev pub item_total : Evals → TotalItem → ℕ → List StoredCell → Prog Tree
item_total ev it chosen cells = do
  w ← marks_of_cells cells []
  sets ← thaw_sets w
  c ← item_or_fault (item_value it chosen (map (λ (v : StoredCell). v.value) cells))
  set ← fold_sets ev sets
  total_value ev (item_name it) set c

abbrev pub with_item : Evals → ℕ → TotalItem → List StoredCell → Array → Prog Array
with_item ev chosen it cells a = item_total ev it chosen cells >>= λ v. computed (added_at (Some (text_key (item_name it))) v a)

-- the items one after the other, each under its name
abbrev pub items_on : Evals → ℕ → List TotalItem → List (List StoredCell) → Array → Prog Array
items_on ev chosen (it ∷ its) (cells ∷ rows) a = with_item ev chosen it cells a >>= items_on ev chosen its rows
items_on ev chosen its rows a = give a
