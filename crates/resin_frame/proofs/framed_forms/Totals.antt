-- The programs of Totals are framed.
use Rattle.std.specs.Prelude.{Option}
use Rattle.std.specs.Prelude.{ℕ, List, [], ◌∷◌, map, Some, Result, Ok, Err}
use Rattle.resin_meaning_forms.specs.Under.array_fn.Filled.{added_at}
use Rattle.resin_meaning_forms.specs.Under.label.Sets.{NumberSet}
use Rattle.resin_meaning_forms.specs.Under.lstr.Texts.{carrying}
use Rattle.resin_meaning_forms.specs.Under.scalar.declared.faults.ScriptFault.TheVariants.{IntegerOverflow, TextTooLong}
use Rattle.resin_meaning_forms.specs.Under.value.Arrays.{Array}
use Rattle.resin_meaning_forms.specs.Under.value.Keys.{text_key}
use Rattle.resin_meaning_forms.specs.Under.value.Trees.{Tree, null, integer}
use Rattle.resin_meaning_forms.specs.Under.machine.declared.stop.Stop.TheVariants.{Memory}
use Rattle.resin_meaning_forms.specs.Under.base.declared.cell.Cell.{Cell}
use Rattle.resin_meaning_forms.specs.Under.base.declared.cell.Cell.TheVariants as cell
use Rattle.resin_meaning_forms.specs.Under.base.declared.stored.StoredCell.{StoredCell}
use Rattle.resin_meaning_forms.specs.Under.meaning.Programs.{Prog, give, stop, ◌>>=◌}
use Rattle.resin_meaning_forms.specs.Under.meaning_tables.Under.sql_more.Totals.{item_name}
use Rattle.resin_meaning_forms.specs.Under.meaning_tables.Under.sql_more.Values.{item_value}
use Rattle.resin_meaning_forms.specs.Under.meaning_tables.Under.sql_more.declared.values.TotalFault.{TotalFault}
use Rattle.resin_meaning_forms.specs.Under.meaning_tables.Under.sql_more.declared.values.TotalFault.TheVariants as fault
use Rattle.resin_meaning_forms.specs.Under.meaning_tables.Under.joint.declared.tree.TotalItem.{TotalItem}
use Rattle.resin_meaning_forms.specs.Cells.{read_text, marks_of_cells}
use Rattle.resin_meaning_forms.specs.Keeping.{thaw_sets}
use Rattle.resin_meaning_forms.specs.Merges.{fold_sets}
use Rattle.resin_meaning_forms.specs.Parts.{Evals, computed, faulted}
use Rattle.resin_meaning_forms.specs.Totals.{item_or_fault, total_value, item_total, with_item, items_on}
use Rattle.resin_frame.specs.Frames.{IsFramed}
use Rattle.resin_frame.proofs.Frames.{FramedEvals, framing}
use Rattle.resin_frame.proofs.framed_forms.Cells.{marks_of_cells_framed, read_text_framed}
use Rattle.resin_frame.proofs.framed_forms.Keeping.{thaw_sets_framed}
use Rattle.resin_frame.proofs.framed_forms.Merges.{fold_sets_framed}

pub item_or_fault_framed : {own : Option (List ℕ)} (a0 : Result Cell TotalFault) → IsFramed {A = Cell} own (item_or_fault a0)
item_or_fault_framed (Ok c) = search framing depth 12
item_or_fault_framed (Err fault.IntegerOverflow) = search framing depth 12
item_or_fault_framed (Err fault.TextTooLong) = search framing depth 12
item_or_fault_framed (Err fault.Memory) = search framing depth 12

pub total_value_framed : {own : Option (List ℕ)} (ev : Evals) (name : List ℕ) (set : NumberSet) (a3 : Cell) → FramedEvals own ev → IsFramed {A = Tree} own (total_value ev name set a3)
total_value_framed ev name set cell.Null h = search framing depth 12
total_value_framed ev name set (cell.Int n) h = search framing depth 12
total_value_framed ev name set (cell.Text bytes) h = search (framing, read_text_framed) depth 12

pub item_total_framed : {own : Option (List ℕ)} (ev : Evals) (it : TotalItem) (chosen : ℕ) (cells : List StoredCell) → FramedEvals own ev → IsFramed {A = Tree} own (item_total ev it chosen cells)
item_total_framed ev it chosen cells h = search (framing, thaw_sets_framed, fold_sets_framed, marks_of_cells_framed, item_or_fault_framed, total_value_framed) depth 12

pub with_item_framed : {own : Option (List ℕ)} (ev : Evals) (chosen : ℕ) (it : TotalItem) (cells : List StoredCell) (a : Array) → FramedEvals own ev → IsFramed {A = Array} own (with_item ev chosen it cells a)
with_item_framed ev chosen it cells a h = search (framing, item_total_framed) depth 12

pub items_on_framed : {own : Option (List ℕ)} (ev : Evals) (chosen : ℕ) (its : List TotalItem) (rows : List (List StoredCell)) (a : Array) → FramedEvals own ev → IsFramed {A = Array} own (items_on ev chosen its rows a)
items_on_framed {own = own} ev chosen (it ∷ its) (cells ∷ rows) a h = let ih = λ (y : Array). items_on_framed {own = own} ev chosen its rows y h in search (framing, with_item_framed, ih) depth 12
items_on_framed ev chosen its rows a h = search framing depth 12
