-- Cells as the code reads them.
use Rattle.std.specs.Prelude.{◌≡◌, ℕ, nat_lt, length, Option, Some, None, if◌then◌else◌}
use Rattle.resin_eval_writes.specs.Under.base.declared.cell.Cell.{Cell}
use Rattle.resin_eval_writes.specs.Under.base.declared.cell.Cell.TheVariants as cell
use Rattle.resin_eval_writes.specs.Under.base.declared.files.Entry.{Entry}
use Rattle.resin_eval_writes.specs.Under.base.declared.stored.StoredCell.{StoredCell}
use Rattle.resin_eval_writes.specs.Under.lstr.declared.limits.TheConstants.{LONGEST}
use Rattle.resin_eval_writes.specs.Under.meaning_forms.Cells.{damaged_entry, entry_for}
use Rattle.resin_eval_writes.specs.Under.scalar.declared.faults.ScriptFault.{ScriptFault}
use Rattle.resin_eval_writes.specs.Under.scalar.declared.faults.ScriptFault.TheVariants.{BadShadow, TextTooLong}
use Rattle.resin_eval_writes.specs.Under.store.Entries.{lift}

-- the entry that a cell is read as, if it is read as one that can be held
abbrev pub IsReadAs : StoredCell → Option Entry → Type 0
IsReadAs c (Some e) = entry_for c.value c.shadow ≡ lift e
IsReadAs c None = entry_for c.value c.shadow ≡ damaged_entry c.value

-- the fault of a cell that is damaged, whatever it holds of a shadow
abbrev pub damage : Cell → ScriptFault
damage (cell.Text bytes) = if nat_lt LONGEST (length bytes) then TextTooLong else BadShadow
damage value = BadShadow
