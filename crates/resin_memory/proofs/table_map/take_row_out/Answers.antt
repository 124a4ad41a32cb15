use Rattle.std.proofs.Common.{◌∙◌, ap, slice_set}
use Rattle.std.specs.FinMap.{from_entries}
use Rattle.resin_base.specs.TableStore.{table_of, without_number}
use Rattle.resin_memory.proofs.TablePlaces.{with_rows-place, with_rows-absent}
use Rattle.resin_memory.proofs.table_map.take_row_out.Goals as goal

pub returns-in-Some : goal.returns-in-Some
returns-in-Some c =
    let es = c.args.entries.now.items in
    let x = c.index_mut.result.now in
    let p = rw c.deref.ensures.value at c.in-Some.ensures in
    ap (λ rows. from_entries (slice_set es c.in-Some.i (x.0, table_of x.1.columns rows))) c.take_out.ensures
    ∙ with_rows-place c.args.name.now es c.in-Some.i x (without_number c.args.number) p c.index_mut.ensures.value

pub returns-in-None : goal.returns-in-None
returns-in-None c =
    with_rows-absent _ _ (without_number c.args.number) (rw c.deref.ensures.value at c.in-None.ensures)
