use Rattle.std.proofs.Common.{◌∙◌, ap, map, slice_set}
use Rattle.std.specs.FinMap.{from_entries}
use Rattle.resin_base.specs.TableStore.{table_of, with_cells}
use Rattle.resin_memory.proofs.TablePlaces.{get-place, with_rows-place, with_rows-absent}
use Rattle.resin_memory.proofs.Wholeness.{whole-parts}
use Rattle.resin_memory.proofs.table_map.set_cells.Goals as goal

pub set_cells-requires : goal.set_cells-requires
set_cells-requires c =
    let x = c.index_mut.result.now in
    let p = rw c.deref.ensures.value at c.in-Some.ensures in
    (whole-parts x.1 (c.requires c.args.name.now x.1 (get-place c.args.name.now c.args.entries.now.items c.in-Some.i x p c.index_mut.ensures.value))).0

pub returns-in-Some : goal.returns-in-Some
returns-in-Some c =
    let es = c.args.entries.now.items in
    let x = c.index_mut.result.now in
    let p = rw c.deref.ensures.value at c.in-Some.ensures in
    ap (λ rows. from_entries (slice_set es c.in-Some.i (x.0, table_of x.1.columns rows))) c.set_cells.ensures
    ∙ with_rows-place c.args.name.now es c.in-Some.i x (map (with_cells c.args.number c.args.cells)) p c.index_mut.ensures.value

pub returns-in-None : goal.returns-in-None
returns-in-None c =
    with_rows-absent _ _ (map (with_cells c.args.number c.args.cells)) (rw c.deref.ensures.value at c.in-None.ensures)
