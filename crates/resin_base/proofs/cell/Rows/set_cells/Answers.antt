use Rattle.std.proofs.Common.{sym, ◌∙◌, ap, map, slice_set}
use Rattle.resin_base.specs.TableStore.{with_cells}
use Rattle.resin_base.proofs.RowLists.{map_absent, set_at}
use Rattle.resin_base.proofs.cell.Rows.set_cells.Goals as goal

pub returns-in-Some : goal.returns-in-Some
returns-in-Some c =
    let items = c.self.inside.items.items in
    let x = c.index_mut.result.now in
    let place = rw c.as_slice.ensures.value at c.in-Some.ensures in
    ap (λ r. slice_set items c.in-Some.i (record { number = r.number; cells = c.args.cells })) c.index_mut.ensures.value
    ∙ set_at 0 items c.in-Some.i c.args.number c.args.cells x (rw c.self.view_is c.requires) place.within (place.here x)
    ∙ ap (map (with_cells c.args.number c.args.cells)) c.self.view_is

pub returns-in-None : goal.returns-in-None
returns-in-None c =
    let none = rw c.as_slice.ensures.value at c.in-None.ensures in
    sym (map_absent c.args.self.now c.args.number c.args.cells (rw c.self.view_is at none))
