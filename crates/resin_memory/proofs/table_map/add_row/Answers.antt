use Rattle.std.proofs.Common.{◌∙◌, ap, ◌++◌, ◌∷◌, [], slice_set}
use Rattle.std.specs.FinMap.{from_entries}
use Rattle.resin_base.specs.TableStore.{table_of}
use Rattle.resin_memory.proofs.TablePlaces.{with_rows-place, with_rows-absent, on_ok}
use Rattle.resin_memory.proofs.table_map.add_row.Goals as goal

pub returns-in-Some-clause-ok : goal.returns-in-Some-clause-ok
returns-in-Some-clause-ok c =
    let es = c.args.entries.now.items in
    let x = c.index_mut.result.now in
    let p = rw c.deref.ensures.value at c.in-Some.ensures in
    on_ok c.push.result _ _ (λ is.
    ap (λ rows. from_entries (slice_set es c.in-Some.i (x.0, table_of x.1.columns rows))) is
    ∙ with_rows-place c.args.name.now es c.in-Some.i x (λ rows. rows ++ c.args.row ∷ []) p c.index_mut.ensures.value)
    c.push.ensures.ok

pub returns-in-None-clause-ok : goal.returns-in-None-clause-ok
returns-in-None-clause-ok c =
    with_rows-absent _ _ (λ rows. rows ++ c.args.row ∷ []) (rw c.deref.ensures.value at c.in-None.ensures)
