use Rattle.resin_memory.proofs.Find.{from_entries-place, from_entries-last}
use Rattle.resin_memory.proofs.file_map.put_entry.Goals as goal

pub returns-in-Some-clause-ok : goal.returns-in-Some-clause-ok
returns-in-Some-clause-ok c =
    let place = rw c.deref.ensures.value at c.in-Some.ensures in
    from_entries-place _ c.args.entries.now.items c.in-Some.i c.index_mut.result.now c.args.entry place c.index_mut.ensures.value

pub returns-in_ok-push-in-None-clause-ok : goal.returns-in_ok-push-in-None-clause-ok
returns-in_ok-push-in-None-clause-ok c =
    let none = rw c.deref.ensures.value at c.in-None.ensures in
    rw (c.in_ok-push-in-None.ensures.items, c.in_ok-from_slice-in-None.ensures) (from_entries-last _ _ _ none)
