use Rattle.resin_memory.proofs.Find.{from_entries-last}
use Rattle.resin_memory.proofs.table_map.push_table.Goals as goal

pub returns-clause-ok : goal.returns-clause-ok
returns-clause-ok c = rw (c.in_ok-push.ensures.items, c.in_ok-from_slice.ensures) (from_entries-last _ _ _ c.requires)
