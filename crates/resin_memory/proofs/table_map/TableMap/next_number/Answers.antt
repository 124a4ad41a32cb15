use Rattle.std.proofs.Common.{sym}
use Rattle.resin_memory.proofs.Wholeness.{whole-parts}
use Rattle.resin_memory.proofs.table_map.TableMap.next_number.Goals as goal

pub last_number-number-requires : goal.last_number-number-requires
last_number-number-requires c =
    (whole-parts c.in_ok-table.table.now (c.requires c.args.name.now c.in_ok-table.table.now (sym c.in_ok-table.ensures))).0
