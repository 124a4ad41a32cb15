use Rattle.std.proofs.Common.{sym, ◌∙◌, ap}
use Rattle.std.specs.FinMap.{get}
use Rattle.resin_memory.proofs.TablePlaces.{get-find}
use Rattle.resin_memory.proofs.table_map.TableMap.put.Goals as goal

pub push_table-requires : goal.push_table-requires
push_table-requires c =
    sym (get-find c.self.inside.entries.items c.args.name.now) ∙ ap (λ m. get m c.args.name.now) c.self.view_is ∙ c.requires
