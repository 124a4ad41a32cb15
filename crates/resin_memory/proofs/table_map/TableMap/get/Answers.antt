use Rattle.std.proofs.Common.{sym, ◌∙◌, ap}
use Rattle.std.specs.FinMap.{find, get, get-from_entries}
use Rattle.std.specs.Cmp.Lexicographic.{nat_list_cmp_total}
use Rattle.resin_base.specs.Contents.{byte_order}
use Rattle.resin_memory.proofs.table_map.TableMap.get.Goals as goal

pub returns : goal.returns
returns c =
    c.value_at.ensures ∙ ap (find byte_order c.args.name.now) c.deref.ensures.value
    ∙ sym (ap (λ m. get m c.args.name.now) (sym c.self.view_is) ∙ get-from_entries nat_list_cmp_total _ _)
