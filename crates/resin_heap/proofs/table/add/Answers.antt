use Rattle.std.proofs.Common.{◌≡◌, ◌∙◌}
use Rattle.indexmap.specs.IndexMap.{insert_entry}
use Rattle.resin_heap.specs.declared.class.Class.{Class}
use Rattle.resin_names.specs.Names.{same_name}
use Rattle.resin_heap.proofs.Kept_tables.{goes_last}
use Rattle.resin_heap.proofs.table.add.Goals as goal

pub returns-clause-ok : goal.returns-clause-ok
returns-clause-ok c =
    let es = c.args.by_name.now.entries in
    let d = c.args.c.now in
    let key : c.kept.result ≡ d.name = c.kept.ensures ∙ c.in_ok-bytes.ensures in
    let class : Class = record { declaration = d; standing = c.args.standing } in
    c.in_ok-insert.ensures.entries
    ∙ (λ i. insert_entry same_name es (key i) (record { declaration = c.in_ok-clone.ensures.cases i; standing = c.args.standing }))
    ∙ goes_last es d.name class c.requires.named c.requires.fresh
