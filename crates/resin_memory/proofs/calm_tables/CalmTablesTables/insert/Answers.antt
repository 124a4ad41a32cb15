use Rattle.resin_memory.proofs.Wholeness.{whole-insert_row, whole-call}
use Rattle.resin_memory.proofs.calm_tables.CalmTablesTables.insert.Goals as goal

pub invariant_of-self-inside : goal.invariant_of-self-inside
invariant_of-self-inside c =
    let was = c.self.inside.whole in
    (whole-call c.insert.result c.self.inside.tables c.insert.new.self _ c.insert.ensures.ok c.insert.ensures.err was (whole-insert_row c.self.inside.tables c.args.name.now c.args.cells.now was), tt)
