use Rattle.resin_memory.proofs.Wholeness.{whole-insert_row, whole-call}
use Rattle.resin_memory.proofs.fake_tables.FakeTablesTables.insert.Goals as goal

pub invariant_of-self-inside-2 : goal.invariant_of-self-inside-2
invariant_of-self-inside-2 c =
    let was = c.self.inside.whole in
    (whole-call c.insert.result c.self.inside.tables c.insert.new.self _ c.insert.ensures.ok c.insert.ensures.err was (whole-insert_row c.self.inside.tables c.args.name.now c.args.cells.now was), tt)
