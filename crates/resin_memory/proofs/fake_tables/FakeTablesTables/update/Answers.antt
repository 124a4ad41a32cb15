use Rattle.resin_memory.proofs.Wholeness.{whole-update, whole-call}
use Rattle.resin_memory.proofs.fake_tables.FakeTablesTables.update.Goals as goal

pub invariant_of-self-inside-2 : goal.invariant_of-self-inside-2
invariant_of-self-inside-2 c =
    let was = c.self.inside.whole in
    (whole-call c.update.result c.self.inside.tables c.update.new.self _ c.update.ensures.ok c.update.ensures.err was (whole-update c.self.inside.tables c.args.name.now c.args.row c.args.cells.now was), tt)
