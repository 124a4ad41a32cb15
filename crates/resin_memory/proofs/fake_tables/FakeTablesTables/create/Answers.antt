use Rattle.resin_memory.proofs.Wholeness.{whole-create, whole-call}
use Rattle.resin_memory.proofs.fake_tables.FakeTablesTables.create.Goals as goal

pub invariant_of-self-inside-2 : goal.invariant_of-self-inside-2
invariant_of-self-inside-2 c =
    let was = c.self.inside.whole in
    (whole-call c.create.result c.self.inside.tables c.create.new.self _ c.create.ensures.ok c.create.ensures.err was (whole-create c.self.inside.tables c.args.name.now c.args.columns.now was), tt)
