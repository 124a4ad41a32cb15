use Rattle.resin_memory.proofs.Wholeness.{whole-delete}
use Rattle.resin_memory.proofs.fake_tables.FakeTablesTables.delete.Goals as goal

pub invariant_of-self-inside-2 : goal.invariant_of-self-inside-2
invariant_of-self-inside-2 c =
    (rw c.delete-answer.ensures.out (whole-delete c.self.inside.tables c.args.name.now c.args.row c.self.inside.whole), tt)
