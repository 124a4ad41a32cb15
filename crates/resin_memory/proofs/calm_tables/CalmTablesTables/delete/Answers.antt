use Rattle.resin_memory.proofs.Wholeness.{whole-delete}
use Rattle.resin_memory.proofs.calm_tables.CalmTablesTables.delete.Goals as goal

pub invariant_of-self-inside : goal.invariant_of-self-inside
invariant_of-self-inside c =
    (rw c.delete.ensures.out (whole-delete c.self.inside.tables c.args.name.now c.args.row c.self.inside.whole), tt)
