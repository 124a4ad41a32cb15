use Rattle.resin_memory.proofs.Wholeness.{whole-create, whole-call}
use Rattle.resin_memory.proofs.calm_tables.CalmTablesTables.create.Goals as goal

pub invariant_of-self-inside : goal.invariant_of-self-inside
invariant_of-self-inside c =
    let was = c.self.inside.whole in
    (whole-call c.create.result c.self.inside.tables c.create.new.self _ c.create.ensures.ok c.create.ensures.err was (whole-create c.self.inside.tables c.args.name.now c.args.columns.now was), tt)
