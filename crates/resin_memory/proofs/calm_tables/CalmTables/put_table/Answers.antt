use Rattle.resin_memory.proofs.Wholeness.{whole-put, whole-call}
use Rattle.resin_memory.proofs.calm_tables.CalmTables.put_table.Goals as goal

pub invariant_of-self-inside : goal.invariant_of-self-inside
invariant_of-self-inside c =
    let was = c.self.inside.whole in (
      whole-call c.put.result c.self.inside.tables c.put.new.self _ c.put.ensures.ok c.put.ensures.err was
          (whole-put c.self.inside.tables c.args.name.now c.args.columns.now c.args.rows.now was c.requires.rising c.requires.fitting),
      tt,
    )
