use Rattle.resin_memory.proofs.Wholeness.{whole-empty}
use Rattle.resin_memory.proofs.fake_tables.FakeTables.new.Goals as goal

pub invariant_of-result : goal.invariant_of-result
invariant_of-result c = (whole-empty c.new.result c.new.ensures, tt)
