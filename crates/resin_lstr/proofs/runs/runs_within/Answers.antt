use Rattle.std.proofs.Common.{◌-◌, arith}
use Rattle.resin_lstr.proofs.Places.{fronts_order}
use Rattle.resin_lstr.proofs.runs.runs_within.Goals as goal

pub returns-clause-ordered : goal.returns-clause-ordered
returns-clause-ordered c =
    omega (arith, fronts_order c.args.runs.now c.run_at.result c.run_at-2.result c.args.lo (c.args.hi - 1) c.requires.coalesced c.run_at.ensures.begins (omega arith) c.run_at-2.ensures.ends)
