use Rattle.std.proofs.Common.{arith}
use Rattle.resin_lstr.proofs.Zips.{long}
use Rattle.resin_lstr.proofs.builder.Builder.len.Goals as goal

pub returns-clause-value : goal.returns-clause-value
returns-clause-value c = omega (arith, long _ _ c.self.invariant c.self.view_is)
