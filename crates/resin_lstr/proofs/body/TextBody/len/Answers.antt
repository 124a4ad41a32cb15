use Rattle.std.proofs.Common.{length, ap, arith}
use Rattle.resin_lstr.proofs.Zips.{long}
use Rattle.resin_lstr.proofs.body.TextBody.len.Goals as goal

pub returns-clause-value : goal.returns-clause-value
returns-clause-value c = omega (arith, ap length c.as_slice.ensures, long _ _ c.self.invariant c.self.view_is)
