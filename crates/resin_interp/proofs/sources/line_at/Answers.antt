use Rattle.std.proofs.Common.{arith, ◌∙◌}
use Rattle.resin_interp.proofs.Places.{line_past}
use Rattle.resin_interp.proofs.sources.line_at.Goals as goal

pub returns-else-place-src : goal.returns-else-place-src
returns-else-place-src c = c.line_of-else-place-src.ensures ∙ line_past c.args.src.now c.args.place _ (omega arith) (omega arith)
