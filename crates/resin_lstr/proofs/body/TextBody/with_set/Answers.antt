use Rattle.std.proofs.Common.{arith}
use Rattle.resin_lstr.proofs.Zips.{one_set_text}
use Rattle.resin_lstr.proofs.Pieces.{length-carrying}
use Rattle.resin_lstr.proofs.body.TextBody.with_set.Goals as goal

pub returns : goal.returns
returns c = (
  one_set_text c.in_ok-bytes.bytes c.args.b.now c.in_ok-runs.runs c.args.s.now c.in_ok-bytes.ensures c.in_ok-runs.ensures.spelled,
  omega (arith, length-carrying c.args.s.now c.args.b.now),
)
