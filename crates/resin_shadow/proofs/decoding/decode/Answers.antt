use Rattle.resin_shadow.proofs.Ending.{plain_decoded}
use Rattle.resin_shadow.proofs.decoding.decode.Goals as goal

pub returns-then-size-eq0 : goal.returns-then-size-eq0
returns-then-size-eq0 c = rw c.in_ok-plain.ensures (plain_decoded c.args.len c.args.shadow.now c.if-size-eq0.true)
