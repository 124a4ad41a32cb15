use Rattle.std.proofs.Common.{arith}
use Rattle.resin_grammar.proofs.HeightLaws.{height_post_increment}
use Rattle.resin_grammar.proofs.place.post_increment.Goals as goal

pub boxed-requires : goal.boxed-requires
boxed-requires c = rw c.into_target.ensures (omega (arith, height_post_increment c.args.place, c.above-high.ensures, c.height.ensures))
