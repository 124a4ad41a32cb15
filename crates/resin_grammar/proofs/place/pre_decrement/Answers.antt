use Rattle.std.proofs.Common.{arith}
use Rattle.resin_grammar.proofs.HeightLaws.{height_pre_decrement}
use Rattle.resin_grammar.proofs.place.pre_decrement.Goals as goal

pub boxed-requires : goal.boxed-requires
boxed-requires c = rw c.into_target.ensures (omega (arith, height_pre_decrement c.args.place, c.above-high.ensures, c.height.ensures))
