use Rattle.std.proofs.Common.{refl, length}
use Rattle.resin_lstr.proofs.Pieces.{parts_begin}
use Rattle.resin_text_fn.proofs.parts.pieces_round.Goals as goal

pub slice-requires-clause-within : goal.slice-requires-clause-within
slice-requires-clause-within c = parts_begin c.args.parts.now c.args.parts.now refl c.loop-start.start-index c.loop-start.from (length c.args.s.now) c.loop-start-test.true c.loop-start.invariant.parts
