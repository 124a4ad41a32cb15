use Rattle.std.proofs.Common.{◌≡◌, ◌++◌, length, drop}
use Rattle.resin_lstr.specs.Texts.{ArePartsFrom}
use Rattle.resin_text_fn.specs.Matches.{pieces_round}
use Rattle.resin_text_fn.proofs.parts.pieces_round.Given as goal

abbrev pub invariant-loop-start : goal.invariant-loop-start
invariant-loop-start l = record {
  parts : ArePartsFrom l.from (drop l.start-index l.parts) (length l.s);
  is : l.pieces ++ pieces_round l.from (drop l.start-index l.parts) l.s ≡ pieces_round 0 l.parts l.s;
}
