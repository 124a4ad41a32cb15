use Rattle.std.proofs.Common.{true, false, get_or, ◌∙◌, length-set}
use Rattle.std.proofs.lemmas.List.{get_or-replicate, length-replicate}
use Rattle.resin_text_fn.proofs.Trims.{set_more}
use Rattle.resin_text_fn.proofs.parts.byte_set.Goals as goal

pub loop-b-init : goal.loop-b-init
loop-b-init c = record {
  long = length-replicate 256 false;
  is = λ b lt. get_or-replicate 256 b false false lt;
}

pub loop-b-preserved : goal.loop-b-preserved
loop-b-preserved c = record {
  long = length-set c.loop-b.set (get_or c.args.bytes.now c.loop-b.b-index 0) true ∙ c.loop-b.invariant.long;
  is = set_more c.loop-b.set c.args.bytes.now c.loop-b.b-index c.loop-b.invariant.long c.loop-b-test.true c.loop-b.invariant.is;
}
