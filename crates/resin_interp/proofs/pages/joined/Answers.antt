use Rattle.std.proofs.Common.{refl, arith, ◌+◌, ◌-◌, length}
use Rattle.resin_interp.proofs.Buffered.{joined_start, joined_more, joined_end, joined_lost, joined_memory}
use Rattle.resin_interp.proofs.pages.joined.Goals as goal

pub loop-i-init : goal.loop-i-init
loop-i-init c = joined_start c.args.texts.now c.new-all.result c.new-all.ensures

pub returns-in_err-all : goal.returns-in_err-all
returns-in_err-all c = joined_lost c.args.texts.now (length c.args.texts.now - (c.loop-i.i + 1)) _ _ _ c.from_residual.ensures.1 c.in_err-all.ensures (joined_more c.args.texts.now c.loop-i.i _ _ c.loop-i.all _ (omega arith) c.loop-i-test.true c.index-texts-texts.is c.loop-i.invariant.0 refl)

pub loop-i-preserved : goal.loop-i-preserved
loop-i-preserved c = ((joined_more c.args.texts.now c.loop-i.i _ _ c.loop-i.all _ (omega arith) c.loop-i-test.true c.index-texts-texts.is c.loop-i.invariant.0 c.in_ok-all.ensures.0), rw c.in_ok-all.ensures.0 c.in_ok-all.ensures.1)

pub returns-in_err-finish : goal.returns-in_err-finish
returns-in_err-finish c = joined_memory _ _ c.from_residual-in_err-finish.ensures.1

pub returns : goal.returns
returns c = joined_end c.args.texts.now c.loop-i.i c.loop-i.all _ (omega (arith, c.loop-i-test.false)) c.loop-i.invariant.0 c.loop-i.invariant.1 c.in_ok-finish.ensures
