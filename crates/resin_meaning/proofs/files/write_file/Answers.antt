use Rattle.resin_base.proofs.CallNumbers.{lists_settled}
use Rattle.resin_meaning.proofs.OneCall.{does_unasked, does_file_call, write_follows}
use Rattle.resin_meaning.proofs.files.write_file.Goals as goal

pub returns-in_err-ask : goal.returns-in_err-ask
returns-in_err-ask g c = λ d w t. does_unasked _ _ c.args.m.now _ t _ _ _ _ c.from_residual.ensures.1 c.in_err-ask.ensures.asks

pub returns : goal.returns
returns g c = λ d w t. rw c.settle.ensures.answer (does_file_call _ _ _ c.args.m.now _ _ t _ _ _ c.in_ok-ask.ensures.asks.0 (lists_settled _ _ _ _ c.in_ok-ask.ensures.asks.1 c.settle.ensures.settled) (write_follows c.args.path.now c.args.bytes.now c.args.shadow.now d _ _ _ w c.write-answer.ensures.contents) c.write-answer.ensures.cause c.write-answer.ensures.told)
