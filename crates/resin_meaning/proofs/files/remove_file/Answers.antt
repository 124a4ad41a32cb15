use Rattle.resin_base.proofs.CallNumbers.{lists_settled}
use Rattle.resin_meaning.proofs.OneCall.{does_unasked, does_file_call, remove_follows}
use Rattle.resin_meaning.proofs.files.remove_file.Goals as goal

pub returns-in_err-ask : goal.returns-in_err-ask
returns-in_err-ask g c = λ t. does_unasked _ _ c.args.m.now _ t _ _ _ _ c.from_residual.ensures.1 c.in_err-ask.ensures.asks

pub returns : goal.returns
returns g c = λ t. rw c.settle.ensures.answer (does_file_call _ _ _ c.args.m.now _ _ t _ _ _ c.in_ok-ask.ensures.asks.0 (lists_settled _ _ _ _ c.in_ok-ask.ensures.asks.1 c.settle.ensures.settled) (remove_follows c.args.path.now _ _ _ c.remove-answer.ensures.contents) c.remove-answer.ensures.cause c.remove-answer.ensures.told)
