use Rattle.resin_base.proofs.CallNumbers.{lists_settled}
use Rattle.std.specs.Option.{option_map}
use Rattle.resin_store.specs.Entries.{lift}
use Rattle.resin_meaning.proofs.OneCall.{does_unasked, does_read_call, stopped_by}
use Rattle.resin_meaning.proofs.files.read_file.Goals as goal

pub returns-in_err-ask : goal.returns-in_err-ask
returns-in_err-ask g c = λ t. does_unasked _ _ c.args.m.now _ t _ _ _ _ (stopped_by (option_map lift) _ _ c.from_residual.ensures.1) c.in_err-ask.ensures.asks

pub returns : goal.returns
returns g c = λ t. rw c.settle.ensures.answer (does_read_call c.args.path.now c.args.m.now _ _ _ _ _ _ t _ _ _ c.in_ok-ask.ensures.asks.0 (lists_settled _ _ _ _ c.in_ok-ask.ensures.asks.1 c.settle.ensures.settled) c.read-answer.ensures.contents c.read-answer.ensures.cause c.read-answer.ensures.told)
