use Rattle.resin_base.proofs.CallNumbers.{lists_settled}
use Rattle.resin_meaning.proofs.OneCall.{does_unasked, does_table_call, insert_follows}
use Rattle.resin_meaning.proofs.tables.insert_row.Goals as goal

pub returns-in_err-ask : goal.returns-in_err-ask
returns-in_err-ask g c = λ f. does_unasked _ _ c.args.m.now f _ _ _ _ _ c.from_residual.ensures.1 c.in_err-ask.ensures.asks

pub returns : goal.returns
returns g c = λ f. rw c.settle.ensures.answer (does_table_call _ _ _ c.args.m.now f _ _ _ _ _ c.in_ok-ask.ensures.asks.0 (lists_settled _ _ _ _ c.in_ok-ask.ensures.asks.1 c.settle.ensures.settled) (insert_follows c.args.name.now c.args.cells.now _ _ _ c.insert-answer.ensures.contents) c.insert-answer.ensures.cause c.insert-answer.ensures.told)
