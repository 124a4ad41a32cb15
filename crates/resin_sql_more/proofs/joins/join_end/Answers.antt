use Rattle.resin_sql_more.specs.Joins.{join_end}
use Rattle.resin_sql_more.proofs.Paying.{unpaid, is_paid}
use Rattle.resin_sql_more.proofs.joins.join_end.Goals as goal

pub returns-then-left-cost : goal.returns-then-left-cost
unfolding join_end
returns-then-left-cost c = unpaid c.args.left c.cost.result _ _ c.cost.ensures c.if-left-cost.true

pub returns : goal.returns
unfolding join_end
returns c = is_paid c.args.left c.cost.result _ _ _ c.cost.ensures c.if-left-cost.false c.in_ok-join_answer.ensures
