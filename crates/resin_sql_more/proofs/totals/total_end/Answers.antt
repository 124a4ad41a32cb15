use Rattle.std.proofs.Common.{length, refl}
use Rattle.resin_sql_more.specs.Totals.{total_end}
use Rattle.resin_sql_more.proofs.Paying.{unpaid, is_paid}
use Rattle.resin_sql_more.proofs.totals.total_end.Goals as goal

pub returns-then-left-rows : goal.returns-then-left-rows
unfolding total_end
returns-then-left-rows c = unpaid c.args.left (length c.args.rows.now) _ _ refl c.if-left-rows.true

pub returns : goal.returns
unfolding total_end
returns c = is_paid c.args.left (length c.args.rows.now) _ _ _ refl c.if-left-rows.false c.in_ok-total_answer.ensures
