use Rattle.std.proofs.Common.{Some, ap, ◌∙◌}
use Rattle.resin_sql.specs.declared.fault.SqlRefusal.TheVariants.{NoTable}
use Rattle.resin_sql_more.specs.Joins.{join_on}
use Rattle.resin_sql_more.proofs.Runs.{refuses}
use Rattle.resin_sql_more.proofs.joins.join_on.Goals as goal

pub returns-in_default : goal.returns-in_default
returns-in_default g c = refuses NoTable (ap (λ x. join_on c.args.statement.now c.args.values.now c.args.left x c.args.lasts) c.in_default.is)

pub returns-in_default-lasts : goal.returns-in_default-lasts
returns-in_default-lasts g c =
    refuses NoTable
    (ap (λ x. join_on c.args.statement.now c.args.values.now c.args.left x c.args.lasts) c.in-Some.is ∙ ap (λ y. join_on c.args.statement.now c.args.values.now c.args.left (Some c.in-Some.firsts) y) c.in_default-lasts.is)
