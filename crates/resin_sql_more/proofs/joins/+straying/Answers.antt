use Rattle.std.proofs.Common.{ap, ◌∙◌}
use Rattle.std.specs.List.{list_any}
use Rattle.resin_sql_more.specs.Joins.{condition_strays}
use Rattle.resin_sql_more.proofs.Straying.{any-map, strays_test, strays_all, strays_any}
use Rattle.resin_sql_more.proofs.joins.+straying.Goals as goal

pub condition_strays-returns-in-Test : goal.condition_strays-returns-in-Test
condition_strays-returns-in-Test t c = rw (c.in-Test.is, strays_test c.args.statement.now c.in-Test.test) c.test_strays.ensures

pub condition_strays-returns-in-All : goal.condition_strays-returns-in-All
condition_strays-returns-in-All t c =
    rw (c.in-All.is, strays_all c.args.statement.now c.in-All.parts)
    (c.some_part_strays.ensures ∙ (ap (list_any (condition_strays c.args.statement.now)) c.as_slice.ensures ∙ any-map (condition_strays c.args.statement.now) c.in-All.parts))

pub condition_strays-returns-in-Any : goal.condition_strays-returns-in-Any
condition_strays-returns-in-Any t c =
    rw (c.in-Any.is, strays_any c.args.statement.now c.in-Any.parts)
    (c.some_part_strays-in-Any.ensures ∙ (ap (list_any (condition_strays c.args.statement.now)) c.as_slice-in-Any.ensures ∙ any-map (condition_strays c.args.statement.now) c.in-Any.parts))
