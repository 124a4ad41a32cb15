use Rattle.std.proofs.Common.{◌≡◌, drop}
use Rattle.std.specs.List.{list_any}
use Rattle.resin_sql_more.specs.Joins.{condition_strays}
use Rattle.resin_sql_more.proofs.joins.+straying.Given as goal

abbrev pub invariant-some_part_strays-loop-part : goal.invariant-some_part_strays-loop-part
invariant-some_part_strays-loop-part l = list_any (condition_strays l.statement) (drop l.part-index l.parts) ≡ list_any (condition_strays l.statement) l.fn.parts
