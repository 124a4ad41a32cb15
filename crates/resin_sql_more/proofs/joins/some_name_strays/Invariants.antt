use Rattle.std.proofs.Common.{◌≡◌, drop}
use Rattle.std.specs.List.{list_any}
use Rattle.resin_sql_more.specs.Joins.{strays}
use Rattle.resin_sql_more.proofs.joins.some_name_strays.Given as goal

abbrev pub invariant-loop-name : goal.invariant-loop-name
invariant-loop-name l = list_any (strays l.statement) (drop l.name-index l.names) ≡ list_any (strays l.statement) l.fn.names
