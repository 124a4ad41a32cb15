use Rattle.std.proofs.Common.{◌≡◌, ◌++◌, take}
use Rattle.resin_sql.proofs.listed.put_row.Given as goal

abbrev pub invariant-loop-literal : goal.invariant-loop-literal
invariant-loop-literal l = l.found ≡ l.initial.found ++ take l.literal-index l.row
