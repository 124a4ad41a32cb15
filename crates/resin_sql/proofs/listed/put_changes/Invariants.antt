use Rattle.std.proofs.Common.{◌≡◌, ◌++◌, take, map}
use Rattle.resin_sql.specs.declared.tree.Change.{Change}
use Rattle.resin_sql.proofs.listed.put_changes.Given as goal

abbrev pub invariant-loop-change : goal.invariant-loop-change
invariant-loop-change l = l.found ≡ l.initial.found ++ map (λ (c : Change). c.literal) (take l.change-index l.changes)
