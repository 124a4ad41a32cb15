use Rattle.std.proofs.Common.{◌≡◌, map, take}
use Rattle.resin_shadow.proofs.parts.runs_in.Given as goal

abbrev pub invariant-loop-run : goal.invariant-loop-run
invariant-loop-run l = l.runs.items ≡ map (λ r. (r.len, r.kind)) (take l.run-index l.table.runs.items)
