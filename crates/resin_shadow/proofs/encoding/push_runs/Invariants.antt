-- The runs before the index are written.
use Rattle.std.proofs.Common.{◌≡◌, ◌++◌, take}
use Rattle.std.specs.List.{flat_map}
use Rattle.resin_shadow.specs.Printed.{run_text2}
use Rattle.resin_shadow.proofs.encoding.push_runs.Given as goal

abbrev pub invariant-loop-run : goal.invariant-loop-run
invariant-loop-run l = l.text ≡ l.initial.text ++ flat_map (run_text2 l.sets.keys) (take l.run-index l.table.runs.items)
