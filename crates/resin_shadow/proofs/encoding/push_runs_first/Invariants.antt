-- The runs before the index are written.
use Rattle.std.proofs.Common.{◌≡◌, ◌++◌, take}
use Rattle.std.specs.List.{flat_map}
use Rattle.resin_shadow.specs.Printed.{run_text1}
use Rattle.resin_shadow.proofs.encoding.push_runs_first.Given as goal

abbrev pub invariant-loop-run : goal.invariant-loop-run
invariant-loop-run l = l.text ≡ l.initial.text ++ flat_map (run_text1 l.table.sets.keys l.texts.keys) (take l.run-index l.table.runs.items)
