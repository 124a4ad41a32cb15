use Rattle.std.proofs.Common.{map, sym, ap, ◌∙◌}
use Rattle.resin_shadow.specs.Marks.{runs_of}
use Rattle.resin_shadow.specs.Runs.{run_of}
use Rattle.resin_shadow.proofs.Maximal.{runs_spelled}
use Rattle.resin_shadow.proofs.runs.FrozenRuns.runs.Goals as goal

pub returns : goal.returns
returns c = ap (map run_of) c.as_slice.ensures.value ∙ sym (runs_spelled (map run_of c.self.inside.table.runs.items) c.self.invariant.maximal) ∙ ap runs_of c.self.view_is
