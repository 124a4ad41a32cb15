use Rattle.std.proofs.Common.{sym, subst, ap, ◌∙◌, length}
use Rattle.resin_shadow.specs.Marks.{AreMarks}
use Rattle.resin_shadow.proofs.Kept.{count_of, marks_of_table}
use Rattle.resin_shadow.proofs.runs.FrozenRuns.len.Goals as goal

pub returns-clause-count : goal.returns-clause-count
returns-clause-count c = sym (count_of c.self.inside.table c.self.invariant) ∙ ap length c.self.view_is

pub returns-clause-marks : goal.returns-clause-marks
returns-clause-marks c = subst AreMarks c.self.view_is (marks_of_table c.self.inside.table c.self.invariant)
