use Rattle.resin_shadow.specs.Runs.{marks_of}
use Rattle.resin_shadow.proofs.Apart.{not_there, is_there, ok_then}
use Rattle.resin_shadow.proofs.parts.push_placed.Goals as goal

pub returns-in_default-clause-marks : goal.returns-in_default-clause-marks
returns-in_default-clause-marks c = not_there c.args.kinds.now c.args.len c.args.place (marks_of c.args.table.now.runs.items) c.in_default.ensures.lookup.3

pub returns-clause-marks : goal.returns-clause-marks
returns-clause-marks c =
    ok_then c.push_kind.result
    (is_there c.args.kinds.now c.args.len c.args.place c.in-Some.kind.now (marks_of c.args.table.now.runs.items) (marks_of c.push_kind.new.self.runs.items) c.in-Some.ensures.lookup.3.0 c.in-Some.ensures.lookup.1)
    c.push_kind.ensures.ok
