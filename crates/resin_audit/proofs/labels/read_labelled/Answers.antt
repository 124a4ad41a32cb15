use Rattle.std.proofs.Common.{arith}
use Rattle.resin_audit.proofs.Carrying.{carried_exit, carried_left, carried_there, carried_none}
use Rattle.resin_audit.proofs.labels.read_labelled.Goals as goal

pub returns-in_err-runs : goal.returns-in_err-runs
returns-in_err-runs c = carried_exit c.args.len c.args.count c.args.rest.now _ _ _ c.from_residual.result c.from_residual.ensures.1 c.in_err-runs.ensures

pub returns-then-runs-gt0 : goal.returns-then-runs-gt0
returns-then-runs-gt0 c = carried_left c.args.len c.args.count c.args.rest.now c.in_ok-runs.runs c.read_runs.new.rest c.in_ok-runs.ensures (omega arith)

pub returns-in-Some : goal.returns-in-Some
returns-in-Some c = carried_there c.args.len c.args.count c.args.rest.now c.in_ok-runs.runs c.read_runs.new.rest c.pass.new.self c.in_ok-runs.ensures (omega arith) c.in-Some.ensures

pub returns-in-None : goal.returns-in-None
returns-in-None c = carried_none c.args.len c.args.count c.args.rest.now c.in_ok-runs.runs c.read_runs.new.rest c.in_ok-runs.ensures (omega arith) c.in-None.ensures
