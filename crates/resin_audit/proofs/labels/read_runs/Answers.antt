use Rattle.std.proofs.Common.{◌∙◌, arith}
use Rattle.resin_audit.proofs.Taking.{runs_exit, runs_step}
use Rattle.resin_audit.proofs.labels.read_runs.Goals as goal

pub returns-in_err-read : goal.returns-in_err-read
returns-in_err-read c =
    runs_exit c.args.count c.loop-line.line c.loop-line.runs c.loop-line.rest c.read.new.rest _ _ _ c.from_residual.result c.from_residual.ensures.1 (omega arith) c.loop-line.invariant c.in_err-read.ensures

pub loop-line-preserved : goal.loop-line-preserved
loop-line-preserved c =
    c.loop-line.invariant ∙ runs_step c.args.count c.loop-line.line c.loop-line.runs c.read.new.self c.loop-line.rest c.read.new.rest (omega arith) c.in_ok-read.ensures
