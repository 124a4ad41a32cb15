use Rattle.std.proofs.Common.{refl, sym}
use Rattle.resin_session.proofs.Runs.{only_run, not_one_run}
use Rattle.resin_session.proofs.labels.one_set.Goals as goal

pub returns-then-count-eq1 : goal.returns-then-count-eq1
returns-then-count-eq1 c = sym (only_run c.args.text.now c.runs-runs.result.now _ c.index-runs-0.result c.runs-runs.ensures.runs c.runs-runs.ensures.spelled c.if-count-eq1.true refl)

pub returns-else-count-eq1 : goal.returns-else-count-eq1
returns-else-count-eq1 c = sym (not_one_run c.args.text.now c.runs-runs.result.now c.runs-runs.ensures.runs c.runs-runs.ensures.spelled c.if-count-eq1.false)
