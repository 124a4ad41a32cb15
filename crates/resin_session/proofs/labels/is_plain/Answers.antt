use Rattle.std.proofs.Common.{◌∙◌}
use Rattle.resin_value.specs.Under.label.Sets.{empty}
use Rattle.resin_session.proofs.Runs.{all_runs}
use Rattle.resin_session.proofs.labels.is_plain.Goals as goal

pub returns : goal.returns
returns c = c.are_unlabelled.ensures ∙ all_runs empty c.args.text.now c.runs-runs.result.now c.runs-runs.ensures.runs c.runs-runs.ensures.spelled
