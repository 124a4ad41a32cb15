use Rattle.resin_eval_writes.proofs.WriteLemmas.{carried_range}
use Rattle.std.proofs.Common.{ap, sym, ◌∙◌}
use Rattle.std.specs.Prelude.{unwrap_or}
use Rattle.resin_eval_writes.proofs.leaving.carrying_run.Goals as goal

pub returns-in-Some-clause-range : goal.returns-in-Some-clause-range
returns-in-Some-clause-range c =
    carried_range c.args.policy c.args.text.now _ (ap (λ o. unwrap_or o (0, 0)) (sym c.in-Some.is ∙ c.first_run_of.ensures))

pub returns-in-None-clause-range : goal.returns-in-None-clause-range
returns-in-None-clause-range c =
    carried_range c.args.policy c.args.text.now _ (ap (λ o. unwrap_or o (0, 0)) (sym c.in-None.is ∙ c.first_run_of.ensures))
