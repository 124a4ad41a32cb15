use Rattle.resin_eval_nested.proofs.meaning_lemmas.Composition.{does_act}
use Rattle.resin_eval_nested.proofs.step_parts_lemmas.Steps.{does_handed}
use Rattle.resin_eval_writes.proofs.WriteLemmas.{denial_stops, denied, passes_on}
use Rattle.resin_eval_writes.proofs.leaving.judge.Goals as goal

pub returns-in-Ok-clause-does : goal.returns-in-Ok-clause-does
returns-in-Ok-clause-does c =
    λ f t k. rw c.in-Ok.is (does_act _ f t k c.pass.ensures.acts)

pub returns-in-Ok-clause-passed : goal.returns-in-Ok-clause-passed
returns-in-Ok-clause-passed c =
    passes_on c.args.write c.args.policy _ _ _ c.pass.ensures.acts

pub returns-in_err-deny-in-Err-clause-does : goal.returns-in_err-deny-in-Err-clause-does
returns-in_err-deny-in-Err-clause-does c =
    rw c.in-Err.is (λ f t k. does_handed _ _ c.from_residual.ensures.1 (denial_stops c.args.write c.args.policy c.in-Err.thrown c.args.channel c.args.text.now c.carrying_run-from.result _ _ _ c.carrying_run-from.ensures.value c.in_err-deny-in-Err.ensures.acts f t k))

pub returns-in_ok-deny-in-Err-clause-does : goal.returns-in_ok-deny-in-Err-clause-does
returns-in_ok-deny-in-Err-clause-does c =
    rw c.in-Err.is (denied c.args.write c.args.policy c.in-Err.thrown c.args.channel c.args.text.now c.carrying_run-from.result _ _ c.carrying_run-from.ensures.value c.in_ok-deny-in-Err.ensures.acts)
