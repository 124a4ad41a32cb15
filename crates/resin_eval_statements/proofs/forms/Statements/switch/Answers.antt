use Rattle.resin_eval_writes.proofs.meaning_lemmas.Composition.{does_next, does_exit}
use Rattle.resin_eval_statements.proofs.forms.Statements.switch.Goals as goal

pub returns-in_err-v : goal.returns-in_err-v
returns-in_err-v g c =
    does_exit _ _ _ c.from_residual.ensures.1 (c.in_err-v.ensures.does)

pub returns-in_err-from : goal.returns-in_err-from
returns-in_err-from g c =
    does_next _ _ (c.in_ok-v.ensures.does) (does_exit _ _ _ c.from_residual-in_err-from.ensures.1 (c.in_err-from.ensures))

pub returns : goal.returns
returns g c =
    does_next _ _ (c.in_ok-v.ensures.does) (does_next _ _ (c.in_ok-from.ensures) (c.run_cases.ensures))
