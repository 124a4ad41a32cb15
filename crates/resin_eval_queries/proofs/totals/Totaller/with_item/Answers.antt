use Rattle.resin_eval_writes.proofs.meaning_lemmas.Composition.{does_exit, does_next, does_unbegun_exit}
use Rattle.resin_eval_queries.proofs.totals.Totaller.with_item.Goals as goal

pub returns-in_err-name : goal.returns-in_err-name
returns-in_err-name g c = does_unbegun_exit _ _ _ c.from_residual.ensures.1

pub returns-in_err-v : goal.returns-in_err-v
returns-in_err-v g c = does_exit _ _ _ c.from_residual-in_err-v.ensures.1 c.in_err-v.ensures

pub returns : goal.returns
returns g c = does_next _ _ c.in_ok-v.ensures ((rw (c.as_slice-2.ensures, c.in_ok-name.ensures) at c.with_named.ensures) _ _ _)
