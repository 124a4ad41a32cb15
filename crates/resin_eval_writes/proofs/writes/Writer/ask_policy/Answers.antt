use Rattle.resin_eval_nested.proofs.meaning_lemmas.Composition.{does_exit, does_give, does_next, does_unbegun_exit}
use Rattle.resin_eval_writes.proofs.writes.Writer.ask_policy.Goals as goal

pub returns-in_err-clone : goal.returns-in_err-clone
returns-in_err-clone g c =
    does_unbegun_exit _ _ _ c.from_residual.ensures.1

pub returns-in_err-push : goal.returns-in_err-push
returns-in_err-push g c =
    does_unbegun_exit _ _ _ c.from_residual-in_err-push.ensures.1

pub returns-in_err-_answer : goal.returns-in_err-_answer
returns-in_err-_answer g c =
    does_exit _ _ _ c.from_residual-in_err-_answer.ensures.1 (rw (c.in_ok-push.ensures.ok, c.new-args.ensures, c.in_ok-clone.ensures.cases) at c.in_err-_answer.ensures)

pub returns : goal.returns
returns g c =
    does_next _ _ (rw (c.in_ok-push.ensures.ok, c.new-args.ensures, c.in_ok-clone.ensures.cases) at c.in_ok-_answer.ensures) (does_give _ _)
