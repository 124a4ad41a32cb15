use Rattle.resin_eval_nested.proofs.Arms.{does_faulted}
use Rattle.resin_eval_nested.proofs.Exits.{does_is}
use Rattle.resin_eval_writes.proofs.Others.{no_text_answer}
use Rattle.resin_eval_nested.proofs.meaning_lemmas.Composition.{does_exit, does_give, does_next, does_unbegun_exit}
use Rattle.resin_eval_writes.proofs.reading.Reader.ask_filter.Goals as goal

pub returns-in_err-clone : goal.returns-in_err-clone
returns-in_err-clone g c =
    does_unbegun_exit _ _ _ c.from_residual.ensures.1

pub returns-in_err-push : goal.returns-in_err-push
returns-in_err-push g c =
    does_unbegun_exit _ _ _ c.from_residual-in_err-push.ensures.1

pub returns-in_err-clone-2 : goal.returns-in_err-clone-2
returns-in_err-clone-2 g c =
    does_unbegun_exit _ _ _ c.from_residual-in_err-clone-2.ensures.1

pub returns-in_err-push-2 : goal.returns-in_err-push-2
returns-in_err-push-2 g c =
    does_unbegun_exit _ _ _ c.from_residual-in_err-push-2.ensures.1

pub returns-in_err-answer : goal.returns-in_err-answer
returns-in_err-answer g c =
    does_exit _ _ _ c.from_residual-in_err-answer.ensures.1 (rw (c.in_ok-push-2.ensures.ok, c.in_ok-push.ensures.ok, c.new-args.ensures, c.in_ok-clone.ensures.cases, c.in_ok-clone-2.ensures.cases) at c.in_err-answer.ensures)

pub returns-in-Text : goal.returns-in-Text
returns-in-Text g c =
    does_next _ _ (rw (c.in_ok-push-2.ensures.ok, c.in_ok-push.ensures.ok, c.new-args.ensures, c.in_ok-clone.ensures.cases, c.in_ok-clone-2.ensures.cases) at c.in_ok-answer.ensures) (rw c.in-Text.is (does_give _ _))

pub returns : goal.returns
returns g c =
    does_next _ _ (rw (c.in_ok-push-2.ensures.ok, c.in_ok-push.ensures.ok, c.new-args.ensures, c.in_ok-clone.ensures.cases, c.in_ok-clone-2.ensures.cases) at c.in_ok-answer.ensures) (does_is (no_text_answer _ c.in_default.not-Text) (does_faulted _ _ c.fault.ensures))
