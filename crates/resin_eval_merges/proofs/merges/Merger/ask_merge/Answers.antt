use Rattle.resin_eval_nested.proofs.Arms.{does_settled}
use Rattle.resin_eval_nested.proofs.meaning_lemmas.Composition.{does_exit, does_give, does_lost_exit, does_next, does_stop}
use Rattle.resin_eval_nested.proofs.meaning_lemmas.Enclosures.{does_quietly}
use Rattle.resin_eval_merges.proofs.merges.Merger.ask_merge.Goals as goal

pub returns-in_err-set : goal.returns-in_err-set
returns-in_err-set g c =
    does_exit _ _ _ c.from_residual.ensures.1 (does_stop _ _ (does_settled _ _ c.object_list.ensures c.in_err-set.ensures.acts))

pub returns-in_err-push : goal.returns-in_err-push
returns-in_err-push g c =
    does_lost_exit _ _ _ c.from_residual-in_err-push.ensures.1 (does_next _ _ (does_settled _ _ c.object_list.ensures c.in_ok-set.ensures.acts) (does_give _ _))

pub returns : goal.returns
returns g c =
    does_next _ _ (does_next _ _ (does_settled _ _ c.object_list.ensures c.in_ok-set.ensures.acts) (does_give _ _)) (does_quietly _ _ _ _ _ _ c.hush-was.ensures.after c.hush-was.ensures.was c.restore.ensures (rw (c.in_ok-push.ensures.ok, c.new-args.ensures) at c.call_object-answer.ensures))
