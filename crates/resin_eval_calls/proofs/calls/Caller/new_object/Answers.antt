use Rattle.resin_eval_channels.proofs.eval_nested_lemmas.Arms.{does_looked}
use Rattle.resin_eval_channels.proofs.meaning_lemmas.Composition.{does_exit, does_give, does_next, does_unbegun_exit}
use Rattle.resin_eval_calls.proofs.calls.Caller.new_object.Goals as goal

pub returns-in_err-o : goal.returns-in_err-o
returns-in_err-o g c =
    does_exit _ _ _ c.from_residual.ensures.1 ((c.in_err-o.ensures) _ _ _)

pub returns-in_err-constructor : goal.returns-in_err-constructor
returns-in_err-constructor g c =
    does_next _ _ ((c.in_ok-o.ensures) _ _ _) (does_unbegun_exit _ _ _ c.from_residual-in_err-constructor.ensures.1)

pub returns-in_err-construct : goal.returns-in_err-construct
returns-in_err-construct g c =
    does_next _ _ ((c.in_ok-o.ensures) _ _ _) (does_next _ _ (does_looked _ _ c.in_ok-constructor.ensures) (does_exit _ _ _ c.from_residual-in_err-construct.ensures.1 (c.in_err-construct.ensures)))

pub returns : goal.returns
returns g c =
    does_next _ _ ((c.in_ok-o.ensures) _ _ _) (does_next _ _ (does_looked _ _ c.in_ok-constructor.ensures) (does_next _ _ (c.in_ok-construct.ensures) (does_give _ _)))
