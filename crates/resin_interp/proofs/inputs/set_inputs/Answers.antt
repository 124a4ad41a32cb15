use Rattle.resin_eval_calls.proofs.meaning_lemmas.Composition.{does_act, does_exit, does_next}
use Rattle.resin_interp.proofs.inputs.set_inputs.Goals as goal

pub returns-in_err-get : goal.returns-in_err-get
returns-in_err-get g c = does_exit _ _ _ c.from_residual.ensures.1 c.in_err-get.ensures

pub returns-in_err-post : goal.returns-in_err-post
returns-in_err-post g c = does_next _ _ c.in_ok-get.ensures (does_exit _ _ _ c.from_residual-in_err-post.ensures.1 c.in_err-post.ensures)

pub returns-in_err-cookie : goal.returns-in_err-cookie
returns-in_err-cookie g c = does_next _ _ c.in_ok-get.ensures (does_next _ _ c.in_ok-post.ensures (does_exit _ _ _ c.from_residual-in_err-cookie.ensures.1 c.in_err-cookie.ensures))

pub returns-in_err-server : goal.returns-in_err-server
returns-in_err-server g c =
    does_next _ _ c.in_ok-get.ensures (does_next _ _ c.in_ok-post.ensures (does_next _ _ c.in_ok-cookie.ensures (does_exit _ _ _ c.from_residual-in_err-server.ensures.1 c.in_err-server.ensures)))

pub returns-in_err-assign : goal.returns-in_err-assign
returns-in_err-assign g c =
    does_next _ _ c.in_ok-get.ensures (does_next _ _ c.in_ok-post.ensures (does_next _ _ c.in_ok-cookie.ensures (does_next _ _ c.in_ok-server.ensures (does_exit _ _ _ c.from_residual-in_err-assign.ensures.1 (does_act _ _ _ _ c.in_err-assign.ensures.acts)))))

pub returns-in_err-assign-2 : goal.returns-in_err-assign-2
returns-in_err-assign-2 g c =
    does_next _ _ c.in_ok-get.ensures (does_next _ _ c.in_ok-post.ensures (does_next _ _ c.in_ok-cookie.ensures (does_next _ _ c.in_ok-server.ensures (does_next _ _ (does_act _ _ _ _ c.in_ok-assign.ensures.acts) (does_exit _ _ _ c.from_residual-in_err-assign-2.ensures.1 (does_act _ _ _ _ c.in_err-assign-2.ensures.acts))))))

pub returns-in_err-assign-3 : goal.returns-in_err-assign-3
returns-in_err-assign-3 g c =
    does_next _ _ c.in_ok-get.ensures (does_next _ _ c.in_ok-post.ensures (does_next _ _ c.in_ok-cookie.ensures (does_next _ _ c.in_ok-server.ensures (does_next _ _ (does_act _ _ _ _ c.in_ok-assign.ensures.acts) (does_next _ _ (does_act _ _ _ _ c.in_ok-assign-2.ensures.acts) (does_exit _ _ _ c.from_residual-in_err-assign-3.ensures.1 (does_act _ _ _ _ c.in_err-assign-3.ensures.acts)))))))

pub returns : goal.returns
returns g c =
    does_next _ _ c.in_ok-get.ensures (does_next _ _ c.in_ok-post.ensures (does_next _ _ c.in_ok-cookie.ensures (does_next _ _ c.in_ok-server.ensures (does_next _ _ (does_act _ _ _ _ c.in_ok-assign.ensures.acts) (does_next _ _ (does_act _ _ _ _ c.in_ok-assign-2.ensures.acts) (does_next _ _ (does_act _ _ _ _ c.in_ok-assign-3.ensures.acts) (does_act _ _ _ _ c.assign-4.ensures.acts)))))))
