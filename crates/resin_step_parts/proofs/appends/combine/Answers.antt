use Rattle.resin_meaning_forms.proofs.meaning_lemmas.Composition.{does_exit, does_loosely, does_next, does_stop}
use Rattle.resin_step_parts.proofs.Extended.{appended_as}
use Rattle.resin_step_parts.proofs.Steps.{runs_as}
use Rattle.resin_step_parts.proofs.appends.combine.Goals as goal

pub returns-in_err-x : goal.returns-in_err-x
returns-in_err-x c =
    runs_as _ _ _ _ _ (appended_as c.args.t.now.variable c.new-path.result c.args.y.now c.new-path.ensures)
    (λ f t k. does_exit _ _ _ c.from_residual.ensures.1 (does_loosely _ f t k c.in_err-x.ensures.acts))

pub returns-in_err-charge_two : goal.returns-in_err-charge_two
returns-in_err-charge_two c =
    runs_as _ _ _ _ _ (appended_as c.args.t.now.variable c.new-path.result c.args.y.now c.new-path.ensures)
    (λ f t k. does_next _ _ (does_loosely _ f t k c.in_ok-x.ensures.acts) (does_exit _ _ _ c.from_residual-in_err-charge_two.ensures.1 (does_stop _ _ (c.in_err-charge_two.ensures f t k))))

pub returns-in_err-v : goal.returns-in_err-v
returns-in_err-v c =
    runs_as _ _ _ _ _ (appended_as c.args.t.now.variable c.new-path.result c.args.y.now c.new-path.ensures)
    (λ f t k. does_next _ _ (does_loosely _ f t k c.in_ok-x.ensures.acts) (does_exit _ _ _ c.from_residual-in_err-v.ensures.1 (does_next _ _ (c.in_ok-charge_two.ensures f t k) (c.in_err-v.ensures f t k))))

pub returns : goal.returns
returns c =
    runs_as _ _ _ _ _ (appended_as c.args.t.now.variable c.new-path.result c.args.y.now c.new-path.ensures)
    (λ f t k. does_next _ _ (does_loosely _ f t k c.in_ok-x.ensures.acts) (does_next _ _ (does_next _ _ (c.in_ok-charge_two.ensures f t k) (c.in_ok-v.ensures f t k)) (c.stored_value.ensures f t k)))
