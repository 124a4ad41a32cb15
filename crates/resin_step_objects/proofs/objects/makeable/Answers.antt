use Rattle.resin_step_functions.proofs.meaning_lemmas.Composition.{does_act, does_exit}
use Rattle.resin_step_objects.proofs.Found.{made_of, unmakeable}
use Rattle.std.proofs.Common.{arith, ◌∙◌}
use Rattle.resin_step_objects.proofs.objects.makeable.Goals as goal

pub returns-in_err-class : goal.returns-in_err-class
returns-in_err-class c =
    λ f t k. does_exit _ _ _ c.from_residual.ensures.1 (does_act _ f t k c.in_err-class.ensures.acts)

pub returns-then-class-number : goal.returns-then-class-number
returns-then-class-number c =
    unmakeable c.args.name.now _ _ c.in_ok-class.class _ c.in_ok-class.ensures.acts (c.if-class-number.true ∙ c.number.ensures) c.fault.ensures

pub returns : goal.returns
returns c =
    made_of c.args.name.now _ _ c.in_ok-class.class c.in_ok-class.ensures.acts (λ h. omega (arith, h, c.if-class-number.false, c.number.ensures))
