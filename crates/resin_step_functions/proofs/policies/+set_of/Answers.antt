use Rattle.std.proofs.Common.{refl, subst, ◌∙◌}
use Rattle.std.specs.Prelude.{◌≡◌, IfOk}
use Rattle.resin_step_functions.proofs.Numbers.{halves, one_number}
use Rattle.resin_step_functions.proofs.policies.+set_of.Goals as goal

pub returns-in_ok-one-in-len1 : goal.returns-in_ok-one-in-len1
returns-in_ok-one-in-len1 t c =
    c.in_ok-one-in-len1.ensures ∙ one_number c.args.numbers.now _ _ c.in-len1.len_at_least c.in-len1.len_below c.empty-in-len1.ensures refl

pub returns-in_ok-behind-in_default : goal.returns-in_ok-behind-in_default
returns-in_ok-behind-in_default t c =
    subst (λ x. IfOk c.union.result (λ s. s ≡ x)) (halves _ c.args.numbers.now _ _ _ _ refl refl c.in_ok-front-in_default.ensures c.in_ok-behind-in_default.ensures) c.union.ensures
