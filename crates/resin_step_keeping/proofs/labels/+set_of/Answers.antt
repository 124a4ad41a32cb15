use Rattle.std.proofs.Common.{◌≡◌, refl, subst}
use Rattle.std.specs.Prelude.{IfOk}
use Rattle.resin_step_keeping.proofs.Labelling.{halves}
use Rattle.resin_step_keeping.proofs.labels.+set_of.Goals as goal

pub returns-in_ok-behind-in_default : goal.returns-in_ok-behind-in_default
returns-in_ok-behind-in_default t c =
    subst (λ x. IfOk c.union.result (λ s. s ≡ x)) (halves _ c.args.numbers.now _ _ c.in_ok-front-in_default.front c.in_ok-behind-in_default.behind _ refl refl c.in_ok-front-in_default.ensures c.in_ok-behind-in_default.ensures refl) c.union.ensures
