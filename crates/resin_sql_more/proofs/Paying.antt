-- What all calls come to, by what looking at the rows costs.
use Rattle.std.proofs.Common.{◌≡◌, ℕ, ◌<◌, ◌≤◌, cond, sym, ap, ◌∙◌}
use Rattle.std.proofs.lemmas.Bool.{lt-ltb, le-ltb}
use Rattle.resin_sql_more.specs.declared.answer.MoreAnswer.{MoreAnswer}
use Rattle.resin_sql_more.specs.Plans.{Answers, Costs, paid}

-- a cost that has another name
pub unpaid : (left price cost : ℕ) (answer : MoreAnswer) → price ≡ cost → left < price → paid left cost answer ≡ Costs
unpaid left price cost answer same less = ap (λ c. paid left c answer) (sym same) ∙ ap (λ b. cond b Costs (Answers answer)) (lt-ltb left price less)

pub is_paid : (left price cost : ℕ) (given answer : MoreAnswer) → price ≡ cost → price ≤ left → given ≡ answer → paid left cost answer ≡ Answers given
is_paid left price cost given answer same less is =
    ap (λ c. paid left c answer) (sym same) ∙ (ap (λ b. cond b Costs (Answers answer)) (le-ltb left price less) ∙ ap Answers (sym is))
