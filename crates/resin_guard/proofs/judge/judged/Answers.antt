use Rattle.std.proofs.Common.{Bool, false, List, get_or, Some, None, ap, ◌∙◌, arith}
use Rattle.resin_guard.proofs.Firsts.{by_places}
use Rattle.resin_guard.proofs.Judging.{verdict_is}
use Rattle.resin_guard.proofs.judge.judged.Goals as goal

pub returns-in-Some : goal.returns-in-Some
returns-in-Some c =
    verdict_is c.args.bad.now c.args.places.now c.args.text.now (Some c.in-Some.at)
    (by_places c.args.bad.now c.args.places.now c.args.text.now c.runs.result.now c.deref.result.now c.runs.ensures.spelled
    (c.deref.ensures.len ∙ c.in_ok-safe.ensures.all ∙ c.len.ensures.value)
    (λ k h. ap (λ (v : List Bool). get_or v k false) c.deref.ensures.value ∙ c.in_ok-safe.ensures.noted k (omega (arith, c.len.ensures.value)))
    (Some c.in-Some.at) c.in-Some.ensures)

pub returns : goal.returns
returns c =
    verdict_is c.args.bad.now c.args.places.now c.args.text.now None
    (by_places c.args.bad.now c.args.places.now c.args.text.now c.runs.result.now c.deref.result.now c.runs.ensures.spelled
    (c.deref.ensures.len ∙ c.in_ok-safe.ensures.all ∙ c.len.ensures.value)
    (λ k h. ap (λ (v : List Bool). get_or v k false) c.deref.ensures.value ∙ c.in_ok-safe.ensures.noted k (omega (arith, c.len.ensures.value)))
    None c.in-None.ensures)
