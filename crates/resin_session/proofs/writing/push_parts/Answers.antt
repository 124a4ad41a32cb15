use Rattle.std.proofs.Common.{◌≡◌, [], ◌∷◌, ◌++◌, Err, ap, subst, ◌∙◌}
use Rattle.std.proofs.lemmas.Result.{err_from_is_err_and}
use Rattle.resin_value.specs.Under.label.Sets.{empty}
use Rattle.resin_value.specs.Under.lstr.Texts.{carrying}
use Rattle.resin_value.specs.Under.lstr.Faults.{GivesText}
use Rattle.resin_session.proofs.Written.{fault_within, joined, first_within, second_within}
use Rattle.resin_session.proofs.writing.push_parts.Goals as goal

pub returns-in_err-out : goal.returns-in_err-out
returns-in_err-out c =
    let h = c.args.head.now in
    let p = err_from_is_err_and c.from_residual.result c.from_residual.ensures.1 in
    rw (p.1, p.2)
    (fault_within _ (c.args.out ++ carrying empty h) _ (first_within c.args.out (carrying empty h) c.args.value.now)
    (subst (λ s. GivesText (Err c.in_err-out.field-0.0) (c.args.out ++ carrying s h)) c.empty-none.ensures c.in_err-out.ensures))

pub returns-in_err-out-2 : goal.returns-in_err-out-2
returns-in_err-out-2 c =
    let h = c.args.head.now in
    let one : c.in_ok-out.out ≡ c.args.out ++ carrying empty h = c.in_ok-out.ensures.0 ∙ ap (λ s. c.args.out ++ carrying s h) c.empty-none.ensures in
    let p = err_from_is_err_and c.from_residual-in_err-out-2.result c.from_residual-in_err-out-2.ensures.1 in
    rw (p.1, p.2)
    (fault_within _ ((c.args.out ++ carrying empty h) ++ c.args.value.now) _ (second_within c.args.out (carrying empty h) c.args.value.now)
    (subst (λ o. GivesText (Err c.in_err-out-2.field-0.0) (o ++ c.args.value.now)) one c.in_err-out-2.ensures))

pub returns : goal.returns
returns c =
    let h = c.args.head.now in
    let one : c.in_ok-out.out ≡ c.args.out ++ carrying empty h = c.in_ok-out.ensures.0 ∙ ap (λ s. c.args.out ++ carrying s h) c.empty-none.ensures in
    let whole = ap (λ o. o ++ carrying c.empty-none.result (10 ∷ [])) (c.in_ok-out-2.ensures.0 ∙ ap (λ o. o ++ c.args.value.now) one)
    ∙ ap (λ s. ((c.args.out ++ carrying empty h) ++ c.args.value.now) ++ carrying s (10 ∷ [])) c.empty-none.ensures
    ∙ joined c.args.out (carrying empty h) c.args.value.now in
    subst (GivesText c.append_bytes-2.result) whole c.append_bytes-2.ensures
