use Rattle.std.proofs.Common.{◌≡◌, ◌++◌, ◌-◌, ◌/◌, ◌%◌, length, take, drop, ap, ◌∙◌, arith}
use Rattle.std.specs.List.{repeat}
use Rattle.std.proofs.lemmas.Result.{err_from_is_err_and}
use Rattle.resin_lstr.proofs.Pieces.{fault_front}
use Rattle.resin_text_fn.specs.Rows.{cycled}
use Rattle.resin_text_fn.proofs.Joins.{cycled_is, copies_short}
use Rattle.resin_text_fn.proofs.join.cycled.Goals as goal

pub returns-in_err-whole : goal.returns-in_err-whole
returns-in_err-whole c =
    let p = err_from_is_err_and c.from_residual.result c.from_residual.ensures.1 in
    rw (p.1, p.2)
    (fault_front _ _ (cycled c.args.len c.args.p.now)
    (omega (arith, ap (λ l. length (repeat (c.args.len / l) c.args.p.now)) c.len.ensures.value, copies_short c.args.len c.args.p.now c.requires))
    c.in_err-whole.ensures)

pub returns-in_err-out : goal.returns-in_err-out
returns-in_err-out c =
    let p = c.args.p.now in
    let rest : c.args.len % c.len-2.result - 0 ≡ c.args.len % length c.args.p.now = let e = ap (λ l. c.args.len % l) c.len-2.ensures.value in omega (arith, e) in
    let same : c.in_ok-append.field-0 ++ take (c.args.len % c.len-2.result - 0) (drop 0 c.args.p.now) ≡ cycled c.args.len c.args.p.now =
    ap (λ o. o ++ take (c.args.len % c.len-2.result - 0) (drop 0 p))
    (c.in_ok-append.ensures.0 ∙ ap (λ o. o ++ c.in_ok-whole.whole) c.new.ensures ∙ c.in_ok-whole.ensures.0 ∙ ap (λ l. repeat (c.args.len / l) p) c.len.ensures.value)
    ∙ ap (λ k. repeat (c.args.len / length p) p ++ take k p) rest
    ∙ cycled_is c.args.len c.args.p.now c.requires in
    let q = err_from_is_err_and c.from_residual-in_err-out.result c.from_residual-in_err-out.ensures.1 in
    rw (q.1, q.2)
    (fault_front _ _ (cycled c.args.len c.args.p.now) (omega (arith, ap length same)) c.in_err-out.ensures)

pub returns : goal.returns
returns c =
    let p = c.args.p.now in
    let rest : c.args.len % c.len-2.result - 0 ≡ c.args.len % length c.args.p.now = let e = ap (λ l. c.args.len % l) c.len-2.ensures.value in omega (arith, e) in
    let same : c.in_ok-append.field-0 ++ take (c.args.len % c.len-2.result - 0) (drop 0 c.args.p.now) ≡ cycled c.args.len c.args.p.now =
    ap (λ o. o ++ take (c.args.len % c.len-2.result - 0) (drop 0 p))
    (c.in_ok-append.ensures.0 ∙ ap (λ o. o ++ c.in_ok-whole.whole) c.new.ensures ∙ c.in_ok-whole.ensures.0 ∙ ap (λ l. repeat (c.args.len / l) p) c.len.ensures.value)
    ∙ ap (λ k. repeat (c.args.len / length p) p ++ take k p) rest
    ∙ cycled_is c.args.len c.args.p.now c.requires in
    (c.in_ok-finish.ensures ∙ c.in_ok-out.ensures.0 ∙ same, omega (arith, ap length same, c.in_ok-out.ensures.1))
