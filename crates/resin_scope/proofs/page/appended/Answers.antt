use Rattle.std.proofs.Common.{◌≡◌, ◌-◌, ◌++◌, [], ◌∷◌, length, take, ap, ◌∙◌, arith}
use Rattle.std.proofs.lemmas.Result.{err_from_is_err_and}
use Rattle.resin_scope.proofs.PageLemmas.{refused, grown}
use Rattle.resin_scope.proofs.page.appended.Goals as goal

pub returns-in_err-text : goal.returns-in_err-text
returns-in_err-text c =
    let p = err_from_is_err_and c.from_residual.result c.from_residual.ensures.1 in
    rw (p.1, p.2)
    (refused c.args.t.now c.args.buffers.now (length c.args.buffers.now - 1) (omega (arith, c.requires)) c.index-buffers-innermost.result
    c.index-buffers-innermost.is c.in_err-text.field-0.0 c.in_err-text.ensures)

pub returns : goal.returns
returns c =
    let kept : c.in_ok-joined.joined ≡ take (length c.args.buffers.now - 1) c.args.buffers.now = grind (arith, c.in_ok-joined.ensures) in
    grown c.args.t.now c.args.buffers.now (length c.args.buffers.now - 1) (omega (arith, c.requires)) c.index-buffers-innermost.result
    c.index-buffers-innermost.is c.in_ok-text.text c.push.new.self c.in_ok-text.ensures
    (c.in_ok-push.ensures.ok ∙ ap (λ x. x ++ c.in_ok-text.text ∷ []) kept)
