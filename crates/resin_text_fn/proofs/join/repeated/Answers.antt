use Rattle.std.proofs.Common.{◌≡◌, ◌++◌, ◌/◌, length, ap, ◌∙◌, arith, length-append}
use Rattle.std.specs.List.{repeat}
use Rattle.std.proofs.lemmas.Result.{err_from_is_err_and}
use Rattle.resin_lstr.proofs.Pieces.{fault_front}
use Rattle.resin_text_fn.proofs.Joins.{even_step, odd_step, copy_short}
use Rattle.resin_text_fn.proofs.join.repeated.Goals as goal
use Rattle.resin_text_fn.proofs.join.repeated.Goals.{then-left-eq1+in_ok-out, else-left-eq1}

pub returns-in_err-block-2 : goal.returns-in_err-block-2
returns-in_err-block-2 c =
    let block = c.loop-left.block in
    let whole = repeat c.args.times c.args.s.now in
    let n = c.loop-left.left in
    let is : c.if-left-eq1.out ++ repeat (c.loop-left.left / 2) (c.loop-left.block ++ c.loop-left.block) ≡ repeat c.args.times c.args.s.now = elim c.if-left-eq1.branch [
      | then-left-eq1+in_ok-out w ↦ ap (λ o. o ++ repeat (n / 2) (block ++ block)) (w.out-is ∙ w.in_ok-out.ensures.0) ∙ odd_step c.loop-left.out block n w.if-left-eq1.true ∙ c.loop-left.invariant.is
      | else-left-eq1 w ↦ ap (λ o. o ++ repeat (n / 2) (block ++ block)) w.out-is ∙ even_step c.loop-left.out block n (omega arith) ∙ c.loop-left.invariant.is
    ] in
    let p = err_from_is_err_and c.from_residual-in_err-block-2.result c.from_residual-in_err-block-2.ensures.1 in
    rw (p.1, p.2)
    (fault_front _ _ whole
    (omega (
      arith,
      copy_short (c.loop-left.left / 2) (c.loop-left.block ++ c.loop-left.block) (omega arith),
      length-append c.if-left-eq1.out (repeat (c.loop-left.left / 2) (c.loop-left.block ++ c.loop-left.block)),
      ap length is,
    ))
    c.in_err-block-2.ensures)

pub loop-left-preserved : goal.loop-left-preserved
loop-left-preserved c =
    let block = c.loop-left.block in
    let n = c.loop-left.left in
    let is : c.if-left-eq1.out ++ repeat (c.loop-left.left / 2) (c.loop-left.block ++ c.loop-left.block) ≡ repeat c.args.times c.args.s.now = elim c.if-left-eq1.branch [
      | then-left-eq1+in_ok-out w ↦ ap (λ o. o ++ repeat (n / 2) (block ++ block)) (w.out-is ∙ w.in_ok-out.ensures.0) ∙ odd_step c.loop-left.out block n w.if-left-eq1.true ∙ c.loop-left.invariant.is
      | else-left-eq1 w ↦ ap (λ o. o ++ repeat (n / 2) (block ++ block)) w.out-is ∙ even_step c.loop-left.out block n (omega arith) ∙ c.loop-left.invariant.is
    ] in
    record {
      is = ap (λ b. c.if-left-eq1.out ++ repeat (c.loop-left.left / 2) b) c.in_ok-block-2.ensures.0 ∙ is;
      short = elim c.if-left-eq1.branch [
        | then-left-eq1+in_ok-out w ↦ omega (arith, ap length w.out-is, ap length w.in_ok-out.ensures.0, w.in_ok-out.ensures.1)
        | else-left-eq1 w ↦ omega (arith, ap length w.out-is, c.loop-left.invariant.short)
      ];
    }
