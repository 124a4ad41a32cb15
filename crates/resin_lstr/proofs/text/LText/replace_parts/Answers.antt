use Rattle.std.proofs.Common.{◌≡◌, ◌+◌, ◌-◌, ◌++◌, [], length, take, drop, get_or, ap, ◌∙◌, sym, arith}
use Rattle.std.proofs.lemmas.List.{drop_all}
use Rattle.std.proofs.lemmas.Result.{err_from_is_err_and}
use Rattle.resin_lstr.specs.Texts.{with_parts}
use Rattle.resin_lstr.proofs.Pieces.{parts_begin, parts_rest, part_short, all_behind, fault_front}
use Rattle.resin_lstr.proofs.text.LText.replace_parts.Goals as goal

pub append_part-requires-clause-within : goal.append_part-requires-clause-within
append_part-requires-clause-within c =
    omega (arith, parts_begin c.as_slice-start-items.result.now c.args.parts.now c.as_slice-start-items.ensures c.loop-start.start-index c.loop-start.from (length c.args.self.now) c.loop-start-test.true c.loop-start.invariant.parts)

pub returns-in_err-out : goal.returns-in_err-out
returns-in_err-out c =
    let whole = with_parts 0 c.args.parts.now c.args.with.now c.args.self.now in
    let p = err_from_is_err_and c.from_residual-in_err-out.result c.from_residual-in_err-out.ensures.1 in
    rw (p.1, p.2)
    (fault_front _ _ whole
    (omega (
      arith,
      part_short c.loop-start.from (get_or c.as_slice-start-items.result.now c.loop-start.start-index (0, 0)) (drop (c.loop-start.start-index + 1) c.args.parts.now) c.args.with.now c.args.self.now c.loop-start.out whole
          (parts_rest c.as_slice-start-items.result.now c.args.parts.now c.as_slice-start-items.ensures c.loop-start.start-index c.loop-start-test.true c.loop-start.from c.args.with.now c.args.self.now c.loop-start.out whole c.loop-start.invariant.is),
      ap (λ t. length (t ++ c.args.with.now)) c.in_ok-append_part.ensures.0,
    ))
    c.in_err-out.ensures)

pub returns : goal.returns
returns c =
    let whole = with_parts 0 c.args.parts.now c.args.with.now c.args.self.now in
    let none : drop c.loop-start.start-index c.args.parts.now ≡ [] = drop_all c.loop-start.start-index c.args.parts.now (omega (arith, c.loop-start-test.false, ap length c.as_slice-start-items.ensures)) in
    let is : c.loop-start.out ++ drop c.loop-start.from c.args.self.now ≡ with_parts 0 c.args.parts.now c.args.with.now c.args.self.now
    = ap (λ ps. c.loop-start.out ++ with_parts c.loop-start.from ps c.args.with.now c.args.self.now) (sym none) ∙ c.loop-start.invariant.is in
    let joined : c.loop-start.out ++ take (c.len.result - c.loop-start.from) (drop c.loop-start.from c.args.self.now) ≡ with_parts 0 c.args.parts.now c.args.with.now c.args.self.now
    = ap (λ n. c.loop-start.out ++ take (n - c.loop-start.from) (drop c.loop-start.from c.args.self.now)) c.len.ensures.value
    ∙ ap (λ t. c.loop-start.out ++ t) (all_behind c.args.self.now c.loop-start.from) ∙ is in
    (c.in_ok-finish.ensures ∙ c.in_ok-out-2.ensures.0 ∙ joined, omega (arith, ap length joined, c.in_ok-out-2.ensures.1))
