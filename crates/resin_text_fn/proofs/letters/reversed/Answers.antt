use Rattle.std.proofs.Common.{◌≡◌, ◌<◌, ◌+◌, ◌-◌, ◌++◌, length, take, drop, sym, ap, ◌∙◌, arith}
use Rattle.std.specs.Prelude.{reverse, slice_range}
use Rattle.std.proofs.lemmas.List.{length-reverse}
use Rattle.std.proofs.lemmas.Result.{err_from_is_err_and}
use Rattle.resin_lstr.specs.Texts.{carrying}
use Rattle.resin_lstr.specs.Runs.{last_end}
use Rattle.resin_lstr.proofs.Pieces.{fault_front}
use Rattle.resin_text_fn.specs.Rows.{strrev}
use Rattle.resin_text_fn.proofs.Zipped.{backwards_ordered, backwards_within, backwards_more, reverse_short}
use Rattle.resin_text_fn.proofs.letters.reversed.Goals as goal

pub append_backwards-requires-clause-ordered : goal.append_backwards-requires-clause-ordered
append_backwards-requires-clause-ordered c =
    let lt : c.loop-left.left - 1 < length c.runs-runs.result.now = omega (arith, c.loop-left.invariant.within, c.loop-left-test.true) in
    omega (arith, c.end_of-start.ensures, backwards_ordered c.args.s.now c.runs-runs.result.now c.runs-runs.ensures.runs c.runs-runs.ensures.spelled (c.loop-left.left - 1) c.index-runs-left.result lt c.index-runs-left.is)

pub append_backwards-requires-clause-within : goal.append_backwards-requires-clause-within
append_backwards-requires-clause-within c =
    let lt : c.loop-left.left - 1 < length c.runs-runs.result.now = omega (arith, c.loop-left.invariant.within, c.loop-left-test.true) in
    omega (arith, ap length c.bytes-bytes.ensures, backwards_within c.args.s.now c.runs-runs.result.now c.runs-runs.ensures.runs c.runs-runs.ensures.spelled (c.loop-left.left - 1) c.index-runs-left.result lt c.index-runs-left.is)

pub returns-in_err-out : goal.returns-in_err-out
returns-in_err-out c =
    let s = c.args.s.now in
    let rs = c.runs-runs.result.now in
    let r = c.index-runs-left.result in
    let k = c.loop-left.left - 1 in
    let lt : c.loop-left.left - 1 < length c.runs-runs.result.now = omega (arith, c.loop-left.invariant.within, c.loop-left-test.true) in
    let e : c.loop-left.left - 1 + 1 ≡ c.loop-left.left = omega (arith, c.loop-left-test.true) in
    let more =
    ap (λ n. c.loop-left.out ++ carrying r.set (reverse (slice_range c.bytes-bytes.result.now n r.end))) c.end_of-start.ensures
    ∙ ap (λ bs. c.loop-left.out ++ carrying r.set (reverse (slice_range bs (last_end 0 (take k rs)) r.end))) c.bytes-bytes.ensures
    ∙ backwards_more s rs c.runs-runs.ensures.runs c.runs-runs.ensures.spelled k r lt c.index-runs-left.is c.loop-left.out (c.loop-left.invariant.is ∙ ap (λ n. reverse (drop (last_end 0 (take n rs)) s)) (sym e)) in
    let p = err_from_is_err_and c.from_residual.result c.from_residual.ensures.1 in
    rw (p.1, p.2)
    (fault_front _ _ (strrev c.args.s.now)
    (omega (arith, ap length more, reverse_short s (last_end 0 (take k rs)), length-reverse s))
    c.in_err-out.ensures)

pub loop-left-preserved : goal.loop-left-preserved
loop-left-preserved c =
    let s = c.args.s.now in
    let rs = c.runs-runs.result.now in
    let r = c.index-runs-left.result in
    let k = c.loop-left.left - 1 in
    let lt : c.loop-left.left - 1 < length c.runs-runs.result.now = omega (arith, c.loop-left.invariant.within, c.loop-left-test.true) in
    let e : c.loop-left.left - 1 + 1 ≡ c.loop-left.left = omega (arith, c.loop-left-test.true) in
    let more =
    ap (λ n. c.loop-left.out ++ carrying r.set (reverse (slice_range c.bytes-bytes.result.now n r.end))) c.end_of-start.ensures
    ∙ ap (λ bs. c.loop-left.out ++ carrying r.set (reverse (slice_range bs (last_end 0 (take k rs)) r.end))) c.bytes-bytes.ensures
    ∙ backwards_more s rs c.runs-runs.ensures.runs c.runs-runs.ensures.spelled k r lt c.index-runs-left.is c.loop-left.out (c.loop-left.invariant.is ∙ ap (λ n. reverse (drop (last_end 0 (take n rs)) s)) (sym e)) in
    record {
      within = omega (arith, c.loop-left.invariant.within);
      is = c.in_ok-out.ensures.0 ∙ more;
      short = omega (arith, ap length c.in_ok-out.ensures.0, c.in_ok-out.ensures.1);
    }
