use Rattle.std.proofs.Common.{◌≡◌, ◌||◌, ◌≤◌, length, get_or, false, ap, ◌∙◌, arith}
use Rattle.resin_guard.proofs.Firsts.{same_end}
use Rattle.resin_guard.proofs.judge.cover.Goals as goal

pub returns-clause-noted : goal.returns-clause-noted
returns-clause-noted c = λ k h.
    let n = length c.args.safe.now in
    let long : length c.loop-i.safe ≡ n = c.loop-i.auto.safe in
    let start : c.least-start.result ≤ c.least-end.result = omega (arith, c.least-start.ensures.value) in
    let at : c.loop-i.i ≡ c.least-end.result = omega (arith, c.loop-i.auto.i-end start, c.loop-i-test.false) in
    c.loop-i.invariant k (omega arith)
    ∙ ap (λ b. get_or c.args.safe.now k false || b) (same_end c.args.from c.args.to n c.least-start.result c.least-end.result c.loop-i.i k h c.least-end.ensures.value c.least-start.ensures.value at)
