use Rattle.std.proofs.Common.{◌∙◌, ap, ◌++◌, take, drop, length, ◌-◌}
use Rattle.resin_label.proofs.Merges.{ends_left, ends_right}
use Rattle.resin_label.proofs.numbers.merged.Goals as goal
use Rattle.resin_label.proofs.numbers.merged.Goals.{then-both-test+else-j-ys, else-both-test}

pub returns : goal.returns
returns c =
    c.in_ok-extend_from_slice-2.ensures.items
    ∙ ap (λ zs. zs ++ take (length c.args.ys.now - c.both.j) (drop c.both.j c.args.ys.now)) c.in_ok-extend_from_slice.ensures.items
    ∙ elim c.both-test.branch [
      | then-both-test+else-j-ys w ↦ ends_right _ _ _ _ _ c.both.invariant.so_far w.if-j-ys.false
      | else-both-test w ↦ ends_left _ _ _ _ _ c.both.invariant.so_far w.both-test.false
    ]
