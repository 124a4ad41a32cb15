use Rattle.std.proofs.Common.{sym, ◌∙◌}
use Rattle.resin_heap.proofs.Trees.{found_next, found_last}
use Rattle.resin_heap.proofs.branches.Branches.get.Goals as goal

pub loop-place-preserved : goal.loop-place-preserved
loop-place-preserved c =
    c.loop-place.invariant ∙ found_next _ c.loop-place.tree _ c.loop-place.place _ c.branch-way.ensures.value c.child_for-tree.ensures c.loop-place-test.true

pub returns : goal.returns
returns c = found_last _ c.loop-place.tree c.loop-place.place _ c.branch-last.ensures.value c.loop-place-test.false ∙ sym c.loop-place.invariant
