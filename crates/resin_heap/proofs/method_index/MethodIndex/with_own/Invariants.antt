use Rattle.std.proofs.Common.{◌≡◌, ◌≤◌, ℕ, List, length, drop}
use Rattle.resin_heap.specs.MethodIndex.{reached, IsRoot, Keeps}
use Rattle.resin_heap.proofs.Method_trees.{own_from}
use Rattle.resin_heap.proofs.method_index.MethodIndex.with_own.Given as goal

abbrev pub invariant-loop-left : goal.invariant-loop-left
invariant-loop-left l = record {
  within : l.left ≤ length l.methods;
  keeps : Keeps l.initial.self l.self;
  root : IsRoot l.self l.tree;
  finds : (wanted : List ℕ) → reached l.self l.tree wanted ≡ own_from l.class l.left (drop l.left l.methods) wanted (reached l.initial.self l.initial.tree wanted);
}

abbrev pub decreases-loop-left : goal.decreases-loop-left
decreases-loop-left l = l.left
