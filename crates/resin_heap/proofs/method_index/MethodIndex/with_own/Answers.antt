use Rattle.std.proofs.Common.{◌≡◌, ◌+◌, ◌-◌, drop, ap, ◌∙◌, arith}
use Rattle.resin_heap.specs.MethodIndex.{reached}
use Rattle.resin_heap.proofs.Method_trees.{keeps_all, keeps_twice, own_from, own_at, own_none, own_all}
use Rattle.resin_heap.proofs.method_index.MethodIndex.with_own.Goals as goal

pub loop-left-init : goal.loop-left-init
loop-left-init c = record {
  within = omega arith;
  keeps = keeps_all _;
  root = c.requires.root;
  finds = λ wanted. own_none c.args.class _ c.args.methods.now wanted _ (omega arith);
}

pub loop-left-preserved : goal.loop-left-preserved
loop-left-preserved c =
    let n = c.loop-left.left in
    let ms = c.args.methods.now in
    let next : n ≡ (n - 1) + 1 = omega (arith, c.loop-left-test.true) in
    record {
      within = omega (arith, c.loop-left.invariant.within);
      keeps = keeps_twice _ _ _ c.loop-left.invariant.keeps c.put.ensures.keeps;
      root = c.in_ok-put.ensures.root;
      finds = λ wanted.
          own_at c.args.class (n - 1) ms c.index-methods-left.result wanted (reached c.args.self.now c.args.tree wanted) _ _ (omega (arith, c.loop-left.invariant.within, c.loop-left-test.true))
          (c.in_ok-put.ensures.put wanted)
          (c.loop-left.invariant.finds wanted ∙ ap (λ k. own_from c.args.class k (drop k ms) wanted (reached c.args.self.now c.args.tree wanted)) next);
    }

pub returns-in_err-put-clause-keeps : goal.returns-in_err-put-clause-keeps
returns-in_err-put-clause-keeps c = keeps_twice _ _ _ c.loop-left.invariant.keeps c.put.ensures.keeps

pub returns-clause-finds : goal.returns-clause-finds
returns-clause-finds c wanted = own_all c.args.class c.loop-left.left c.args.methods.now wanted _ _ c.loop-left-test.false (c.loop-left.invariant.finds wanted)
