use Rattle.std.proofs.Common.{arith}
use Rattle.resin_heap.proofs.Trees.{children_first, child_further, children_further, put_first, put_further}
use Rattle.resin_heap.proofs.branches.Branches.+put.Goals as goal

pub push-requires : goal.push-requires
push-requires t c = children_first _ _ _ _ _ c.branch-own.ensures.closed c.branch-own.ensures.value c.with_method.ensures

pub returns-then-place-eq0-clause-put : goal.returns-then-place-eq0-clause-put
returns-then-place-eq0-clause-put t c =
    put_first _ _ _ _ _ c.args.tree c.args.place c.args.method c.branch-own.ensures.closed c.branch-own.ensures.value c.with_method.ensures c.if-place-eq0.true c.push.ensures.number c.push.ensures.pushed

pub put-requires : goal.put-requires
put-requires t c = (omega (arith, c.decreases, c.if-place-eq0.false), child_further _ _ c.args.tree _ c.args.place c.branch-own.ensures.closed c.branch-own.ensures.value c.child_for.ensures)

pub push-requires-2 : goal.push-requires-2
push-requires-2 t c =
    children_further _ _ _ _ _ _ _ c.branch-own.ensures.closed c.put.ensures.grown c.branch-own.ensures.value c.with_child.ensures c.in_ok-child.ensures.within

pub returns-clause-put : goal.returns-clause-put
returns-clause-put t c =
    put_further _ _ _ _ _ _ c.args.tree _ c.args.place _ c.args.method c.branch-own.ensures.closed c.push-2.ensures.closed c.put.ensures.grown
    c.branch-own.ensures.value c.child_for.ensures c.with_child.ensures c.if-place-eq0.false c.in_ok-child.ensures.within c.in_ok-child.ensures.put c.push-2.ensures.number c.push-2.ensures.pushed
