use Rattle.std.proofs.Common.{sym, ◌∙◌, arith}
use Rattle.resin_heap.proofs.Lines.{same_number}
use Rattle.resin_heap.proofs.classes.Classes.is_a.Goals as goal

pub loop-at-preserved : goal.loop-at-preserved
loop-at-preserved c = (
  c.loop-at.invariant.0 ∙ c.in-Some.ensures.alike,
  omega (arith, c.in-Some.ensures.smaller, c.loop-at.invariant.1),
)

pub returns-in-None : goal.returns-in-None
returns-in-None c = sym (c.loop-at.invariant.0 ∙ c.in-None.ensures.alike)

pub returns : goal.returns
returns c = sym (c.loop-at.invariant.0 ∙ same_number c.args.self.now c.loop-at.at c.args.other c.loop-at-test.false)
