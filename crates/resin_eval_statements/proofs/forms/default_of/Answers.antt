use Rattle.std.proofs.Common.{refl, sym, ap, arith, ◌∙◌}
use Rattle.resin_eval_writes.proofs.meaning_lemmas.Composition.{front, nothing_left}
use Rattle.resin_eval_statements.proofs.Cases.{default_here, default_past}
use Rattle.resin_eval_writes.specs.Under.meaning_forms.Statements.{from_default}
use Rattle.resin_eval_statements.proofs.forms.default_of.Goals as goal

pub loop-c-init : goal.loop-c-init
loop-c-init c =
    (refl, refl)

pub loop-c-preserved : goal.loop-c-preserved
loop-c-preserved c =
    (omega (arith, c.loop-c.invariant.0), c.loop-c.invariant.1 ∙ (ap from_default (front c.args.cs.now c.loop-c.c-index c.c-item.result c.loop-c-test.true c.c-item.is) ∙ default_past _ _ _ c.in-Some.is))

pub returns-in-None : goal.returns-in-None
returns-in-None c =
    rw c.loop-c.invariant.0 ((front c.args.cs.now c.loop-c.c-index c.c-item.result c.loop-c-test.true c.c-item.is) ∙ sym (c.loop-c.invariant.1 ∙ (ap from_default (front c.args.cs.now c.loop-c.c-index c.c-item.result c.loop-c-test.true c.c-item.is) ∙ default_here _ _ c.in-None.is)))

pub returns : goal.returns
returns c =
    let e = nothing_left c.args.cs.now c.loop-c.c-index c.loop-c-test.false in rw c.loop-c.invariant.0 (e ∙ sym (c.loop-c.invariant.1 ∙ ap from_default e))
