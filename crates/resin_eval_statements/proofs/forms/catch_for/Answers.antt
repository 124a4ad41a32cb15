use Rattle.std.proofs.Common.{drop, ◌+◌, refl, sym, ap, ◌∙◌}
use Rattle.resin_eval_writes.proofs.meaning_lemmas.Composition.{front, nothing_left}
use Rattle.resin_eval_statements.proofs.Cases.{catch_here, catch_past}
use Rattle.resin_eval_writes.specs.Under.meaning_forms.Statements.{catch_for}
use Rattle.resin_eval_statements.proofs.forms.catch_for.Goals as goal

pub loop-c-init : goal.loop-c-init
loop-c-init c =
    refl

pub loop-c-preserved : goal.loop-c-preserved
loop-c-preserved c =
    c.loop-c.invariant ∙ ((ap (λ cs. catch_for c.args.o cs c.args.m.now) (front c.args.cs.now c.loop-c.c-index c.c-item.result c.loop-c-test.true c.c-item.is)) ∙ catch_past c.args.o c.c-item.result (drop (c.loop-c.c-index + 1) c.args.cs.now) c.args.m.now (sym c.catches.ensures ∙ c.if-catches.false))

pub returns-then-catches : goal.returns-then-catches
returns-then-catches c =
    sym (c.loop-c.invariant ∙ ((ap (λ cs. catch_for c.args.o cs c.args.m.now) (front c.args.cs.now c.loop-c.c-index c.c-item.result c.loop-c-test.true c.c-item.is)) ∙ catch_here c.args.o c.c-item.result (drop (c.loop-c.c-index + 1) c.args.cs.now) c.args.m.now (sym c.catches.ensures ∙ c.if-catches.true)))

pub returns : goal.returns
returns c =
    sym (c.loop-c.invariant ∙ ap (λ cs. catch_for c.args.o cs c.args.m.now) (nothing_left c.args.cs.now c.loop-c.c-index c.loop-c-test.false))
