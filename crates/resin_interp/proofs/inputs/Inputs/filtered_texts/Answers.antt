use Rattle.std.proofs.Common.{ap, arith}
use Rattle.resin_eval_calls.specs.Under.meaning_forms.Inputs.{filtered_text, filtered_entries}
use Rattle.resin_eval_calls.specs.Under.meaning_forms.Programs.{evals}
use Rattle.resin_eval_calls.proofs.eval_nested_lemmas.Arms.{does_settled}
use Rattle.resin_eval_calls.proofs.eval_nested_lemmas.Exits.{does_is}
use Rattle.resin_eval_calls.proofs.meaning_lemmas.Composition.{does_exit, does_give, does_next, leads_here, nothing_left}
use Rattle.resin_interp.proofs.InputLemmas.{entry_at, lawful_at, unbegun_entries}
use Rattle.resin_interp.proofs.inputs.Inputs.filtered_texts.Goals as goal

pub returns-in_err-all : goal.returns-in_err-all
returns-in_err-all g c =
    unbegun_entries (λ k t. filtered_text (evals c.args.self.now.by.now.room) c.args.context.now t) c.args.a.now.entries c.args.a.now _ c.from_residual.ensures.1

pub loop-i-init : goal.loop-i-init
loop-i-init g c =
    rw c.in_ok-all.ensures.cases (leads_here (filtered_entries (λ k t. filtered_text (evals c.args.self.now.by.now.room) c.args.context.now t) c.args.a.now.entries c.args.a.now) _)

pub entry-requires : goal.entry-requires
entry-requires g c =
    omega (arith, c.loop-i-test.true, c.len-i-end.ensures.value)

pub returns-in_err-v : goal.returns-in_err-v
returns-in_err-v g c =
    c.loop-i.invariant.goes_on _ _ (does_is (ap (λ es. filtered_entries (λ k t. filtered_text (evals c.args.self.now.by.now.room) c.args.context.now t) es c.loop-i.all) (entry_at c.args.a.now.entries c.loop-i.i _ c.entry.ensures)) (does_exit _ _ _ c.from_residual-in_err-v.ensures.1 c.in_err-v.ensures))

pub with_value-put-requires : goal.with_value-put-requires
with_value-put-requires g c =
    lawful_at c.args.a.now.entries c.loop-i.i _ _ c.len-i-end.ensures.kept.lawful c.entry.ensures

pub returns-in_err-all-2 : goal.returns-in_err-all-2
returns-in_err-all-2 g c =
    c.loop-i.invariant.goes_on _ _ (does_is (ap (λ es. filtered_entries (λ k t. filtered_text (evals c.args.self.now.by.now.room) c.args.context.now t) es c.loop-i.all) (entry_at c.args.a.now.entries c.loop-i.i _ c.entry.ensures)) (does_next _ _ c.in_ok-v.ensures (does_exit _ _ _ c.from_residual-in_err-all-2.ensures.1 (does_settled _ _ c.with_value-put.ensures c.in_err-all-2.ensures.acts))))

pub loop-i-preserved : goal.loop-i-preserved
loop-i-preserved g c =
    record { goes_on = λ r w e. c.loop-i.invariant.goes_on r w (does_is (ap (λ es. filtered_entries (λ k t. filtered_text (evals c.args.self.now.by.now.room) c.args.context.now t) es c.loop-i.all) (entry_at c.args.a.now.entries c.loop-i.i _ c.entry.ensures)) (does_next _ _ c.in_ok-v.ensures (does_next _ _ (does_settled _ _ c.with_value-put.ensures c.in_ok-all-2.ensures.acts) e))) }

pub returns : goal.returns
returns g c =
    c.loop-i.invariant.goes_on _ _ (does_is (ap (λ es. filtered_entries (λ k t. filtered_text (evals c.args.self.now.by.now.room) c.args.context.now t) es c.loop-i.all) (nothing_left c.args.a.now.entries c.loop-i.i (omega (arith, c.loop-i-test.false, c.len-i-end.ensures.value)))) (does_give _ _))
