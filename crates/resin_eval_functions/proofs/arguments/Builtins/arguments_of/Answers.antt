use Rattle.resin_eval_merges.specs.Under.meaning_forms.Programs.{evals}
use Rattle.resin_eval_functions.proofs.Places.{next_argument, no_more_arguments, no_more_kinds}
use Rattle.resin_eval_merges.proofs.eval_nested_lemmas.Exits.{does_is, does_seen_exit, does_seen_lost}
use Rattle.resin_eval_merges.proofs.meaning_lemmas.Composition.{does_give, does_next, leads_here}
use Rattle.std.proofs.lemmas.List.{map-append}
use Rattle.resin_eval_functions.proofs.arguments.Builtins.arguments_of.Goals as goal
use Rattle.resin_eval_functions.proofs.arguments.Builtins.arguments_of.Goals.{then-loop-i-test+else-i-args, else-loop-i-test}

pub loop-i-init : goal.loop-i-init
loop-i-init g c =
    rw c.new-out.ensures (leads_here _ _)

pub returns-in_err-value : goal.returns-in_err-value
returns-in_err-value g c =
    c.loop-i.invariant.goes_on _ _ (does_is (next_argument (evals c.args.self.now.by.now.room) _ c.args.kinds.now c.args.args.now c.loop-i.i _ _ c.loop-i-test.true c.if-i-args.true c.index-args-i.is) (does_seen_exit _ _ _ _ c.from_residual.ensures.1 (c.in_err-value.ensures)))

pub returns-in_err-push : goal.returns-in_err-push
returns-in_err-push g c =
    c.loop-i.invariant.goes_on _ _ (does_is (next_argument (evals c.args.self.now.by.now.room) _ c.args.kinds.now c.args.args.now c.loop-i.i _ _ c.loop-i-test.true c.if-i-args.true c.index-args-i.is) (does_seen_lost _ _ _ _ c.from_residual-in_err-push.ensures.1 (c.in_ok-value.ensures)))

pub loop-i-preserved : goal.loop-i-preserved
loop-i-preserved g c =
    record { goes_on = λ r w e. c.loop-i.invariant.goes_on r w (does_is (next_argument (evals c.args.self.now.by.now.room) _ c.args.kinds.now c.args.args.now c.loop-i.i _ _ c.loop-i-test.true c.if-i-args.true c.index-args-i.is) (does_next _ _ (c.in_ok-value.ensures) (rw (c.in_ok-push.ensures.ok, map-append) at e))) }

pub returns : goal.returns
returns g c =
    c.loop-i.invariant.goes_on _ _ (elim c.loop-i-test.branch [
      | then-loop-i-test+else-i-args w ↦ does_is (no_more_arguments (evals c.args.self.now.by.now.room) _ c.args.kinds.now c.args.args.now c.loop-i.i w.if-i-args.false) (does_give _ _)
      | else-loop-i-test w ↦ does_is (no_more_kinds (evals c.args.self.now.by.now.room) _ c.args.kinds.now c.loop-i.i _ w.loop-i-test.false) (does_give _ _)
    ])
