use Rattle.resin_eval_functions.proofs.Places.{kind_placed, null_placed}
use Rattle.resin_eval_merges.proofs.eval_nested_lemmas.Exits.{does_seen_exit, does_seen_lost}
use Rattle.resin_eval_merges.proofs.meaning_lemmas.Composition.{does_give, does_next, front, leads_here, nothing_left}
use Rattle.std.proofs.Common.{arith, refl}
use Rattle.std.proofs.lemmas.List.{map-append}
use Rattle.resin_eval_functions.proofs.arguments.Builtins.placed_arguments.Goals as goal

pub loop-v-init : goal.loop-v-init
loop-v-init g c =
    (refl, rw c.new-out.ensures (leads_here _ _))

pub returns-in_err-value : goal.returns-in_err-value
returns-in_err-value g c =
    c.loop-v.invariant.1.goes_on _ _ (rw (front c.args.args.now c.loop-v.v-index c.v-item.result c.loop-v-test.true c.v-item.is) (does_seen_exit _ _ _ _ c.from_residual.ensures.1 (rw (c.place.ensures, kind_placed c.args.sig.now.builtin c.loop-v.i, null_placed c.args.sig.now.builtin c.loop-v.i) at c.in_err-value.ensures)))

pub returns-in_err-push : goal.returns-in_err-push
returns-in_err-push g c =
    c.loop-v.invariant.1.goes_on _ _ (rw (front c.args.args.now c.loop-v.v-index c.v-item.result c.loop-v-test.true c.v-item.is) (does_seen_lost _ _ _ _ c.from_residual-in_err-push.ensures.1 (rw (c.place.ensures, kind_placed c.args.sig.now.builtin c.loop-v.i, null_placed c.args.sig.now.builtin c.loop-v.i) at c.in_ok-value.ensures)))

pub loop-v-preserved : goal.loop-v-preserved
loop-v-preserved g c =
    (omega (arith, c.loop-v.invariant.0), record { goes_on = λ r w e. c.loop-v.invariant.1.goes_on r w (rw (front c.args.args.now c.loop-v.v-index c.v-item.result c.loop-v-test.true c.v-item.is) (does_next _ _ (rw (c.place.ensures, kind_placed c.args.sig.now.builtin c.loop-v.i, null_placed c.args.sig.now.builtin c.loop-v.i) at c.in_ok-value.ensures) (rw (c.in_ok-push.ensures.ok, map-append) at e))) })

pub returns : goal.returns
returns g c =
    c.loop-v.invariant.1.goes_on _ _ (rw (nothing_left c.args.args.now c.loop-v.v-index c.loop-v-test.false) (does_give _ _))
