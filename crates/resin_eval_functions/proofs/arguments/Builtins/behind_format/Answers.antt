use Rattle.resin_eval_merges.specs.Under.meaning_forms.Functions.{format_arguments}
use Rattle.resin_eval_merges.specs.Under.meaning_forms.Programs.{evals}
use Rattle.resin_eval_merges.proofs.eval_nested_lemmas.Exits.{does_is, does_seen_exit, does_seen_lost}
use Rattle.resin_eval_functions.proofs.Formats.{does_unformatted, next_format}
use Rattle.resin_eval_merges.proofs.meaning_lemmas.Composition.{does_give, does_next, leads_by, leads_here, nothing_left}
use Rattle.resin_eval_merges.specs.Under.value.Seen.{trees_of}
use Rattle.resin_eval_merges.specs.Under.value.Trees.{text}
use Rattle.std.proofs.Common.{List, [], ap, arith, refl, sym, ◌∙◌, ◌∷◌}
use Rattle.std.proofs.lemmas.List.{map-append}
use Rattle.resin_eval_functions.proofs.arguments.Builtins.behind_format.Goals as goal
use Rattle.resin_eval_merges.specs.Under.value.declared.value.Value.TheVariants.{Text as TextValue}
use Rattle.resin_eval_merges.specs.Under.value.Trees.{Tree}
use Rattle.std.proofs.Common.{◌++◌}

pub returns-in_err-read : goal.returns-in_err-read
returns-in_err-read g c =
    c.loop-v.invariant.1.goes_on _ _ (does_is (next_format (evals c.args.self.now.by.now.room) c.args.format.now _ c.loop-v.i c.args.rest.now c.loop-v.v-index c.v-item.result c.loop-v-test.true c.v-item.is) (does_seen_exit _ _ _ _ c.from_residual-in_err-read.ensures.1 (c.in_err-read.ensures)))

pub returns-in_err-push-2 : goal.returns-in_err-push-2
returns-in_err-push-2 g c =
    c.loop-v.invariant.1.goes_on _ _ (does_is (next_format (evals c.args.self.now.by.now.room) c.args.format.now _ c.loop-v.i c.args.rest.now c.loop-v.v-index c.v-item.result c.loop-v-test.true c.v-item.is) (does_seen_lost _ _ _ _ c.from_residual-in_err-push-2.ensures.1 (c.in_ok-read.ensures)))

pub loop-v-preserved : goal.loop-v-preserved
loop-v-preserved g c =
    (omega (arith, c.loop-v.invariant.0), record { goes_on = λ r w e. c.loop-v.invariant.1.goes_on r w (does_is (next_format (evals c.args.self.now.by.now.room) c.args.format.now _ c.loop-v.i c.args.rest.now c.loop-v.v-index c.v-item.result c.loop-v-test.true c.v-item.is) (does_next _ _ (c.in_ok-read.ensures) (rw (c.in_ok-push-2.ensures.ok, map-append) at e))) })

pub returns : goal.returns
returns g c =
    c.loop-v.invariant.1.goes_on _ _ (rw (nothing_left c.args.rest.now c.loop-v.v-index c.loop-v-test.false) (does_give _ _))

pub returns-in_err-clone : goal.returns-in_err-clone
returns-in_err-clone g c =
    does_unformatted (evals c.args.self.now.by.now.room) c.args.format.now (text c.args.format.now ∷ []) 0 (trees_of c.args.rest.now) trees_of _ c.from_residual.ensures.1

pub returns-in_err-push : goal.returns-in_err-push
returns-in_err-push g c =
    does_unformatted (evals c.args.self.now.by.now.room) c.args.format.now (text c.args.format.now ∷ []) 0 (trees_of c.args.rest.now) trees_of _ c.from_residual-in_err-push.ensures.1

pub loop-v-init : goal.loop-v-init
loop-v-init g c =
    (refl, leads_by _ _ _ (ap (λ (vs : List Tree). format_arguments (evals c.args.self.now.by.now.room) c.args.format.now vs 0 (trees_of c.args.rest.now)) (sym (ap trees_of (c.in_ok-push.ensures.ok ∙ (λ j. c.new-out.ensures j ++ TextValue (c.in_ok-clone.ensures.cases j) ∷ []))))) (leads_here _ _))
