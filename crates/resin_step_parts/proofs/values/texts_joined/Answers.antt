use Rattle.resin_meaning_forms.specs.Expressions.{joined}
use Rattle.resin_meaning_forms.specs.Parts.{computed}
use Rattle.resin_meaning_forms.specs.Writes.{behind}
use Rattle.resin_meaning_forms.specs.Under.ops.Conversions.{text_of}
use Rattle.resin_meaning_forms.proofs.meaning_lemmas.Composition.{front, nothing_left}
use Rattle.resin_meaning_forms.specs.Under.meaning.Programs.{◌>>=◌}
use Rattle.resin_step_parts.proofs.Loops.{leaves_done, leaves_lost, leaves_next, leaves_stop}
use Rattle.resin_step_parts.proofs.Steps.{leaves_here}
use Rattle.resin_step_parts.proofs.Answered.{does_computed, gives_or}
use Rattle.resin_meaning_forms.specs.Under.value.Seen.{tree_of, trees_of}
use Rattle.std.proofs.Common.{ap, drop, refl, ◌+◌}
use Rattle.resin_step_parts.proofs.values.texts_joined.Goals as goal

pub loop-v-init : goal.loop-v-init
loop-v-init c =
    rw c.new-text.ensures (leaves_here _ _)

pub returns-in_err-part : goal.returns-in_err-part
returns-in_err-part c =
    leaves_stop _ _ (computed (text_of (tree_of c.v-item.result))) (λ u. behind c.loop-v.text u >>= λ both. joined both (trees_of (drop (c.loop-v.v-index + 1) c.args.vs.now))) _ _ _ _ _ (ap (λ ds. joined c.loop-v.text (trees_of ds)) (front c.args.vs.now c.loop-v.v-index c.v-item.result c.loop-v-test.true c.v-item.is)) c.loop-v.invariant (does_computed _ _ (gives_or _ _ c.to_text.ensures) c.in_err-part.ensures.acts) c.from_residual.ensures.1

pub returns-in_err-text : goal.returns-in_err-text
returns-in_err-text c =
    leaves_stop _ _ (behind c.loop-v.text c.in_ok-part.part) (λ both. joined both (trees_of (drop (c.loop-v.v-index + 1) c.args.vs.now))) _ _ _ _ _ refl (leaves_next _ _ (computed (text_of (tree_of c.v-item.result))) (λ u. behind c.loop-v.text u >>= λ both. joined both (trees_of (drop (c.loop-v.v-index + 1) c.args.vs.now))) _ _ _ _ (ap (λ ds. joined c.loop-v.text (trees_of ds)) (front c.args.vs.now c.loop-v.v-index c.v-item.result c.loop-v-test.true c.v-item.is)) c.loop-v.invariant (does_computed _ _ (gives_or _ _ c.to_text.ensures) c.in_ok-part.ensures.acts)) c.in_err-text.ensures c.from_residual-in_err-text.ensures.1

pub loop-v-preserved : goal.loop-v-preserved
loop-v-preserved c =
    leaves_next _ _ (behind c.loop-v.text c.in_ok-part.part) (λ both. joined both (trees_of (drop (c.loop-v.v-index + 1) c.args.vs.now))) _ _ _ _ refl (leaves_next _ _ (computed (text_of (tree_of c.v-item.result))) (λ u. behind c.loop-v.text u >>= λ both. joined both (trees_of (drop (c.loop-v.v-index + 1) c.args.vs.now))) _ _ _ _ (ap (λ ds. joined c.loop-v.text (trees_of ds)) (front c.args.vs.now c.loop-v.v-index c.v-item.result c.loop-v-test.true c.v-item.is)) c.loop-v.invariant (does_computed _ _ (gives_or _ _ c.to_text.ensures) c.in_ok-part.ensures.acts)) c.in_ok-text.ensures

pub returns-in_err-finish : goal.returns-in_err-finish
returns-in_err-finish c =
    leaves_lost _ _ c.loop-v.text _ _ _ (ap (λ ds. joined c.loop-v.text (trees_of ds)) (nothing_left c.args.vs.now c.loop-v.v-index c.loop-v-test.false)) c.loop-v.invariant c.from_residual-in_err-finish.ensures.1

pub returns : goal.returns
returns c =
    rw c.in_ok-finish.ensures
    (leaves_done _ _ c.loop-v.text _ _ (ap (λ ds. joined c.loop-v.text (trees_of ds)) (nothing_left c.args.vs.now c.loop-v.v-index c.loop-v-test.false)) c.loop-v.invariant)
