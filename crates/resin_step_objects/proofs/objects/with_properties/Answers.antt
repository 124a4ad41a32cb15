use Rattle.resin_step_functions.proofs.meaning_lemmas.Composition.{does_act, does_exit, does_give, does_lost_exit}
use Rattle.resin_step_functions.proofs.step_parts_lemmas.Steps.{does_handed, leaves_here}
use Rattle.resin_step_objects.proofs.Found.{class_more, class_stops, classes_done, given_properties, no_properties, object_furnished, object_unfurnished}
use Rattle.std.proofs.Common.{[], ap, arith, length, refl, sym, ◌∙◌}
use Rattle.resin_step_objects.proofs.objects.with_properties.Goals as goal

pub returns-in_err-o : goal.returns-in_err-o
returns-in_err-o c =
    λ f t k. does_exit _ _ _ c.from_residual.ensures.1 (does_act _ f t k c.in_err-o.ensures.acts)

pub returns-then-class-len : goal.returns-then-class-len
returns-then-class-len c =
    object_furnished c.args.class c.in_ok-o.o _ _ _ [] (sym (no_properties _ c.args.class (omega (arith, c.if-class-len.true, c.len.ensures.value, ap length c.classes.ensures)))) c.in_ok-o.ensures.acts (λ f t k. does_give tt _)

pub returns-in_err-declaring : goal.returns-in_err-declaring
returns-in_err-declaring c =
    λ f t k. does_lost_exit _ _ _ c.from_residual-in_err-declaring.ensures.1 (does_act _ f t k c.in_ok-o.ensures.acts)

pub loop-c-init : goal.loop-c-init
loop-c-init c =
    record { goes = leaves_here _ _; kept = refl }

pub loop-c-preserved : goal.loop-c-preserved
loop-c-preserved c =
    record {
      goes = class_more c.in_ok-o.o _ c.as_slice-line.result.now c.loop-c.c-index _ _ _ _ _ c.loop-c-test.true refl c.loop-c.invariant.kept c.loop-c.invariant.goes c.in_ok-set_properties.ensures.begins;
      kept = c.in_ok-set_properties.ensures.kept ∙ c.loop-c.invariant.kept;
    }

pub returns-in_err-set_properties : goal.returns-in_err-set_properties
returns-in_err-set_properties c =
    λ f t k. does_handed _ _ c.from_residual-in_err-set_properties.ensures.1
    (object_unfurnished c.args.class c.in_ok-o.o _ _ _ _ _ (given_properties _ _ c.args.class _ c.as_slice-line.result.now c.as_slice-line.ensures.value c.in_ok-declaring.ensures c.classes-2.ensures) c.in_ok-o.ensures.acts
    (class_stops c.in_ok-o.o _ c.as_slice-line.result.now c.loop-c.c-index _ _ _ _ _ _ c.loop-c-test.true refl c.loop-c.invariant.kept c.loop-c.invariant.goes c.in_err-set_properties.ensures.begins) f t k)

pub returns : goal.returns
returns c =
    object_furnished c.args.class c.in_ok-o.o _ _ _ _ (given_properties _ _ c.args.class _ c.as_slice-line.result.now c.as_slice-line.ensures.value c.in_ok-declaring.ensures c.classes-2.ensures) c.in_ok-o.ensures.acts
    (classes_done c.in_ok-o.o _ c.as_slice-line.result.now c.loop-c.c-index _ _ c.loop-c-test.false c.loop-c.invariant.goes)
