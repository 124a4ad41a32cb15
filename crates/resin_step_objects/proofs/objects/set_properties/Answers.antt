use Rattle.resin_step_objects.proofs.Found.{begun_err, none_begun, own_declared, own_begun, own_stops, properties_unbegun, property_more}
use Rattle.resin_step_functions.proofs.step_parts_lemmas.Steps.{leaves_here}
use Rattle.std.proofs.Common.{ap, arith, length, refl, sym, ◌∙◌}
use Rattle.resin_step_objects.proofs.objects.set_properties.Goals as goal

pub returns-then-class-len-clause-begins : goal.returns-then-class-len-clause-begins
returns-then-class-len-clause-begins c =
    λ rest. none_begun c.args.o c.args.m.now.classes c.args.class rest _ (omega (arith, c.if-class-len.true, c.len.ensures.value, ap length c.classes.ensures))

pub returns-in_err-shared-clause-begins : goal.returns-in_err-shared-clause-begins
returns-in_err-shared-clause-begins c =
    λ rest. begun_err _ _ _ _ _ _ c.from_residual.ensures.1 (properties_unbegun c.args.o _ _)

pub loop-p-init : goal.loop-p-init
loop-p-init c =
    record { goes = λ rest. leaves_here _ _; kept = refl }

pub loop-p-preserved : goal.loop-p-preserved
loop-p-preserved c =
    record {
      goes = λ rest. property_more c.args.o c.as_slice-properties.result.now c.loop-p.p-index c.p-item.result rest _ _ _ _ c.loop-p-test.true c.p-item.is (c.loop-p.invariant.goes rest) c.in_ok-set_property.ensures.does;
      kept = c.in_ok-set_property.ensures.kept ∙ c.loop-p.invariant.kept;
    }

pub returns-in_err-set_property-clause-begins : goal.returns-in_err-set_property-clause-begins
returns-in_err-set_property-clause-begins c =
    λ rest. own_stops c.args.o c.args.m.now.classes c.args.class c.as_slice-properties.result.now c.loop-p.p-index c.p-item.result rest _ _ _ _ _ c.loop-p-test.true c.p-item.is c.from_residual-in_err-set_property.ensures.1 (c.as_slice-properties.ensures ∙ (c.get.ensures ∙ (c.in_ok-shared.ensures.cases ∙ sym (own_declared c.args.m.now.classes c.args.class _ (rw c.classes-2.ensures at c.declaration.ensures))))) (c.loop-p.invariant.goes rest) c.in_err-set_property.ensures.does

pub returns-clause-begins : goal.returns-clause-begins
returns-clause-begins c =
    λ rest. own_begun c.args.o c.args.m.now.classes c.args.class c.as_slice-properties.result.now c.loop-p.p-index rest _ _ c.loop-p-test.false (c.as_slice-properties.ensures ∙ (c.get.ensures ∙ (c.in_ok-shared.ensures.cases ∙ sym (own_declared c.args.m.now.classes c.args.class _ (rw c.classes-2.ensures at c.declaration.ensures))))) (c.loop-p.invariant.goes rest)
