use Rattle.std.proofs.Common.{refl, sym, ap, ◌∙◌, Option, unwrap_or}
use Rattle.resin_machine.specs.State.{State}
use Rattle.resin_heap.specs.Objects.{field, fields_at}
use Rattle.resin_heap.specs.Under.value.declared.value.Value.{Value}
use Rattle.resin_heap.specs.Under.value.declared.value.Value.TheVariants.{Null}
use Rattle.resin_machine.proofs.Object_steps.{field_read}
use Rattle.resin_machine.proofs.Taken.{object_missing, lost}
use Rattle.resin_machine.proofs.machine.Machine.read_field.Goals as goal

pub returns-then-not-has_object : goal.returns-then-not-has_object
returns-then-not-has_object c = record { acts = object_missing _ _ _ _ _ _ refl (ap (λ (s : State). s.line) c.self.view_is) c.has_object.ensures (cc) }

pub returns-in_err-clone-in-Some : goal.returns-in_err-clone-in-Some
returns-in_err-clone-in-Some c = record { acts = lost _ _ _ _ refl c.from_residual.ensures.1 }

pub returns-in_ok-clone-in-Some : goal.returns-in_ok-clone-in-Some
returns-in_ok-clone-in-Some c = record { acts = field_read _ _ _ _ (cc) (ap (λ (f : Option Value). unwrap_or f Null) (sym (ap (λ (s : State). field c.args.name.now (fields_at s.heap c.args.o)) c.self.view_is) ∙ sym c.in-Some.ensures) ∙ sym c.in_ok-clone-in-Some.ensures.cases) }

pub returns-in-None : goal.returns-in-None
returns-in-None c = record { acts = field_read _ _ _ _ (cc) (ap (λ (f : Option Value). unwrap_or f Null) (sym (ap (λ (s : State). field c.args.name.now (fields_at s.heap c.args.o)) c.self.view_is) ∙ sym c.in-None.ensures)) }
