use Rattle.std.proofs.Common.{refl, ap, ◌∙◌}
use Rattle.resin_machine.specs.State.{State}
use Rattle.resin_machine.specs.Objects.{is_object}
use Rattle.resin_machine.proofs.Object_steps.{field_set}
use Rattle.resin_machine.proofs.Taken.{object_missing, lost}
use Rattle.resin_machine.proofs.machine.Machine.set_field.Goals as goal

pub returns-then-not-has_object : goal.returns-then-not-has_object
returns-then-not-has_object c = record { acts = object_missing _ _ _ _ _ _ refl (ap (λ (s : State). s.line) c.self.view_is) c.has_object.ensures (cc) }

pub returns-in_err-set : goal.returns-in_err-set
returns-in_err-set c = record { acts = lost _ _ _ _ (cc (c.in_err-set.ensures.err, c.self.view_is)) c.from_residual.ensures.1 }

pub returns : goal.returns
returns c = record { acts = field_set _ _ _ _ _ _ c.self.view_is (ap (λ (s : State). is_object s.heap c.args.o) c.self.view_is ∙ (cc)) c.in_ok-set.ensures.ok }
