use Rattle.std.proofs.Common.{refl, ap, ◌∙◌}
use Rattle.resin_heap.specs.Objects.{class_at}
use Rattle.resin_machine.specs.State.{State}
use Rattle.resin_machine.proofs.Object_steps.{class_told}
use Rattle.resin_machine.proofs.Taken.{object_missing}
use Rattle.resin_machine.proofs.machine.Machine.class_of.Goals as goal

pub returns-then-not-has_object : goal.returns-then-not-has_object
returns-then-not-has_object c = record { acts = object_missing _ _ _ _ _ _ refl (ap (λ (s : State). s.line) c.self.view_is) c.has_object.ensures (cc) }

pub returns : goal.returns
returns c = record { acts = class_told _ _ _ (cc) (c.class_of.ensures ∙ ap (λ (s : State). class_at s.heap c.args.o) c.self.view_is) }
