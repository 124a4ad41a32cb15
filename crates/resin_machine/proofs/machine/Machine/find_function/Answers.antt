use Rattle.std.proofs.Common.{refl, ap}
use Rattle.resin_machine.specs.State.{State}
use Rattle.resin_machine.proofs.Object_steps.{function_found}
use Rattle.resin_machine.proofs.Taken.{lost}
use Rattle.resin_machine.proofs.machine.Machine.find_function.Goals as goal

pub returns-in_err-name : goal.returns-in_err-name
returns-in_err-name c = record { acts = lost _ _ _ _ refl c.from_residual.ensures.1 }

pub returns-in_err-clone : goal.returns-in_err-clone
returns-in_err-clone c = record { acts = lost _ _ _ _ refl c.from_residual-in_err-clone.ensures.1 }

pub returns : goal.returns
returns c = record { acts = function_found _ _ _ (cc ((ap (λ (s : State). s.functions) c.self.view_is), c.as_slice.ensures.value, c.in_ok-name.ensures, c.in-Some.ensures, c.in_ok-clone.ensures.cases)) }
