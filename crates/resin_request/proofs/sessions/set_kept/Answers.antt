use Rattle.resin_inputs.specs.Under.scalar.declared.faults.ScriptFault.TheVariants.{BadSession}
use Rattle.resin_interp.proofs.meaning_lemmas.Composition.{does_act}
use Rattle.resin_interp.proofs.eval_nested_lemmas.Arms.{does_faulted}
use Rattle.resin_request.proofs.sessions.set_kept.Goals as goal

pub returns-in-Some : goal.returns-in-Some
returns-in-Some c = λ f t k. rw c.in-Some.is (does_act _ f t k c.set_session.ensures)

pub returns-in-None : goal.returns-in-None
returns-in-None c = λ f t k. rw c.in-None.is (does_faulted BadSession _ c.fault.ensures)
