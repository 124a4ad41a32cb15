use Rattle.std.proofs.Common.{refl, sym, subst, ◌∙◌}
use Rattle.resin_machine.specs.State.{State}
use Rattle.resin_stage.specs.Writes.{MayAsk}
use Rattle.resin_machine.proofs.Write_steps.{denied_acts, stage_lost}
use Rattle.resin_machine.proofs.Taken.{lost}
use Rattle.resin_machine.proofs.machine.Machine.deny.Goals as goal

pub returns-in_err-class : goal.returns-in_err-class
returns-in_err-class c = record { acts = lost _ _ _ _ refl c.from_residual.ensures.1 }

pub returns-in_err-by : goal.returns-in_err-by
returns-in_err-by c = record { acts = lost _ _ _ _ refl c.from_residual-in_err-by.ensures.1 }

pub denied-requires-clause-may : goal.denied-requires-clause-may
denied-requires-clause-may c = subst (λ (s : State). MayAsk c.args.write c.args.policy s.stage.journal s.stage.writes) (sym c.self.view_is) c.requires.may.may

pub denied-requires-clause-leaving : goal.denied-requires-clause-leaving
denied-requires-clause-leaving c = c.requires.leaving

pub denied-requires-clause-range : goal.denied-requires-clause-range
denied-requires-clause-range c = c.requires.range

pub returns-in_err-denied : goal.returns-in_err-denied
returns-in_err-denied c = record { acts = stage_lost _ _ _ _ _ c.self.view_is c.in_err-denied.ensures.err c.from_residual-in_err-denied.ensures.1 }

pub returns : goal.returns
returns c = record { acts = denied_acts _ _ _ _ _ _ _ _ _ _ _ c.self.view_is c.requires.may.awake (c.in_ok-class.ensures ∙ c.name_of.ensures.value) (c.in_ok-by.ensures ∙ c.name_of-2.ensures.value) c.in_ok-denied.ensures.ok }
