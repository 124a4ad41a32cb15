use Rattle.std.proofs.Common.{refl, sym, subst, ◌∙◌}
use Rattle.resin_machine.specs.State.{State}
use Rattle.resin_stage.specs.Writes.{IsOpen}
use Rattle.resin_machine.proofs.Write_steps.{filter_denied_acts, stage_lost}
use Rattle.resin_machine.proofs.Taken.{lost}
use Rattle.std.proofs.Common.{[]}
use Rattle.resin_machine.proofs.machine.Machine.deny_filter.Goals as goal

pub returns-in_err-class : goal.returns-in_err-class
returns-in_err-class c = record { acts = lost _ _ _ _ refl c.from_residual.ensures.1 }

pub returns-in_err-by : goal.returns-in_err-by
returns-in_err-by c = record { acts = lost _ _ _ _ refl c.from_residual-in_err-by.ensures.1 }

pub filter_denied-requires-clause-way : goal.filter_denied-requires-clause-way
filter_denied-requires-clause-way c = subst (λ (s : State). IsOpen c.args.write [] s.stage.journal s.stage.writes) (sym c.self.view_is) c.requires.way.way

pub filter_denied-requires-clause-leaving : goal.filter_denied-requires-clause-leaving
filter_denied-requires-clause-leaving c = c.requires.leaving

pub returns-in_err-filter_denied : goal.returns-in_err-filter_denied
returns-in_err-filter_denied c = record { acts = stage_lost _ _ _ _ _ c.self.view_is c.in_err-filter_denied.ensures.err c.from_residual-in_err-filter_denied.ensures.1 }

pub returns : goal.returns
returns c = record { acts = filter_denied_acts _ _ _ _ _ _ _ _ _ _ c.self.view_is c.requires.way.awake (c.in_ok-class.ensures ∙ c.name_of.ensures.value) (c.in_ok-by.ensures ∙ c.name_of-2.ensures.value) c.in_ok-filter_denied.ensures.ok }
