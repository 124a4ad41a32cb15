use Rattle.std.proofs.Common.{refl, ◌∙◌}
use Rattle.resin_machine.proofs.Write_steps.{outside_denied_acts, stage_lost}
use Rattle.resin_machine.proofs.Taken.{lost}
use Rattle.resin_machine.proofs.machine.Machine.deny_filter_outside.Goals as goal

pub returns-in_err-class : goal.returns-in_err-class
returns-in_err-class c = record { acts = lost _ _ _ _ refl c.from_residual.ensures.1 }

pub returns-in_err-by : goal.returns-in_err-by
returns-in_err-by c = record { acts = lost _ _ _ _ refl c.from_residual-in_err-by.ensures.1 }

pub filter_denied_outside-requires-clause-kept : goal.filter_denied_outside-requires-clause-kept
filter_denied_outside-requires-clause-kept c = c.requires

pub returns-in_err-filter_denied_outside : goal.returns-in_err-filter_denied_outside
returns-in_err-filter_denied_outside c = record { acts = stage_lost _ _ _ _ _ c.self.view_is c.in_err-filter_denied_outside.ensures.err c.from_residual-in_err-filter_denied_outside.ensures.1 }

pub returns : goal.returns
returns c = record { acts = outside_denied_acts _ _ _ _ _ _ _ _ _ c.self.view_is (c.in_ok-class.ensures ∙ c.name_of.ensures.value) (c.in_ok-by.ensures ∙ c.name_of-2.ensures.value) c.in_ok-filter_denied_outside.ensures.ok }
