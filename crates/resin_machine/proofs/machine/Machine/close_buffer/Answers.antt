use Rattle.std.proofs.Common.{◌∙◌}
use Rattle.resin_machine.proofs.Buffer_steps.{closed_acts, closed_lost, none_closed}
use Rattle.std.proofs.lemmas.Result.{err_from_is_err_and}
use Rattle.resin_machine.proofs.machine.Machine.close_buffer.Goals as goal

pub returns-in-None : goal.returns-in-None
returns-in-None c = record { acts = none_closed _ _ _ c.self.view_is c.in-None.ensures.none c.in-None.ensures.cases }

pub returns-in_err-finish : goal.returns-in_err-finish
returns-in_err-finish c = record { acts = let q = err_from_is_err_and c.from_residual.result c.from_residual.ensures.1 in rw (q.1, q.2) (closed_lost _ _ _ c.self.view_is c.in-Some.ensures.others) }

pub returns : goal.returns
returns c = record { acts = closed_acts _ _ _ _ c.self.view_is c.in-Some.ensures.others (c.in-Some.ensures.cases ∙ (cc c.in_ok-finish.ensures)) }
