use Rattle.std.proofs.Common.{◌∙◌}
use Rattle.resin_request.proofs.Stored.{held_there}
use Rattle.resin_request.proofs.sessions.is_held.Goals as goal

pub returns-in-Some : goal.returns-in-Some
returns-in-Some c = rw (c.as_slice.ensures, c.as_slice-in-Some.ensures) at c.are_same.ensures ∙ held_there _ _ _ _ c.in-Some.is

pub returns-in-None : goal.returns-in-None
returns-in-None c = rw c.in-None.is c.are_same-in-None.ensures
