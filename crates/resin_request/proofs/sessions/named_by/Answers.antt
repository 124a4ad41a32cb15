use Rattle.std.proofs.Common.{refl}
use Rattle.resin_request.proofs.sessions.named_by.Goals as goal

pub returns-in-Some : goal.returns-in-Some
returns-in-Some c = rw c.in-Some.is c.named_in.ensures

pub returns-in-None : goal.returns-in-None
returns-in-None c = rw c.in-None.is refl
