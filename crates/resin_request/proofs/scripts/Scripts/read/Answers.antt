use Rattle.resin_interp.proofs.Places.{read_none}
use Rattle.resin_request.proofs.Kept_scripts.{exits}
use Rattle.resin_request.proofs.scripts.Scripts.read.Goals as goal

pub returns-in_err-found : goal.returns-in_err-found
returns-in_err-found c = λ w. exits _ _ c.from_residual.ensures.1 (read_none _ _ w)

pub returns-in-Some : goal.returns-in-Some
returns-in-Some c = rw c.in-Some.is at c.in_ok-found.ensures

pub returns-in-None : goal.returns-in-None
returns-in-None c = c.read_anew.ensures
