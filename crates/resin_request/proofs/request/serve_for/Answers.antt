use Rattle.resin_request.proofs.Stored.{lost_in_session}
use Rattle.resin_request.proofs.request.serve_for.Goals as goal

pub returns-in_err-session : goal.returns-in_err-session
returns-in_err-session g c = lost_in_session _ _ _ _ c.from_residual.ensures.1

pub returns : goal.returns
returns g c = rw c.in_ok-session.ensures at c.serve_in_session.ensures
