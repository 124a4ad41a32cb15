use Rattle.resin_request.proofs.request.serve_in_session.Goals as goal

pub returns-in-Some : goal.returns-in-Some
returns-in-Some g c = rw c.in-Some.is c.serve_named.ensures

pub returns-in-None : goal.returns-in-None
returns-in-None g c = rw c.in-None.is c.serve_and_end.ensures
