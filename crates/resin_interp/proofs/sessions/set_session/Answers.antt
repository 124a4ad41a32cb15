use Rattle.resin_interp.proofs.sessions.set_session.Goals as goal

pub returns : goal.returns
returns c = c.set_session.ensures.acts
