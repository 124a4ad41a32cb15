use Rattle.resin_request.proofs.request.put_inputs.Goals as goal

pub returns : goal.returns
returns g c = c.set_inputs.ensures
