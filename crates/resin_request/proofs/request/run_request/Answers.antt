use Rattle.resin_request.specs.Requests.{request_program}
use Rattle.resin_request.proofs.Lent.{does_lent}
use Rattle.resin_request.proofs.request.run_request.Goals as goal

pub returns : goal.returns
returns g c = does_lent g.F.Files g.T.Tables (request_program c.args.path.now c.args.inputs) c.with_run.ensures.shows c.with_run.ensures.leaves c.with_run.ensures.met
