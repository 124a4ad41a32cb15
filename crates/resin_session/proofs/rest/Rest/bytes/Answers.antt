use Rattle.resin_session.proofs.Labelled.{left_bytes}
use Rattle.resin_session.proofs.rest.Rest.bytes.Goals as goal

pub returns : goal.returns
returns c = left_bytes c.self.inside.at c.self.inside.text.now c.args.self.now c.bytes.result.now c.bytes.ensures c.self.view_is
