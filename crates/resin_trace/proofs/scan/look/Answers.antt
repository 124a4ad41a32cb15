use Rattle.resin_trace.proofs.Scanning.{looked}
use Rattle.resin_trace.proofs.scan.look.Goals as goal

pub returns : goal.returns
returns c = looked c.args.text.now _ c.front.ensures
