use Rattle.resin_serve.proofs.Alike.{one_connection}
use Rattle.resin_serve.proofs.laws.one_connection.Goals as goal

pub returns : goal.returns
returns c = one_connection
