use Rattle.resin_audit.proofs.Single.{one_verdict}
use Rattle.resin_audit.proofs.laws.verdict_laws.Goals as goal

pub returns : goal.returns
returns c = one_verdict
