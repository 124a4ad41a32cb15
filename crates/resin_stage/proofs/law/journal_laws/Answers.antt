use Rattle.resin_stage.proofs.Fronts.{fronts_obey}
use Rattle.resin_stage.proofs.law.journal_laws.Goals as goal

pub returns : goal.returns
returns c = fronts_obey
