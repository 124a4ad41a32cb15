use Rattle.resin_inputs.proofs.EntryLemmas.{law}
use Rattle.resin_inputs.proofs.laws.entry_law.Goals as goal

pub returns : goal.returns
returns c = law
