use Rattle.resin_shadow.specs.Readers.{read1}
use Rattle.resin_shadow.proofs.Ending.{none_read1}
use Rattle.resin_shadow.proofs.Finding.{found_none}
use Rattle.resin_shadow.proofs.decoding.first.Goals as goal

pub returns-in-None : goal.returns-in-None
returns-in-None c = none_read1 c.args.len c.args.shadow.now c.requires.some c.requires.size (found_none (read1 c.args.shadow.now) c.read_first.result c.in_ok-runs.field-0 c.read_first.ensures c.in_ok-runs.ensures c.in-None.is)
