use Rattle.resin_shadow.specs.Readers.{read2}
use Rattle.resin_shadow.proofs.Ending.{none_read2}
use Rattle.resin_shadow.proofs.Finding.{found_none}
use Rattle.resin_shadow.proofs.decoding.second.Goals as goal

pub returns-in-None : goal.returns-in-None
returns-in-None c = none_read2 c.args.len c.args.shadow.now c.requires.some c.requires.size (found_none (read2 c.args.shadow.now) c.read_second.result c.in_ok-runs.field-0 c.read_second.ensures c.in_ok-runs.ensures c.in-None.is)
