use Rattle.std.proofs.Common.{rules}
use Rattle.resin_lstr.proofs.replace.replace_run.Goals as goal

pub returns : goal.returns
returns c = search rules
