use Rattle.std.proofs.Common.{◌∙◌, nat_eq}
use Rattle.resin_shadow.proofs.Ending.{not_placed}
use Rattle.resin_shadow.proofs.numbering.place_of.Goals as goal

pub returns-in-None : goal.returns-in-None
returns-in-None c = c.len.ensures.len ∙ not_placed (nat_eq c.args.number) c.args.met.now.keys c.in-None.ensures.index
