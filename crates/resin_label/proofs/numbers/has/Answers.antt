use Rattle.std.proofs.Common.{◌∙◌}
use Rattle.resin_label.proofs.Rising.{found}
use Rattle.resin_label.proofs.numbers.has.Goals as goal

pub returns : goal.returns
returns c = c.is_ok.ensures.value ∙ found c.args.numbers.now c.args.n c.binary_search.result c.requires c.binary_search.ensures.position
