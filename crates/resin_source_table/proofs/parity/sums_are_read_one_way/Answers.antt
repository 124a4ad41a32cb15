use Rattle.resin_source_table.specs.Parity.{rules, sum}
use Rattle.resin_form.proofs.Fronts.{one_tree, front_of_front}
use Rattle.resin_source_table.proofs.parity.sums_are_read_one_way.Goals as goal

pub returns : goal.returns
returns c = record { one_value = one_tree rules sum; fronts = front_of_front rules sum }
