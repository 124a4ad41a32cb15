use Rattle.resin_form.proofs.Fronts.{one_tree, front_of_front}
use Rattle.resin_grammar.specs.Expressions.{rules, expression}
use Rattle.resin_grammar.proofs.expressions_are_read_one_way.Goals as goal

pub returns : goal.returns
returns c = record { one_tree = one_tree rules expression; fronts = front_of_front rules expression }
