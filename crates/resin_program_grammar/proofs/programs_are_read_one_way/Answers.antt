use Rattle.resin_program_grammar.specs.Declarations.{rules, program}
use Rattle.resin_form.proofs.Fronts.{one_tree, front_of_front}
use Rattle.resin_program_grammar.proofs.programs_are_read_one_way.Goals as goal

pub returns : goal.returns
returns c = record { one_tree = λ line. one_tree (rules line) (program line); fronts = λ line. front_of_front (rules line) (program line) }
