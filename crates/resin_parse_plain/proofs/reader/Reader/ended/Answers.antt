use Rattle.resin_program_grammar.specs.Plain as spec
use Rattle.resin_program_grammar.specs.Trees as tree
use Rattle.resin_parse_plain.proofs.Lifted.{passed}
use Rattle.resin_parse_plain.proofs.reader.Reader.ended.Goals as goal

pub returns : goal.returns
unfolding spec.ended
returns c = rw c.and.ensures (passed _ (tree.simple c.args.line c.args.simple) c.want.result c.want.new.tokens c.want.ensures)
