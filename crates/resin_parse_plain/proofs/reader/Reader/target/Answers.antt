use Rattle.resin_parse_plain.specs.Lines.{line_in}
use Rattle.resin_parse_plain.proofs.Lifted.{target_reads}
use Rattle.resin_parse_plain.proofs.reader.Reader.target.Goals as goal

pub returns : goal.returns
returns c = target_reads (line_in c.args.self.now.lines.now) c.args.self.now.depth c.args.tokens.now c.read_target.new.tokens c.read_target.result c.read_target.ensures
