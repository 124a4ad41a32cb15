use Rattle.resin_parse_plain.proofs.constant.+read_constant.Given as goal

abbrev pub decreases-read_constant : goal.decreases-read_constant
decreases-read_constant l = l.reader.depth
