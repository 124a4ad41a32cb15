use Rattle.resin_parse_statement.proofs.top.+nested_by.Given as goal

abbrev pub decreases-nested_by : goal.decreases-nested_by
decreases-nested_by l = l.reader.depth
