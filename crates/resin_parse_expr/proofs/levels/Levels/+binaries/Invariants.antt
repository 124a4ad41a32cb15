use Rattle.resin_parse_expr.proofs.levels.Levels.+binaries.Given as goal

abbrev pub decreases-binaries : goal.decreases-binaries
decreases-binaries g l = l.count
