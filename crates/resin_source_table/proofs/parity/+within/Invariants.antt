use Rattle.resin_source_table.proofs.parity.+within.Given as goal

abbrev pub decreases-within : goal.decreases-within
decreases-within l = l.depth
