use Rattle.resin_sql.proofs.condition.+atom.Given as goal

abbrev pub decreases-atom : goal.decreases-atom
decreases-atom l = l.room
