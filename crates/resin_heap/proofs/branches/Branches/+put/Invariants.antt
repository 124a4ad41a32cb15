use Rattle.resin_heap.proofs.branches.Branches.+put.Given as goal

abbrev pub decreases-put : goal.decreases-put
decreases-put l = l.place
