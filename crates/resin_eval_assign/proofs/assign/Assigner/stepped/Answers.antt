use Rattle.resin_eval_assign.proofs.assign.Assigner.stepped.Goals as goal

pub returns-then-up : goal.returns-then-up
returns-then-up g c =
    rw c.if-up.true c.incremented.ensures

pub returns : goal.returns
returns g c =
    rw c.if-up.false c.decremented.ensures
