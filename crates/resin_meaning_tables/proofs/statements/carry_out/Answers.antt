use Rattle.resin_meaning_tables.proofs.Carried.{does_plan}
use Rattle.resin_meaning_tables.proofs.statements.carry_out.Goals as goal

pub returns-in-Ok : goal.returns-in-Ok
returns-in-Ok g c =
    λ f. does_plan _ _ (rw c.in-Ok.is at c.exec.ensures.plan)

pub returns-in-Err : goal.returns-in-Err
returns-in-Err g c =
    λ f. rw c.stopped.ensures (does_plan _ _ (rw c.in-Err.is at c.exec.ensures.plan))
