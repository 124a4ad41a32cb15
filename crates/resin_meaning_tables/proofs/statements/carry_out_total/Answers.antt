use Rattle.resin_meaning.proofs.Composition.{does_next}
use Rattle.resin_meaning_tables.proofs.Carried.{does_more, does_tell}
use Rattle.resin_meaning_tables.proofs.statements.carry_out_total.Goals as goal

pub returns-in-Ok : goal.returns-in-Ok
returns-in-Ok g c =
    λ f. does_next _ _ (does_tell _ _ _ _ c.ticks-left.ensures) (does_more _ _ (rw c.in-Ok.is at c.exec_total.ensures.plan))

pub returns-in-Err : goal.returns-in-Err
returns-in-Err g c =
    λ f. does_next _ _ (does_tell _ _ _ _ c.ticks-left.ensures) (rw c.stopped.ensures (does_more _ _ (rw c.in-Err.is at c.exec_total.ensures.plan)))
