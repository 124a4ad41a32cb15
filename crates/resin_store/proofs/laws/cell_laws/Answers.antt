use Rattle.resin_store.proofs.CellLifts.{keeps_cells, lifts_texts, lifts_integers}
use Rattle.resin_store.proofs.laws.cell_laws.Goals as goal

pub returns-clause-cells : goal.returns-clause-cells
returns-clause-cells c = keeps_cells

pub returns-clause-texts : goal.returns-clause-texts
returns-clause-texts c = lifts_texts

pub returns-clause-integers : goal.returns-clause-integers
returns-clause-integers c = lifts_integers
