use Rattle.resin_frame.proofs.Rows.{create_keeps, insert_keeps, update_keeps, delete_keeps, rows_stay}
use Rattle.resin_frame.proofs.laws.row_laws.Goals as goal

pub returns-clause-create : goal.returns-clause-create
returns-clause-create c = create_keeps

pub returns-clause-insert : goal.returns-clause-insert
returns-clause-insert c = insert_keeps

pub returns-clause-update : goal.returns-clause-update
returns-clause-update c = update_keeps

pub returns-clause-delete : goal.returns-clause-delete
returns-clause-delete c = delete_keeps

pub returns-clause-rows : goal.returns-clause-rows
returns-clause-rows c = rows_stay
