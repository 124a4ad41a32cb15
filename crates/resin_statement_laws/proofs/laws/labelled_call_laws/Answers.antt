use Rattle.resin_statement_laws.proofs.Calls.{shows_columns, shows_rows, makes, puts_last, sets_cells, takes_out}
use Rattle.resin_statement_laws.proofs.laws.labelled_call_laws.Goals as goal

pub returns-clause-columns : goal.returns-clause-columns
returns-clause-columns c = shows_columns

pub returns-clause-rows : goal.returns-clause-rows
returns-clause-rows c = shows_rows

pub returns-clause-create : goal.returns-clause-create
returns-clause-create c = makes

pub returns-clause-insert : goal.returns-clause-insert
returns-clause-insert c = puts_last

pub returns-clause-update : goal.returns-clause-update
returns-clause-update c = sets_cells

pub returns-clause-delete : goal.returns-clause-delete
returns-clause-delete c = takes_out
