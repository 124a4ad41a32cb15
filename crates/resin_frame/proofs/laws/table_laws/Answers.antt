use Rattle.resin_frame.proofs.LabelledTables.{keeps_tables, keeps_table_stores, lifts_odd, reads_cells}
use Rattle.resin_frame.proofs.laws.table_laws.Goals as goal

pub returns-clause-tables : goal.returns-clause-tables
returns-clause-tables c = keeps_tables

pub returns-clause-stores : goal.returns-clause-stores
returns-clause-stores c = keeps_table_stores

pub returns-clause-odd : goal.returns-clause-odd
returns-clause-odd c = lifts_odd

pub returns-clause-reads : goal.returns-clause-reads
returns-clause-reads c = reads_cells
