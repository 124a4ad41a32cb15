use Rattle.resin_store.proofs.Lifts.{keeps_entries, lifts_good, lifts_bad, lifts_written}
use Rattle.resin_store.proofs.Stores.{keeps_files}
use Rattle.resin_store.proofs.laws.store_laws.Goals as goal

pub returns-clause-entries : goal.returns-clause-entries
returns-clause-entries c = keeps_entries

pub returns-clause-files : goal.returns-clause-files
returns-clause-files c = keeps_files

pub returns-clause-good : goal.returns-clause-good
returns-clause-good c = lifts_good

pub returns-clause-bad : goal.returns-clause-bad
returns-clause-bad c = lifts_bad

pub returns-clause-written : goal.returns-clause-written
returns-clause-written c = lifts_written
