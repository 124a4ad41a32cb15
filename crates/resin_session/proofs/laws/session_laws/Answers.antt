use Rattle.resin_session.proofs.Sessions.{keeps_one_array, reads_what_is_kept}
use Rattle.resin_session.proofs.laws.session_laws.Goals as goal

pub returns-clause-one : goal.returns-clause-one
returns-clause-one c = keeps_one_array

pub returns-clause-read : goal.returns-clause-read
returns-clause-read c = reads_what_is_kept
