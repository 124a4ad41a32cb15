use Rattle.resin_sql.proofs.Whole.{one_answer}
use Rattle.resin_sql.proofs.laws.sql_laws.Goals as goal

pub returns : goal.returns
returns c = one_answer
