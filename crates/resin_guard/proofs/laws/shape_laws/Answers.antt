use Rattle.resin_guard.proofs.FollowStatements.{keeps_statement}
use Rattle.resin_guard.proofs.Refills.{keeps_items}
use Rattle.resin_guard.proofs.TellStatements.{requotes_texts}
use Rattle.resin_guard.proofs.laws.shape_laws.Goals as goal

pub returns : goal.returns
returns c = record { queries = keeps_statement; literals = requotes_texts; pages = keeps_items }
