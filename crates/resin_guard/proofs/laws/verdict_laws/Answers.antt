use Rattle.resin_guard.proofs.Queries.{query_is_guarded}
use Rattle.resin_guard.proofs.Verdicts.{page_is_guarded}
use Rattle.resin_guard.proofs.laws.verdict_laws.Goals as goal

pub returns : goal.returns
returns c = record { queries = query_is_guarded; pages = page_is_guarded }
