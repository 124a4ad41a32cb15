use Rattle.resin_eval_queries.proofs.Refusals.{refused_seen}
use Rattle.resin_eval_queries.proofs.queries.throw.Goals as goal

pub returns : goal.returns
returns c = refused_seen _ _ _ _ _ c.throw.ensures.acts
