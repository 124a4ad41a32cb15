use Rattle.resin_lstr.proofs.Joins.{joined_alone}
use Rattle.resin_lstr.proofs.kept_runs.lengthen.Goals as goal

pub returns-clause-joined : goal.returns-clause-joined
returns-clause-joined c =
    λ _. joined_alone c.args.run.now c.args.more.now c.only-item.result c.requires.coalesced c.in-len1.len_at_least c.in-len1.len_below c.only-item.is
    (c.same.ensures.equal.0 c.if-not-same.false)
