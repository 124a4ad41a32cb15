use Rattle.std.proofs.Common.{ap, length, arith}
use Rattle.resin_shadow.proofs.Kept.{count_of}
use Rattle.resin_shadow.proofs.runs.FrozenRuns.push.Goals as goal

pub push_kind-requires-clause-count : goal.push_kind-requires-clause-count
push_kind-requires-clause-count c =
    let a = count_of c.self.inside.table c.self.invariant in
    let b = ap length c.self.view_is in
    let d = c.kind_of.ensures.stays.len in
    let e = c.requires.count in
    omega (arith, a, b, d, e)
