use Rattle.std.proofs.Common.{sym, ap, ◌∙◌, arith, length, ◌-◌}
use Rattle.resin_lstr.proofs.Spelled.{ends_at}
use Rattle.resin_lstr.proofs.runs.ends_with.Goals as goal

pub returns-in-len1-up : goal.returns-in-len1-up
returns-in-len1-up c =
    let at = ends_at c.args.set.now c.args.runs.now (length c.args.runs.now - 1) c.last-item.result (omega arith) in
    let is = ap (λ r. r.set) c.last-item.is in
    (λ t. at.1 (sym is ∙ c.same.ensures.equal.0 t), λ h. c.same.ensures.equal.1 (is ∙ at.0 h))
