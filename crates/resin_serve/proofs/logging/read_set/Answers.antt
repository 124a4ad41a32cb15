use Rattle.std.proofs.Common.{subst, arith, ◌∙◌}
use Rattle.std.proofs.lemmas.List.{take_all}
use Rattle.resin_audit.specs.Under.journal_file.Limits.{Each, IsObject}
use Rattle.resin_serve.proofs.logging.read_set.Goals as goal

pub returns : goal.returns
returns c =
    let ns = c.as_slice-number-items.result.now in
    subst (Each IsObject) (take_all c.loop-number.number-index ns (omega arith) ∙ c.as_slice-number-items.ensures.members) c.loop-number.invariant
