use Rattle.std.proofs.Common.{map, ap, ◌∙◌}
use Rattle.resin_shadow.specs.Parts.{texts_at}
use Rattle.resin_shadow.proofs.Apart.{table_apart, policies_found}
use Rattle.resin_shadow.proofs.runs.FrozenRuns.parts.Goals as goal

pub returns-clause-policies : goal.returns-clause-policies
returns-clause-policies c =
    policies_found c.self.inside.table c.args.self.now c.in_ok-met.met.keys c.in_ok-numbers.numbers.keys c.in_ok-policies.policies c.self.invariant c.self.view_is c.in_ok-met.ensures c.in_ok-numbers.ensures
    (c.in_ok-policies.ensures ∙ ap (texts_at c.self.inside.table.texts.keys) c.as_slice.ensures.keys)

pub returns-clause-places : goal.returns-clause-places
returns-clause-places c =
    table_apart c.self.inside.table c.self.invariant c.args.self.now c.in_ok-met.met.keys c.in_ok-numbers.numbers.keys (map (λ s. s.items) c.in_ok-sets.sets.items) c.in_ok-runs.runs.items c.self.view_is c.in_ok-met.ensures c.in_ok-numbers.ensures c.in_ok-sets.ensures c.in_ok-runs.ensures
