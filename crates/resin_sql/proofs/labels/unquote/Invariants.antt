use Rattle.std.proofs.Common.{◌≡◌, ◌≤◌, ◌++◌, ◌-◌, slice_range}
use Rattle.resin_sql.specs.Labels.{unquoted}
use Rattle.resin_sql.proofs.labels.unquote.Given as goal

abbrev pub invariant-parts : goal.invariant-parts
invariant-parts l = (l.at ≤ l.to) × (l.out ++ unquoted (slice_range l.text l.at l.to) ≡ unquoted (slice_range l.text l.initial.at l.to))

abbrev pub decreases-parts : goal.decreases-parts
decreases-parts l = l.to - l.at
