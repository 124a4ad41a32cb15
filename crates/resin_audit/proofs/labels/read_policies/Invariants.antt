-- The fields that are left tell the numbers behind those so far.
use Rattle.std.proofs.Common.{◌≡◌, ◌++◌, Some, length}
use Rattle.resin_journal_file.specs.Reading.{and_then, objects}
use Rattle.resin_audit.proofs.labels.read_policies.Given as goal

abbrev pub invariant-fields : goal.invariant-fields
invariant-fields l = objects l.initial.fields ≡ and_then (objects l.fields) (λ ns. Some (l.policies ++ ns))

abbrev pub decreases-fields : goal.decreases-fields
decreases-fields l = length l.fields
