-- The fields before the index are set, and the rest is left.
use Rattle.std.proofs.Common.{drop}
use Rattle.resin_step_parts.specs.Under.meaning_forms.Keeping.{set_fields}
use Rattle.resin_step_parts.proofs.Steps.{Leaves}
use Rattle.resin_step_keeping.proofs.thawing.set_fields.Given as goal

abbrev pub invariant-loop-i : goal.invariant-loop-i
invariant-loop-i l = Leaves (set_fields l.object l.fields.entries) l.initial.m (set_fields l.object (drop l.i l.fields.entries)) l.m
