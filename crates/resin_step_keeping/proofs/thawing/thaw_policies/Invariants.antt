-- The objects of the texts before the index are made, and the rest is left.
use Rattle.std.proofs.Common.{[], drop}
use Rattle.resin_step_parts.specs.Under.meaning_forms.Keeping.{thaw_policies}
use Rattle.resin_step_parts.proofs.Steps.{Leaves}
use Rattle.resin_step_keeping.proofs.thawing.thaw_policies.Given as goal

abbrev pub invariant-loop-text : goal.invariant-loop-text
invariant-loop-text l = Leaves (thaw_policies [] l.texts) l.initial.m (thaw_policies l.objects.items (drop l.text-index l.texts)) l.m
