-- The texts of the policies before the index.
use Rattle.std.proofs.Common.{◌≡◌, map, take, Some}
use Rattle.resin_step_parts.specs.Under.meaning_forms.Keeping.{each_of, frozen_policy}
use Rattle.resin_step_keeping.specs.Sets.{AreFrozen}
use Rattle.resin_step_keeping.proofs.freezing.freeze_set.Given as goal

abbrev pub invariant-loop-policy : goal.invariant-loop-policy
invariant-loop-policy l = record {
  kept : AreFrozen l.m l.kept.entries;
  texts : each_of (map (frozen_policy l.m) (take l.policy-index l.policies)) ≡ Some l.list;
}
