-- The lists of the sets before the index.
use Rattle.std.proofs.Common.{◌≡◌, map, take, Some}
use Rattle.resin_step_parts.specs.Under.label.Sets.{numbers}
use Rattle.resin_step_parts.specs.Under.meaning_forms.Keeping.{each_of, frozen_policy}
use Rattle.resin_step_keeping.specs.Sets.{AreFrozen}
use Rattle.resin_step_keeping.proofs.freezing.freeze_sets.Given as goal

abbrev pub invariant-loop-set : goal.invariant-loop-set
invariant-loop-set l = record {
  kept : AreFrozen l.m l.kept.entries;
  lists : each_of (map (λ s. each_of (map (frozen_policy l.m) (numbers s))) (take l.set-index l.sets)) ≡ Some l.lists.items;
}
