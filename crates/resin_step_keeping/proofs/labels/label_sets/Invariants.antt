use Rattle.std.proofs.Common.{◌≡◌, map, take}
use Rattle.resin_step_keeping.specs.Sets.{labels_at}
use Rattle.resin_step_keeping.proofs.labels.label_sets.Given as goal

abbrev pub invariant-loop-places : goal.invariant-loop-places
invariant-loop-places l = l.labels.items ≡ map (λ s. labels_at l.objects s.items) (take l.places-index l.sets)
