use Rattle.std.proofs.Common.{◌≡◌, take}
use Rattle.resin_step_keeping.specs.Sets.{objects_at}
use Rattle.resin_step_keeping.proofs.labels.objects_at.Given as goal

abbrev pub invariant-loop-place : goal.invariant-loop-place
invariant-loop-place l = l.found.items ≡ objects_at l.objects (take l.place-index l.places)
