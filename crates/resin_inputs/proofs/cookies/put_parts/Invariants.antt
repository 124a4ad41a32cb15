-- The parts that are left bring the array to that of all parts.
use Rattle.std.proofs.Common.{◌≡◌, length}
use Rattle.resin_inputs.specs.Cookies.{put_parts}
use Rattle.resin_inputs.proofs.cookies.put_parts.Given as goal

abbrev pub invariant-parts : goal.invariant-parts
invariant-parts l = put_parts l.array l.rest ≡ put_parts l.fn.array l.fn.value

abbrev pub decreases-parts : goal.decreases-parts
decreases-parts l = length l.rest
