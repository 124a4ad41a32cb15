-- What a loop over pairs has read so far, and that the room falls.
use Rattle.std.proofs.Common.{◌≡◌, ◌+◌, ◌*◌, ◌-◌, ◌≤◌}
use Rattle.resin_frozen.specs.Reading.{value, pairs}
use Rattle.resin_frozen.proofs.values.+reading.Given as goal

abbrev pub decreases-read_value : goal.decreases-read_value
decreases-read_value l = 4 * l.room

abbrev pub decreases-read_braced : goal.decreases-read_braced
decreases-read_braced l = 4 * l.room + 3

abbrev pub decreases-read_pairs : goal.decreases-read_pairs
decreases-read_pairs l = 4 * l.room + 2

abbrev pub decreases-read_pair : goal.decreases-read_pair
decreases-read_pair l = 4 * l.room + 1

abbrev pub invariant-read_pairs-loop-i : goal.invariant-read_pairs-loop-i
invariant-read_pairs-loop-i l =
    (pairs (value l.room) l.keys (l.count - l._i) l.array l.rest ≡ pairs (value l.room) l.keys l.count l.initial.array l.initial.rest) × (l.array.height ≤ l.room + 1)
