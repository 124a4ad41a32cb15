-- What a loop over pairs has written so far, and that the room falls.
use Rattle.std.proofs.Common.{◌+◌, ◌*◌, take}
use Rattle.resin_frozen.proofs.Loops.{SoFar}
use Rattle.resin_frozen.proofs.freezing.+freezing.Given as goal

abbrev pub decreases-push_value : goal.decreases-push_value
decreases-push_value l = 3 * l.room + 2

abbrev pub decreases-push_array : goal.decreases-push_array
decreases-push_array l = 3 * l.room + 1

abbrev pub decreases-push_pairs : goal.decreases-push_pairs
decreases-push_pairs l = 3 * l.room + 3

abbrev pub invariant-push_pairs-loop-i : goal.invariant-push_pairs-loop-i
invariant-push_pairs-loop-i l = SoFar l.room l.initial.text (take l.i l.array.entries) l.text
