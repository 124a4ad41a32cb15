-- How high a value is that a change gives: what has to be known before the change is made.
use Rattle.std.specs.Prelude.{◌≡◌, ℕ, ◌+◌, max, nat_lt, List, Result, Ok, Err, if◌then◌else◌}
use Rattle.resin_ops.specs.Under.scalar.declared.faults.ScriptFault.TheVariants.{ArrayTooDeep}
use Rattle.resin_ops.specs.Under.scalar.declared.faults.CallStop.{CallStop}
use Rattle.resin_ops.specs.Under.scalar.declared.faults.CallStop.TheVariants.{Fault as CallFault}
use Rattle.resin_ops.specs.Under.value.declared.value.Value.{Value}
use Rattle.resin_ops.specs.Under.value.Seen.{tree_of}
use Rattle.resin_ops.specs.Under.value.Changes.{height_in}
use Rattle.resin_target.specs.Reads.{on}

-- the height that the value gives an array that holds it
abbrev pub height_of : Result Value CallStop → Result ℕ CallStop
height_of (Ok v) = Ok (height_in (tree_of v))
height_of (Err stop) = Err stop

-- the same of an array of this height, once a value of that height was put into it
abbrev pub raised_to : ℕ → ℕ → Result ℕ CallStop
raised_to height below = if nat_lt 100 (max height below) then Err (CallFault ArrayTooDeep) else Ok (max height below + 1)
