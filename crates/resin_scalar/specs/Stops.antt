-- What a call gives that may run out of memory.
use Rattle.std.specs.Prelude.{◌≡◌, Result, Ok, Err, IsOk}
use Rattle.resin_scalar.specs.declared.faults.CallStop.{CallStop}
use Rattle.resin_scalar.specs.declared.faults.CallStop.TheVariants.{Throw, Fault, Memory}

-- the answer is the rule's: its value, its throw or its fault; want of memory comes only where the rule gives a value
abbrev pub Gives : {X : Type 0} → Result X CallStop → Result X CallStop → Type 0
Gives (Ok x) rule = rule ≡ Ok x
Gives (Err (Throw kind)) rule = rule ≡ Err (Throw kind)
Gives (Err (Fault fault)) rule = rule ≡ Err (Fault fault)
Gives (Err Memory) rule = IsOk rule

-- the answer is the rule's: its value, its throw or its fault; want of memory may stand in the place of any
abbrev pub GivesOrNoMemory : {X : Type 0} → Result X CallStop → Result X CallStop → Type 0
GivesOrNoMemory (Ok x) rule = rule ≡ Ok x
GivesOrNoMemory (Err (Throw kind)) rule = rule ≡ Err (Throw kind)
GivesOrNoMemory (Err (Fault fault)) rule = rule ≡ Err (Fault fault)
GivesOrNoMemory (Err Memory) rule = Unit {0}
