-- How a statement's end without an answer ends a run.
use Rattle.std.specs.Prelude.{ℕ, Result, Ok, Err}
use Rattle.resin_machine.specs.declared.stop.Stop.{Stop}
use Rattle.resin_machine.specs.declared.stop.Stop.TheVariants.{Fault}
use Rattle.resin_machine.specs.declared.stop.Stop.TheVariants as stop
use Rattle.resin_machine.specs.Under.scalar.declared.faults.ScriptFault.TheVariants.{FuelSpent}
use Rattle.resin_sql_more.specs.Under.sql.declared.fault.SqlRefusal.{SqlRefusal}
use Rattle.resin_sql_more.specs.Under.sql.declared.fault.SqlStop.{SqlStop}
use Rattle.resin_sql_more.specs.Under.sql.declared.fault.SqlStop.TheVariants.{Refused, Keeper, Spent, Memory}

-- the end of a run that carried out a statement without an answer: it is refused, or the run stops, at this line where that is a fault
abbrev pub stopped : {A : Type 0} → ℕ → SqlStop → Result (Result A SqlRefusal) Stop
stopped line (Refused x) = Ok (Err x)
stopped line Keeper = Err stop.Keeper
stopped line Spent = Err (Fault FuelSpent line)
stopped line Memory = Err stop.Memory

abbrev pub ended : {A : Type 0} → ℕ → Result A SqlStop → Result (Result A SqlRefusal) Stop
ended line (Ok answer) = Ok (Ok answer)
ended line (Err s) = stopped line s
