-- The small steps of an evaluation on the state alone, and what a method has to do with one.
use Rattle.std.specs.Prelude.{◌≡◌, ◌≢◌, ℕ, ◌-◌, ◌/◌, ◌≤◌, true, Result, Ok, Err, if◌then◌else◌, nat_le}
use Rattle.resin_heap.specs.Under.scalar.declared.faults.ScriptFault.{ScriptFault}
use Rattle.resin_heap.specs.Under.scalar.declared.faults.ScriptFault.TheVariants.{FuelSpent, ChannelInCheck}
use Rattle.resin_machine.specs.declared.stop.Stop.{Stop}
use Rattle.resin_machine.specs.declared.stop.Stop.TheVariants.{Thrown, Exit, Fault, Keeper, Memory}
use Rattle.resin_machine.specs.State.{State}
use Rattle.resin_machine.specs.Keeping.{Keeps, Tied}

-- a step: how it ends, and the state after it
abbrev pub Act : Type 0 → Type 0
Act A = State → Result A Stop × State

-- the code's end and state are those of the step; after want of memory the state is as before. A step on the state makes no keeper call
abbrev pub Acted : {A : Type 0} → Act A → State → Result A Stop → State → Type 0
Acted a m (Ok v) m' = a m ≡ (Ok v, m')
Acted a m (Err (Thrown o)) m' = a m ≡ (Err (Thrown o), m')
Acted a m (Err Exit) m' = a m ≡ (Err Exit, m')
Acted a m (Err (Fault f line)) m' = a m ≡ (Err (Fault f line), m')
Acted a m (Err Keeper) m' = ⊥
Acted a m (Err Memory) m' = m' ≡ m

-- a method of the machine takes a step
pub record Acts {A : Type 0} (a : Act A) (m : State) (r : Result A Stop) (m' : State) : Type 0 where
  pub acted : Acted a m r m'
  pub ticks : m'.ticks ≤ m.ticks
  pub keeps : Keeps m m'
  pub ties : r ≢ Err Memory → Tied m → Tied m'

-- the same of a longer step, in which want of memory may leave the state changed, all but the journal
abbrev pub ActedLoosely : {A : Type 0} → Act A → State → Result A Stop → State → Type 0
ActedLoosely a m (Ok v) m' = a m ≡ (Ok v, m')
ActedLoosely a m (Err (Thrown o)) m' = a m ≡ (Err (Thrown o), m')
ActedLoosely a m (Err Exit) m' = a m ≡ (Err Exit, m')
ActedLoosely a m (Err (Fault f line)) m' = a m ≡ (Err (Fault f line), m')
ActedLoosely a m (Err Keeper) m' = ⊥
ActedLoosely a m (Err Memory) m' = m'.stage.journal ≡ m.stage.journal

pub record ActsLoosely {A : Type 0} (a : Act A) (m : State) (r : Result A Stop) (m' : State) : Type 0 where
  pub acted : ActedLoosely a m r m'
  pub ticks : m'.ticks ≤ m.ticks
  pub keeps : Keeps m m'
  pub ties : r ≢ Err Memory → Tied m → Tied m'

-- a script fault at the running line
abbrev pub faults : {A : Type 0} → ScriptFault → Act A
faults f m = (Err (Fault f m.line), m)

-- so many ticks
abbrev pub charge : ℕ → Act (Unit {0})
charge n m = if nat_le n m.ticks then (Ok tt, record m { ticks = m.ticks - n }) else faults FuelSpent m

-- the ticks of a text of so many bytes
abbrev pub charge_bytes : ℕ → Act (Unit {0})
charge_bytes n = charge (n / 256)

-- a channel may be used: no check, merge or filter runs that the runtime called
abbrev pub awake : Act (Unit {0})
awake m = if m.checking then faults ChannelInCheck m else (Ok tt, m)

-- at another line
abbrev pub at_line : ℕ → State → State
at_line n m = record m { line = n }

-- back at the line that was
abbrev pub back_at_line : State → State → State
back_at_line was m = record m { line = was.line }

-- with a check running
abbrev pub hushed : State → State
hushed m = record m { checking = true }

abbrev pub unhushed : State → State → State
unhushed was m = record m { checking = was.checking }
