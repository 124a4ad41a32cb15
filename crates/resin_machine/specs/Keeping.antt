-- What every step of an evaluation leaves as it was.
use Rattle.std.specs.Prelude.{◌≡◌, ◌++◌, length, IsTrue, filter, nat_lt}
use Rattle.resin_stage.specs.Under.journal.Events.{EventList}
use Rattle.resin_stage.specs.Under.journal.Access.{write_of}
use Rattle.resin_stage.specs.Ties.{IsTied}
use Rattle.resin_machine.specs.State.{State}

-- the events of writes that leave
abbrev pub leaving : EventList → EventList
leaving j = filter (λ e. nat_lt 0 (write_of e)) j

-- the journal only grew: what it held is its front
abbrev pub HasGrown : EventList → EventList → Type 0
HasGrown old new = (more : EventList) × (new ≡ old ++ more)

-- nothing leaves: the journal grows by no event of a write, no number is drawn, and the answer under way stays
pub record IsCalm (m m' : State) : Type 0 where
  pub grown : HasGrown m.stage.journal m'.stage.journal
  pub journal : leaving m'.stage.journal ≡ leaving m.stage.journal
  pub writes : m'.stage.writes ≡ m.stage.writes
  pub status : m'.stage.status ≡ m.stage.status
  pub headers : m'.stage.headers ≡ m.stage.headers
  pub body : m'.stage.body ≡ m.stage.body
  pub mail : m'.stage.mail ≡ m.stage.mail

-- an evaluation leaves the request's number, as many calls open as it met, and whether a check runs; while one runs nothing leaves
pub record Keeps (m m' : State) : Type 0 where
  pub request : m'.request ≡ m.request
  pub open_calls : length m'.frames.calls ≡ length m.frames.calls
  pub checking : m'.checking ≡ m.checking
  pub calm : IsTrue m.checking → IsCalm m m'

-- the answer under way is what the journal says was sent
abbrev pub Tied : State → Type 0
Tied m = IsTied m.request m.stage

-- what a change of variables, objects and the like leaves: all that left, the ticks, how many calls are open, and whether a check runs
pub record IsInside (m m' : State) : Type 0 where
  pub stage : m'.stage ≡ m.stage
  pub ticks : m'.ticks ≡ m.ticks
  pub request : m'.request ≡ m.request
  pub open_calls : length m'.frames.calls ≡ length m.frames.calls
  pub checking : m'.checking ≡ m.checking
