-- What the parts of a run leave (this project).
use Rattle.std.specs.Prelude.{◌≡◌, ℕ, ◌+◌, ◌<◌, List, [], ◌∷◌, ◌++◌, length, ⊤, true, false, Option}
use Rattle.resin_trace.specs.declared.event.TraceEvent.{TraceEvent}
use Rattle.resin_trace.specs.Records.{Spells, NoRecord, CanGo}
use Rattle.resin_trace.specs.Seen.{Seen}
use Rattle.resin_trace.specs.Lines.{Waiting}
use Rattle.resin_trace.specs.Verdicts.{HasRead}
use Rattle.resin_serve.specs.declared.run.Ready.{Ready}
use Rattle.resin_serve.specs.declared.run.Ready.TheVariants.{Wait, Bad, TooLong}
use Rattle.resin_serve.specs.declared.run.Ready.TheVariants.{Fault as ReadyFault, Memory as ReadyMemory}
use Rattle.resin_serve.specs.declared.give.Given.{Given}
use Rattle.resin_serve.specs.declared.give.Given.TheVariants.{Whole, Fault, Memory}
use Rattle.resin_serve.specs.Meaning.{Meaning, Owed, fresh, order}
use Rattle.resin_site.specs.Keeping.{Later}
use Rattle.resin_serve.specs.Ran.{World, Ran}
use Rattle.resin_serve.specs.Lines.{still, Hold}

abbrev pub OnWhole : Given → Type 0 → Type 0
OnWhole Whole P = P
OnWhole Fault P = ⊤
OnWhole Memory P = ⊤

-- a connection gave all that it had, and goes on from there
pub record RanLine (old new : Option Waiting) (before after : ℕ) : Type 0 where
  pub none : still new [] ≡ []
  pub goes : (more : List ℕ) → still old more ≡ still old [] ++ still new more
  pub number : after ≡ before + length (still old [])

-- the answers of a record were served
pub record RanEvent (g : Given) (R : Meaning) (seen : List TraceEvent) (e : TraceEvent × ℕ) (before after made : ℕ) (failed : List ℕ)
    (connections : List (Option Waiting)) (old new : World) : Type 0 where
  pub ran : (K : List ℕ) → Later made failed K → Ran g (λ a. a.place ≡ e.1) R K before (fresh seen e) old new
  pub whole : OnWhole g (Hold connections (seen ++ e.0 ∷ []) × (after ≡ before + length (fresh seen e)))

-- a record at the front ends past this many bytes
abbrev pub Beyond : ℕ → Seen → Type 0
Beyond b s = (word more : List ℕ) (e : TraceEvent) → Spells word e → s.rest ≡ word ++ more → b < s.place + length word

abbrev pub Past : ℕ → Owed → Type 0
Past b a = b < a.place

-- what the records say, without their places
abbrev pub events : List (TraceEvent × ℕ) → List TraceEvent
events [] = []
events (e ∷ es) = e.0 ∷ events es

-- records were read, and their answers were served
pub record WentOn (g : Given) (R : Meaning) (b : ℕ) (seen : List TraceEvent) (read read' : Seen) (n n' made : ℕ) (failed : List ℕ)
    (connections : List (Option Waiting)) (old new : World) : Type 0 where
  pub es : List (TraceEvent × ℕ)
  pub reads : (trace : List ℕ) (handed : List (TraceEvent × ℕ)) → HasRead trace handed read → HasRead trace (handed ++ es) read'
  pub ends : read'.place + length read'.rest ≡ read.place + length read.rest
  pub over : read'.over ≡ read.over
  pub ran : (K : List ℕ) → Later made failed K → Ran g (Past b) R K n (order seen es) old new
  pub whole : OnWhole g (Hold connections (seen ++ events es) × (n' ≡ n + length (order seen es)) × Beyond b read')

abbrev pub given_of : Ready → Given
given_of Wait = Whole
given_of (Bad offset) = Whole
given_of TooLong = Whole
given_of ReadyFault = Fault
given_of ReadyMemory = Memory

-- what stands where the records end
abbrev pub Stands : Ready → Seen → Type 0
Stands Wait s = NoRecord s.rest × CanGo s.rest × (s.over ≡ false)
Stands (Bad offset) s = NoRecord s.rest × (CanGo s.rest → ⊥) × (offset ≡ s.place)
Stands TooLong s = NoRecord s.rest × CanGo s.rest × (s.over ≡ true)
Stands ReadyFault s = ⊤
Stands ReadyMemory s = ⊤

pub record Went (r : Ready) (R : Meaning) (b : ℕ) (seen : List TraceEvent) (read read' : Seen) (n n' made : ℕ) (failed : List ℕ)
    (connections : List (Option Waiting)) (old new : World) : Type 0 where
  pub on : WentOn (given_of r) R b seen read read' n n' made failed connections old new
  pub stands : Stands r read'
