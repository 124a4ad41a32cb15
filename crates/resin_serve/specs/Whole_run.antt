-- What the run of a whole trace leaves (this project).
use Rattle.std.specs.Prelude.{◌≡◌, ℕ, ◌+◌, ◌≤◌, List, [], ◌++◌, length, ⊤, Option, Some, None, Ok, Err}
use Rattle.resin_trace.specs.declared.event.TraceEvent.{TraceEvent}
use Rattle.resin_trace.specs.Records.{Records}
use Rattle.resin_trace.specs.Seen.{Seen}
use Rattle.resin_trace.specs.Reads.{Finishes}
use Rattle.resin_trace.specs.declared.reader.TraceFault.TheVariants.{Bad, TooLong}
use Rattle.resin_trace.specs.Lines.{Waiting}
use Rattle.resin_trace.specs.Verdicts.{IsGood, IsBad, IsLong, HasRead}
use Rattle.resin_site.specs.Under.base.Causes.{Rose}
use Rattle.resin_serve.specs.declared.give.Given.{Given}
use Rattle.resin_serve.specs.declared.give.Given.TheVariants.{Whole}
use Rattle.resin_serve.specs.declared.give.Given.TheVariants.{Fault as GivenFault, Memory as GivenMemory}
use Rattle.resin_serve.specs.declared.status.Status.{Status}
use Rattle.resin_serve.specs.declared.status.Status.TheVariants.{Usage, BadTrace, ReadFault, WriteFault, TraceTooLong, AuditRefused}
use Rattle.resin_serve.specs.declared.status.Status.TheVariants.{Ok as StatusOk, Memory as StatusMemory}
use Rattle.resin_serve.specs.Meaning.{Meaning, Owed, order}
use Rattle.resin_site.specs.Keeping.{Later}
use Rattle.resin_serve.specs.Ran.{World, Ran}
use Rattle.resin_serve.specs.Lines.{Hold}
use Rattle.resin_serve.specs.Top.{events, Beyond}

-- a told source gave these bytes
abbrev pub Took : Option (List ℕ) → Option (List ℕ) → List ℕ → Type 0
Took None new taken = ⊤
Took (Some xs) None taken = ⊥
Took (Some xs) (Some ys) taken = xs ≡ taken ++ ys

-- the answer's record ends at most a buffer's bytes, less one, before what was taken
abbrev pub Near : List ℕ → Owed → Type 0
Near taken a = length taken ≤ a.place + 65535

-- the run of the records of a trace came so far
abbrev pub RunOf : Given → (Owed → Type 0) → Meaning → List ℕ → List ℕ → World → World → Type 0
RunOf g Q R K trace old new =
    (records : List (TraceEvent × ℕ)) (rest : List ℕ) → Records trace records rest → Ran g Q R K 1 (order [] records) old new

-- how a run over a trace ends, of which these bytes were taken: after a good, a bad and a too long trace all its records were served; after
-- a read fault those that stand whole in what was taken; a write fault and want of memory stop it
abbrev pub Runs : Status → Meaning → List ℕ → List ℕ → List ℕ → World → World → Type 0
Runs StatusOk R K trace taken old new = IsGood trace × RunOf Whole (λ _. ⊤) R K trace old new
Runs Usage R K trace taken old new = ⊥
Runs (BadTrace offset) R K trace taken old new = IsBad trace offset × RunOf Whole (λ _. ⊤) R K trace old new
Runs ReadFault R K trace taken old new = RunOf Whole (λ _. ⊤) R K taken old new
Runs WriteFault R K trace taken old new = RunOf GivenFault (Near taken) R K trace old new
Runs TraceTooLong R K trace taken old new = IsLong trace × RunOf Whole (λ _. ⊤) R K trace old new
Runs StatusMemory R K trace taken old new = RunOf GivenMemory (λ _. ⊤) R K trace old new
Runs AuditRefused R K trace taken old new = ⊥

-- The run of a trace that a source held, which now tells what is left of it: bytes were taken from the front of the trace, and the run came so far.
pub record RunsFrom (status : Status) (R : Meaning) (K trace : List ℕ) (now : Option (List ℕ)) (old new : World) : Type 0 where
  pub taken : List ℕ
  pub left : List ℕ
  pub told : now ≡ Some left
  pub front : trace ≡ taken ++ left
  pub runs : Runs status R K trace taken old new

abbrev pub given_of_status : Status → Given
given_of_status StatusOk = Whole
given_of_status Usage = Whole
given_of_status (BadTrace offset) = Whole
given_of_status ReadFault = Whole
given_of_status WriteFault = GivenFault
given_of_status TraceTooLong = Whole
given_of_status StatusMemory = GivenMemory
given_of_status AuditRefused = Whole

-- a read fault comes only where the source's count rose, and else it stayed
abbrev pub ReadCause : Status → ℕ → ℕ → Type 0
ReadCause StatusOk before now = now ≡ before
ReadCause Usage before now = now ≡ before
ReadCause (BadTrace offset) before now = now ≡ before
ReadCause ReadFault before now = Rose before now
ReadCause WriteFault before now = now ≡ before
ReadCause TraceTooLong before now = now ≡ before
ReadCause StatusMemory before now = now ≡ before
ReadCause AuditRefused before now = now ≡ before

-- the records of what was taken so far were read, and their answers were served
pub record RunsSo (R : Meaning) (left left' : Option (List ℕ)) (reader : Seen) (n made : ℕ) (failed : List ℕ)
    (connections : List (Option Waiting)) (old new : World) : Type 0 where
  pub taken : List ℕ
  pub es : List (TraceEvent × ℕ)
  pub told : Took left left' taken
  pub read : HasRead taken es reader
  pub before : ℕ
  pub near : length taken ≤ before + 65536
  pub beyond : Beyond before reader
  pub hold : Hold connections (events es)
  pub number : n ≡ 1 + length (order [] es)
  pub ran : (K : List ℕ) → Later made failed K → Ran Whole (Near taken) R K 1 (order [] es) old new

-- how a run ends where the trace does
abbrev pub Finished : Seen → Status → Type 0
Finished s StatusOk = Finishes s (Ok tt)
Finished s Usage = ⊥
Finished s (BadTrace offset) = Finishes s (Err (Bad offset))
Finished s ReadFault = ⊥
Finished s WriteFault = ⊥
Finished s TraceTooLong = Finishes s (Err TooLong)
Finished s StatusMemory = ⊥
Finished s AuditRefused = ⊥

-- after a run to the end of a good trace, the next answer's number tells how many answers the trace has
abbrev pub Numbers : Status → List ℕ → ℕ → Type 0
Numbers StatusOk trace number =
    (records : List (TraceEvent × ℕ)) (rest : List ℕ) → Records trace records rest → number ≡ 1 + length (order [] records)
Numbers Usage trace number = ⊤
Numbers (BadTrace offset) trace number = ⊤
Numbers ReadFault trace number = ⊤
Numbers WriteFault trace number = ⊤
Numbers TraceTooLong trace number = ⊤
Numbers StatusMemory trace number = ⊤
Numbers AuditRefused trace number = ⊤
