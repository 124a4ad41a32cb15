-- How a whole trace ends, and a reader that goes over it.
use Rattle.std.specs.Prelude.{◌≡◌, ℕ, ◌+◌, ◌<◌, ◌≤◌, ◌⊎◌, nat_lt, List, [], length, take, Result, Ok, Err}
use Rattle.resin_trace.specs.declared.event.TraceEvent.{TraceEvent}
use Rattle.resin_trace.specs.declared.reader.TraceFault.{TraceFault}
use Rattle.resin_trace.specs.declared.reader.TraceFault.TheVariants.{Bad, TooLong, Memory}
use Rattle.resin_trace.specs.Records.{limit, Splits, Records, CanGo}
use Rattle.resin_trace.specs.Seen.{Seen}

-- the whole trace is records
pub record IsGood (trace : List ℕ) : Type 0 where
  pub events : List (TraceEvent × ℕ)
  pub records : Records trace events []
  pub short : length trace ≤ limit

-- its records end at an offset before its end, and it is no longer than the limit, or no record can come there
pub record IsBad (trace : List ℕ) (offset : ℕ) : Type 0 where
  pub events : List (TraceEvent × ℕ)
  pub rest : List ℕ
  pub records : Records trace events rest
  pub place : offset + length rest ≡ length (take limit trace)
  pub before : offset < length trace
  pub stuck : (length trace ≤ limit) ⊎ (CanGo rest → ⊥)

-- it is longer than the limit, and a record can come where its records end
pub record IsLong (trace : List ℕ) : Type 0 where
  pub events : List (TraceEvent × ℕ)
  pub rest : List ℕ
  pub records : Records trace events rest
  pub long : limit < length trace
  pub goes : CanGo rest

-- the three ways in which a trace ends, as `finish` answers them
abbrev pub Ends : List ℕ → Result Unit TraceFault → Type 0
Ends trace (Ok done) = IsGood trace
Ends trace (Err (Bad offset)) = IsBad trace offset
Ends trace (Err TooLong) = IsLong trace
Ends trace (Err Memory) = ⊥

-- what a reader has of a trace of which all these bytes were fed and these records handed out
pub record HasRead (trace : List ℕ) (handed : List (TraceEvent × ℕ)) (s : Seen) : Type 0 where
  pub splits : Splits 0 (take limit trace) handed s.rest
  pub place : s.place + length s.rest ≡ length (take limit trace)
  pub over : s.over ≡ nat_lt limit (length trace)

-- the trace ends in one of these ways
pub record HasEnd (trace : List ℕ) : Type 0 where
  pub answer : Result Unit TraceFault
  pub ends : Ends trace answer

-- the fault is for want of memory, or this holds
abbrev pub IsMemoryOr : TraceFault → Type 0 → Type 0
IsMemoryOr (Bad offset) P = P
IsMemoryOr TooLong P = P
IsMemoryOr Memory P = Unit {0}
