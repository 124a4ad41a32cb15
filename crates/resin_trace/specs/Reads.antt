-- What a reader answers, by the records that stand in the bytes it was fed.
use Rattle.std.specs.Prelude.{◌≡◌, ◌≢◌, ℕ, ◌+◌, ◌-◌, ◌<◌, ◌≤◌, List, [], ◌++◌, length, take, drop}
use Rattle.std.specs.Prelude.{true, false, MatchBool, ◌⊎◌, Option, Some, None, Result, Ok, Err}
use Rattle.resin_trace.specs.declared.event.TraceEvent.{TraceEvent}
use Rattle.resin_trace.specs.declared.event.TraceEvent.TheVariants.{Piece, End}
use Rattle.resin_trace.specs.declared.reader.TraceFault.{TraceFault}
use Rattle.resin_trace.specs.declared.reader.TraceFault.TheVariants.{Bad, TooLong, Memory}
use Rattle.resin_trace.specs.declared.scan.Scan.{Scan}
use Rattle.resin_trace.specs.declared.scan.Scan.TheVariants.{Piece as ScanPiece, End as ScanEnd, Need as ScanNeed, Bad as ScanBad}
use Rattle.resin_trace.specs.declared.scan.Tail.{Tail}
use Rattle.resin_trace.specs.Front.{Found}
use Rattle.resin_trace.specs.Front as front
use Rattle.resin_trace.specs.Records.{Spells, Front, NoRecord, CanGo, Splits}
use Rattle.resin_trace.specs.Seen.{Seen, fed}

-- the record at the front was handed out
pub record HandsOut (old : Seen) (event : TraceEvent) (new : Seen) : Type 0 where
  pub word : List ℕ
  pub spells : Spells word event
  pub is : old.rest ≡ word ++ new.rest
  pub place : new.place ≡ old.place + length word
  pub over : new.over ≡ old.over

-- no record stands at the front, and one can come
pub record Waits (old new : Seen) : Type 0 where
  pub same : new ≡ old
  pub none : NoRecord old.rest
  pub goes : CanGo old.rest

-- no record stands at the front, and none can come
pub record Breaks (old new : Seen) : Type 0 where
  pub same : new ≡ old
  pub none : NoRecord old.rest
  pub stuck : CanGo old.rest → ⊥

-- what `next` answers, and what it leaves: memory can only be wanting for a record that stands
abbrev pub Reads : Seen → Result (Option TraceEvent) TraceFault → Seen → Type 0
Reads old (Ok (Some event)) new = HandsOut old event new
Reads old (Ok None) new = Waits old new × (old.over ≡ false)
Reads old (Err (Bad offset)) new = Breaks old new × (offset ≡ old.place)
Reads old (Err TooLong) new = Waits old new × (old.over ≡ true)
Reads old (Err Memory) new = (new ≡ old) × Front old.rest

-- the records in the bytes that are left, each with the place after it, and the bytes after them
pub record Left (s : Seen) (events : List (TraceEvent × ℕ)) (rest : List ℕ) : Type 0 where
  pub splits : Splits s.place s.rest events rest
  pub longest : NoRecord rest

-- bytes past the limit came, and a record can still come after those that stand
pub record IsTooLong (s : Seen) : Type 0 where
  pub over : s.over ≡ true
  pub events : List (TraceEvent × ℕ)
  pub rest : List ℕ
  pub left : Left s events rest
  pub goes : CanGo rest

-- what `feed` answers, and what it leaves
abbrev pub Feeds : Seen → List ℕ → Result Unit TraceFault → Seen → Type 0
Feeds old piece (Ok done) new = (new ≡ fed old piece) × (IsTooLong new → ⊥)
Feeds old piece (Err TooLong) new = (new ≡ fed old piece) × IsTooLong new
Feeds old piece (Err (Bad offset)) new = ⊥
Feeds old piece (Err Memory) new = new ≡ old

-- the records stop short of the bytes that are left, at an offset
pub record BreaksAt (s : Seen) (offset : ℕ) : Type 0 where
  pub events : List (TraceEvent × ℕ)
  pub rest : List ℕ
  pub left : Left s events rest
  pub place : offset + length rest ≡ s.place + length s.rest
  pub stuck : ((rest ≢ []) × (s.over ≡ false)) ⊎ (CanGo rest → ⊥)

-- what `finish` answers: all bytes are records, or not, or bytes past the limit came and a record could still come
abbrev pub Finishes : Seen → Result Unit TraceFault → Type 0
Finishes s (Ok done) = (events : List (TraceEvent × ℕ)) × Left s events [] × (s.over ≡ false)
Finishes s (Err (Bad offset)) = BreaksAt s offset
Finishes s (Err TooLong) = IsTooLong s
Finishes s (Err Memory) = ⊥

-- a record stands at the front of a text, and takes so many bytes
pub record WholeAt (text : List ℕ) (event : TraceEvent) (used : ℕ) : Type 0 where
  pub word : List ℕ
  pub rest : List ℕ
  pub spells : Spells word event
  pub is : text ≡ word ++ rest
  pub used_is : used ≡ length word

-- what stands at the front of a text
abbrev pub Stands : List ℕ → Found → Type 0
Stands text (front.Whole event used) = WholeAt text event used
Stands text front.Need = NoRecord text × CanGo text
Stands text front.Bad = NoRecord text × (CanGo text → ⊥)

-- the same, as the code says it
abbrev pub Scans : List ℕ → Scan → Type 0
Scans text (ScanPiece conn from to) = WholeAt text (Piece conn (take (to - from) (drop from text))) (to + 1) × (from ≤ to) × (to < length text)
Scans text (ScanEnd conn used) = WholeAt text (End conn) used × (used ≤ length text)
Scans text ScanNeed = NoRecord text × CanGo text
Scans text ScanBad = NoRecord text × (CanGo text → ⊥)

-- the records of a text that begins at a place, and what stands after them
pub record Tails (place : ℕ) (text : List ℕ) (tail : Tail) : Type 0 where
  pub events : List (TraceEvent × ℕ)
  pub splits : Splits place text events (drop tail.at text)
  pub within : tail.at ≤ length text
  pub longest : NoRecord (drop tail.at text)
  pub goes : MatchBool tail.goes (CanGo (drop tail.at text)) (CanGo (drop tail.at text) → ⊥)
