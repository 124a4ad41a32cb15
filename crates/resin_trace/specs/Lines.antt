-- The connections of a trace by number, as a map from number to what waits there.
use Rattle.std.specs.Prelude.{ℕ, Bool, false, List, [], ◌++◌, drop, Option, Some, None, if◌then◌else◌, option_map, get_or}

-- the bytes of a stream that no request took, and whether a request of it was refused
pub record Waiting : Type 0 where
  pub stream : List ℕ
  pub refused : Bool

-- what waits on a connection; None where nothing came since the start, or since its last end
abbrev pub at : List (Option Waiting) → ℕ → Option Waiting
at connections conn = get_or connections conn None

-- the bytes that wait there; none after a refusal
abbrev pub stream_of : Option Waiting → List ℕ
stream_of None = []
stream_of (Some w) = if w.refused then [] else w.stream

-- after one more piece, which a refused connection drops
abbrev pub added : Option Waiting → List ℕ → Waiting
added None piece = record { stream = piece; refused = false }
added (Some w) piece = if w.refused then w else record { stream = w.stream ++ piece; refused = false }

-- after a request took so many bytes
abbrev pub used : ℕ → Option Waiting → Option Waiting
used count waiting = option_map (λ (w : Waiting). record { stream = drop count w.stream; refused = w.refused }) waiting
