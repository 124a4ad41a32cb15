-- What a step of a stream says.
use Rattle.std.specs.Prelude.{◌≡◌, ℕ, ◌<◌, ◌≤◌, List, length, Option, Some, None, ⊤}
use Rattle.resin_http.specs.declared.request.Step.{Step}
use Rattle.resin_http.specs.declared.request.Step.TheVariants.{Need, Got, Refuse}
use Rattle.resin_http.specs.Stream.{Answer, asks, refuses, IsServable}

-- the step is what the front of the stream asks
abbrev pub Steps : Option (Answer × ℕ) → Step → Type 0
Steps f Need = f ≡ None
Steps f (Got request used) = f ≡ Some (asks request, used)
Steps f (Refuse status) = (used : ℕ) × (f ≡ Some (refuses status, used))

-- a request takes at least one byte of the stream, and is one that can be served
abbrev pub Fits : List ℕ → Step → Type 0
Fits s Need = ⊤
Fits s (Got request used) = (0 < used) × (used ≤ length s) × IsServable request
Fits s (Refuse status) = ⊤
