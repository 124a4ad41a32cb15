-- What reading a source to its end gives.
use Rattle.std.specs.Prelude.{◌≡◌, ℕ, ◌<◌, ◌≤◌, List, length, Result, Ok, Err, ⊤}
use Rattle.resin_site.specs.Under.base.Causes.{Rose}
use Rattle.resin_trace.specs.Records.{limit}
use Rattle.resin_serve.specs.declared.auditing.Unread.{Unread}
use Rattle.resin_serve.specs.declared.auditing.Unread.TheVariants.{Fault, TooLong, Memory}

-- all that the source held, which is within the limit of a trace; or it held more
abbrev pub ReadsWhole : Result (List ℕ) Unread → List ℕ → Type 0
ReadsWhole (Ok text) all = (text ≡ all) × (length all ≤ limit)
ReadsWhole (Err Fault) all = ⊤
ReadsWhole (Err TooLong) all = limit < length all
ReadsWhole (Err Memory) all = ⊤

-- a fault comes only where the source's count rose, and else it stayed
abbrev pub HasReadCause : Result (List ℕ) Unread → ℕ → ℕ → Type 0
HasReadCause (Ok text) before now = now ≡ before
HasReadCause (Err Fault) before now = Rose before now
HasReadCause (Err TooLong) before now = now ≡ before
HasReadCause (Err Memory) before now = now ≡ before
