-- Which calls of a fake object fail, and how it counts them (this project).
use Rattle.std.specs.Prelude.{◌≡◌, ℕ, zero, suc, ◌+◌, min, nat_lt, Bool, true, false, ◌&&◌}
use Rattle.std.specs.Prelude.{List, [], ◌∷◌, ◌++◌, Option, Some, None, Result, Ok, Err, if◌then◌else◌}
use Rattle.resin_base.specs.Causes.{last_count, is_listed}
use Rattle.resin_base.specs.declared.faults.Failed.{Failed as Fault}
use Rattle.resin_base.specs.declared.faults.KeepFault.{KeepFault}
use Rattle.resin_base.specs.declared.faults.KeepFault.TheVariants.{Failed, Memory}
use Rattle.resin_memory.specs.declared.tally.Tally.{Tally}

-- the call after the first `made` is listed; at the last value of the count no call fails
abbrev pub is_failing : List ℕ → ℕ → Bool
is_failing fail made = nat_lt made last_count && is_listed fail (made + 1)

-- the next call fails
abbrev pub fails_next : Tally → Bool
fails_next tally = is_failing tally.fail tally.made

-- a count after one more
abbrev pub next_count : ℕ → ℕ
next_count n = min (n + 1) last_count

-- after a call that didn't fail
abbrev pub counted : Tally → Tally
counted tally = record { fail = tally.fail; made = next_count tally.made; faults = tally.faults }

-- after a call that failed
abbrev pub counted_fault : Tally → Tally
counted_fault tally = record { fail = tally.fail; made = next_count tally.made; faults = next_count tally.faults }

-- a call of a sink or a keeper fails exactly where it is listed, and is counted unless it found no memory
abbrev pub Plays : {A : Type 0} → Tally → Result A KeepFault → Tally → Type 0
Plays old (Ok answer) new = (fails_next old ≡ false) × (new ≡ counted old)
Plays old (Err Failed) new = (fails_next old ≡ true) × (new ≡ counted_fault old)
Plays old (Err Memory) new = (fails_next old ≡ false) × (new ≡ old)

-- the same of a call of a source
abbrev pub PlaysTake : {A : Type 0} → Tally → Result A Fault → Tally → Type 0
PlaysTake old (Ok answer) new = (fails_next old ≡ false) × (new ≡ counted old)
PlaysTake old (Err fault) new = (fails_next old ≡ true) × (new ≡ counted_fault old)

-- which of the first calls fail
unfoldable pub outcomes : List ℕ → ℕ → List Bool
outcomes fail zero = []
outcomes fail (suc n) = outcomes fail n ++ is_failing fail n ∷ []

-- the answers of the calls so far, told while their count is below its last value
unfoldable pub told_answers : Tally → Option (List Bool)
told_answers tally = if nat_lt tally.made last_count then Some (outcomes tally.fail tally.made) else None
