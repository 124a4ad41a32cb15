-- Counts of faults and of stalls, and the answers of a keeper's calls (this project).
use Rattle.std.specs.Prelude.{◌≡◌, ◌≢◌, ℕ, ◌+◌, ◌-◌, ◌^◌, ◌≤◌, ◌==◌, min, Bool, true, false}
use Rattle.std.specs.Prelude.{List, [], ◌∷◌, ◌++◌, Option, Some, None, Result, Ok, Err, ⊤}
use Rattle.std.specs.List.{list_any}
use Rattle.resin_base.specs.declared.faults.Failed.{Failed as Fault}
use Rattle.resin_base.specs.declared.faults.KeepFault.{KeepFault}
use Rattle.resin_base.specs.declared.faults.KeepFault.TheVariants.{Failed, Memory}

-- the last value of a count, at which it stays
abbrev pub last_count : ℕ
last_count = 2 ^ 64 - 1

-- the count is larger than before, or stands at its last value
abbrev pub Rose : ℕ → ℕ → Type 0
Rose before now = min (before + 1) last_count ≤ now

-- the count rose, and never falls
abbrev pub Counted : ℕ → ℕ → Type 0
Counted before now = (before ≤ now) × Rose before now

-- a keeper's or a sink's call has its cause: it failed only where the count of faults rose, and another answer left the count
abbrev pub HasCause : {A : Type 0} → ℕ → ℕ → Result A KeepFault → Type 0
HasCause before now (Ok answer) = now ≡ before
HasCause before now (Err Failed) = Counted before now
HasCause before now (Err Memory) = now ≡ before

-- the same of a source's call
abbrev pub TakeHasCause : {A : Type 0} → ℕ → ℕ → Result A Fault → Type 0
TakeHasCause before now (Ok answer) = now ≡ before
TakeHasCause before now (Err fault) = Counted before now

-- the count of stalls rose where the call took nothing, and else stayed
abbrev pub Stalls : ℕ → ℕ → Result ℕ KeepFault → Type 0
Stalls before now (Ok taken) = (taken ≡ 0 → Counted before now) × (taken ≢ 0 → now ≡ before)
Stalls before now (Err fault) = now ≡ before

-- what a call adds to the told answers: whether it failed, and nothing where it found no memory
abbrev pub outcome : {A : Type 0} → Result A KeepFault → List Bool
outcome (Ok answer) = false ∷ []
outcome (Err Failed) = true ∷ []
outcome (Err Memory) = []

-- told answers grow by what a call adds; a keeper may stop telling, and then tells no more
abbrev pub TellsMore : Option (List Bool) → Option (List Bool) → List Bool → Type 0
TellsMore old None more = ⊤
TellsMore None (Some told) more = ⊥
TellsMore (Some before) (Some told) more = told ≡ before ++ more

-- the number is listed
abbrev pub is_listed : List ℕ → ℕ → Bool
is_listed numbers number = list_any (λ x. x == number) numbers
