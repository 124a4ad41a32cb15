-- The numbers of keeper calls over a run (this project).
use Rattle.std.specs.Prelude.{◌≡◌, ℕ, ◌+◌, ◌-◌, ◌<◌, ◌≤◌, List, [], ◌∷◌, ◌++◌, length, take, Result, Ok, Err, ⊤}
use Rattle.resin_base.specs.declared.faults.KeepFault.{KeepFault}
use Rattle.resin_base.specs.declared.faults.KeepFault.TheVariants.{Failed, Memory}
use Rattle.resin_base.specs.declared.calls.Calls.{Calls}

-- the numbers rise, from above the first bound to at most the second
abbrev pub RiseWithin : ℕ → ℕ → List ℕ → Type 0
RiseWithin above most [] = ⊤
RiseWithin above most (number ∷ numbers) = (above < number) × (number ≤ most) × RiseWithin number most numbers

-- the numbers of failed calls rise, are at least 1 and at most the number of calls made
abbrev pub AreNumbered : Calls → Type 0
AreNumbered calls = RiseWithin 0 calls.made calls.failed

-- the call is counted, and listed where it failed; one that found no memory leaves both
abbrev pub Lists : {A : Type 0} → Calls → Result A KeepFault → Calls → Type 0
Lists old (Ok answer) new = (new.made ≡ old.made + 1) × (new.failed ≡ old.failed)
Lists old (Err Failed) new = (new.made ≡ old.made + 1) × (new.failed ≡ old.failed ++ (old.made + 1) ∷ [])
Lists old (Err Memory) new = new ≡ old

-- the number of the next call is listed, before it is made
abbrev pub IsAsked : Calls → Calls → Type 0
IsAsked old new = (new.made ≡ old.made) × (new.failed ≡ old.failed ++ (old.made + 1) ∷ [])

-- the call whose number is listed last is counted by its answer, and stays listed only where it failed
abbrev pub Settles : {A : Type 0} → Calls → Result A KeepFault → Calls → Type 0
Settles old (Ok answer) new = (new.made ≡ old.made + 1) × (new.failed ≡ take (length old.failed - 1) old.failed)
Settles old (Err Failed) new = (new.made ≡ old.made + 1) × (new.failed ≡ old.failed)
Settles old (Err Memory) new = (new.made ≡ old.made) × (new.failed ≡ take (length old.failed - 1) old.failed)

-- the numbers are in order with the next call's number, and without it
abbrev pub AreAsked : Calls → Type 0
AreAsked calls =
    (0 < length calls.failed) × RiseWithin 0 calls.made (take (length calls.failed - 1) calls.failed) × RiseWithin 0 (calls.made + 1) calls.failed
