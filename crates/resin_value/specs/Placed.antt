-- Where the keys of an array stand in its order.
use Rattle.std.specs.Prelude.{◌≡◌, ◌+◌, ◌-◌, ltb, ℕ, pos, negsuc, List, Option, None, Some, slice_get, if◌then◌else◌}
use Rattle.std.specs.BTreeMap.{BTreeMap}
use Rattle.resin_value.specs.declared.key.Key.{Key}
use Rattle.resin_value.specs.declared.key.Key.TheVariants.{Int, Text}
use Rattle.resin_value.specs.declared.places.Numbers.{Numbers}
use Rattle.resin_value.specs.declared.places.Numbers.TheVariants.{Counting, Sorted}
use Rattle.resin_value.specs.declared.places.Places.{Places}
use Rattle.resin_value.specs.Changes.{lookup}

-- the place of a key among so many that count from a first number
abbrev pub counted : Key → ℕ → ℕ → Option ℕ
counted (Int (pos n)) first len = if ltb n first then None else if ltb (n - first) len then Some (n - first) else None
counted (Int (negsuc n)) first len = None
counted (Text b) first len = None

-- a number, once i is free and those above it are lower by one
abbrev pub closed_up : ℕ → ℕ → ℕ
closed_up i n = if ltb i n then n - 1 else n

-- the key at place i has the number first + i, and no other key has a number
pub record IsNumbered (first : ℕ) (m : BTreeMap Key ℕ) (ks : List Key) : Type 0 where
  pub has : (i : ℕ) (k : Key) → slice_get ks i ≡ Some k → lookup k m.entries ≡ Some (first + i)
  pub only : (n : ℕ) (k : Key) → lookup k m.entries ≡ Some n → (i : ℕ) × ((n ≡ first + i) × (slice_get ks i ≡ Some k))

-- the same of keys that are their own numbers, or whose numbers are kept
abbrev pub AreNumbered : ℕ → Numbers → List Key → Type 0
AreNumbered first Counting ks = (i : ℕ) (k : Key) → slice_get ks i ≡ Some k → k ≡ Int (pos (first + i))
AreNumbered first (Sorted m) ks = IsNumbered first m ks

-- keys stand where their numbers say
abbrev pub IsPlaced : Places → List Key → Type 0
IsPlaced p ks = AreNumbered p.first p.numbers ks
