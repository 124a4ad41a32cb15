-- Which of the headers that were put stand, and what is kept of them all until the next sweep.
use Rattle.std.specs.Prelude.{◌≡◌, ℕ, ◌<◌, ◌≤◌, Bool, true, nat_le, List, [], ◌∷◌, map, filter, Option, None, Some, if◌then◌else◌, ⊤}
use Rattle.std.specs.Str.{str_to_ascii_lowercase}
use Rattle.std.specs.FinMap.{get, insert}
use Rattle.resin_value.specs.Under.bytes.declared.header.Header.{Header}
use Rattle.resin_scope.specs.Names.{Named}
use Rattle.resin_scope.specs.declared.headers.Slot.{Slot}

-- a number is one from which on the headers of a name stand, or a later one
abbrev pub is_from : ℕ → Option ℕ → Bool
is_from number None = true
is_from number (Some from) = nat_le from number

-- the header of a slot was not replaced
abbrev pub stands : Named ℕ → Slot → Bool
stands since s = is_from s.number (get since s.key.items)

-- the headers that stand, in order
abbrev pub standing : Named ℕ → List Slot → List Header
standing since slots = map (λ s. s.header) (filter (stands since) slots)

-- from a slot on the headers of its name stand, where it replaces those before it
abbrev pub since_then : Slot → Bool → Named ℕ → Named ℕ
since_then s replace since = if replace then insert since s.key.items s.number else since

-- each slot has the name of its header in lower case, and a number below the next
abbrev pub AreSlots : ℕ → List Slot → Type 0
AreSlots next [] = ⊤
AreSlots next (s ∷ ss) = (s.key.items ≡ str_to_ascii_lowercase s.header.name) × (s.number < next) × AreSlots next ss

-- so has each slot, and no name stands from a number on that is above the next
pub record AreCounted (since : Named ℕ) (next : ℕ) (slots : List Slot) : Type 0 where
  pub are_slots : AreSlots next slots
  pub none_above : (name : List ℕ) (from : ℕ) → get since name ≡ Some from → from ≤ next
