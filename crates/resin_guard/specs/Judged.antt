-- Which bytes of a text stand outside of places, and what a guard says of it then.
use Rattle.std.specs.Prelude.{◌≡◌, ℕ, ◌<◌, ◌≤◌, Bool, true, false, not, ◌&&◌, nat_lt, nat_le, length, get_or, Option, Some, None}
use Rattle.std.specs.List.{list_any, find, range_with_len}
use Rattle.resin_label.specs.Sets.{NumberSet, empty, contains, numbers}
use Rattle.resin_lstr.specs.Texts.{Text, sets_of}
use Rattle.resin_guard.specs.Pages.{Places}
use Rattle.resin_guard.specs.declared.judge.Guard.{Guard}
use Rattle.resin_guard.specs.declared.judge.Guard.TheVariants.{Pass, Bad, Untrusted}

-- some number of the set is one of `bad`
abbrev pub meets : NumberSet → NumberSet → Bool
meets bad set = list_any (λ n. contains bad n) (numbers set)

-- whether an offset is in a range
abbrev pub in_range : ℕ → ℕ → ℕ → Bool
in_range from to at = nat_le from at && nat_lt at to

-- the offset is in one of the places
abbrev pub is_inside : Places → ℕ → Bool
is_inside places at = list_any (λ p. in_range p.0 p.1 at) places

-- the byte there carries a number of `bad`, and is in none of the places
abbrev pub is_untrusted : NumberSet → Places → Text → ℕ → Bool
is_untrusted bad places d at = meets bad (get_or (sets_of d) at empty) && not (is_inside places at)

-- the first number of a range that passes a test, or None where none does
abbrev pub IsFirst : (ℕ → Bool) → ℕ → ℕ → Option ℕ → Type 0
IsFirst test from to None = (k : ℕ) → from ≤ k → k < to → test k ≡ false
IsFirst test from to (Some at) = (from ≤ at) × (at < to) × (test at ≡ true) × ((k : ℕ) → from ≤ k → k < at → test k ≡ false)

-- `Untrusted` with the first byte that is untrusted, `Pass` where there is none
abbrev pub IsJudged : NumberSet → Places → Text → Guard → Type 0
IsJudged bad places d Pass = IsFirst (is_untrusted bad places d) 0 (length d) None
IsJudged bad places d (Untrusted at) = IsFirst (is_untrusted bad places d) 0 (length d) (Some at)
IsJudged bad places d (Bad at) = ⊥

-- ---- the same as functions

-- the offset of the first byte that is untrusted
abbrev pub first_untrusted : NumberSet → Places → Text → Option ℕ
first_untrusted bad places d = find (is_untrusted bad places d) (range_with_len 0 (length d))

abbrev pub verdict_at : Option ℕ → Guard
verdict_at None = Pass
verdict_at (Some at) = Untrusted at

-- what a guard says of a text whose harmless places are these
abbrev pub judged : NumberSet → Places → Text → Guard
judged bad places d = verdict_at (first_untrusted bad places d)
