-- How the names of form values and of cookies are read (PHP manual, "Variables From External Sources"; of nested brackets this project takes one
-- pair).
use Rattle.std.specs.Prelude.{◌≡◌, ℕ, ◌<◌, Bool, false, ◌&&◌, ◌||◌, ◌==◌, nat_lt, nat_eq}
use Rattle.std.specs.Prelude.{List, [], ◌∷◌, ◌++◌, length, drop, map, codes, if◌then◌else◌, Option, Some, None, ◌↔◌}
use Rattle.std.specs.List.{before_first, position_or_len, list_any}
use Rattle.std.specs.Str.{str_to_ascii_lowercase}
use Rattle.std.specs.Cmp.Lexicographic.{pointwise}
use Rattle.resin_value.specs.declared.key.Key.{Key}
use Rattle.resin_value.specs.Keys.{text_key}

-- two texts are the same bytes
abbrev pub same_bytes : List ℕ → List ℕ → Bool
same_bytes a b = pointwise nat_eq a b

-- the name of a header field is this one, whatever the case of ASCII letters (RFC 9110)
abbrev pub is_named : List ℕ → List ℕ → Bool
is_named wanted name = same_bytes (str_to_ascii_lowercase name) (str_to_ascii_lowercase wanted)

-- `.` and space can't stand in the name of a variable, and become `_`
abbrev pub tidied_byte : ℕ → ℕ
tidied_byte b = if b == 46 || b == 32 then 95 else b

abbrev pub tidied : List ℕ → List ℕ
tidied name = map tidied_byte name

-- the key of a name
abbrev pub name_key : List ℕ → Key
name_key name = text_key (tidied name)

-- `[` or `]`
abbrev pub is_bracket : ℕ → Bool
is_bracket b = b == 91 || b == 93

-- what stands before the first bracket, or all
abbrev pub before_bracket : List ℕ → List ℕ
before_bracket name = before_first is_bracket name

-- the first bracket and what follows
abbrev pub from_bracket : List ℕ → List ℕ
from_bracket name = drop (position_or_len is_bracket name) name

-- the parts b and k, where b is there and what follows it is `[k]`
abbrev pub parts_of : List ℕ → List ℕ → Option (List ℕ × List ℕ)
parts_of b [] = None
parts_of b (c ∷ rest) = if nat_lt 0 (length b) && c == 91 && same_bytes (from_bracket rest) (codes "]") then Some (b, before_bracket rest) else None

-- b and k of a name `b[k]`, none of every other name
abbrev pub entry_of : List ℕ → Option (List ℕ × List ℕ)
entry_of name = parts_of (before_bracket name) (from_bracket name)

-- the name is `b[k]`, where b isn't empty and neither holds a bracket
pub record IsEntryName (name b k : List ℕ) : Type 0 where
  pub spelled : name ≡ b ++ (91 ∷ (k ++ (93 ∷ [])))
  pub there : 0 < length b
  pub outer : list_any is_bracket b ≡ false
  pub inner : list_any is_bracket k ≡ false

-- `entry_of` tells exactly the names `b[k]`
abbrev pub EntryLaw : Type 0
EntryLaw = (name b k : List ℕ) → (entry_of name ≡ Some (b, k)) ↔ IsEntryName name b k
