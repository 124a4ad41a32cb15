-- Shadow texts: the policies of a text's bytes, as they are kept beside the text (this project). There are two versions; the first writes
-- the policies of each run with the run, the second writes each set once. Both are written here; only the second is written by the runtime.
use Rattle.std.specs.Prelude.{◌≡◌, ◌⊎◌, ℕ, ◌+◌, Bool, ◌==◌, List, [], ◌∷◌, ◌++◌, length, map, codes, decimal, if◌then◌else◌}
use Rattle.std.specs.List.{flat_map, join_with_byte, position_or_len, list_any}
use Rattle.std.specs.Str.{bytes_eq}
use Rattle.resin_shadow.specs.Marks.{TextSet, same_set, Marks, MarkRun, runs_of, policies, sets}

-- a line: its words, split by single spaces, and a newline
abbrev pub line : List (List ℕ) → List ℕ
line words = join_with_byte 32 words ++ 10 ∷ []

-- the place of an item in a table, from 0
abbrev pub place : {X : Type 0} → (X → X → Bool) → X → List X → ℕ
place eq x table = position_or_len (eq x) table

-- the places of those items of a table that stand in a set, rising; `from`: the place of the first
abbrev pub places_from : ℕ → List (List ℕ) → TextSet → List ℕ
places_from from [] s = []
places_from from (t ∷ table) s = if list_any (bytes_eq t) s then from ∷ places_from (from + 1) table s else places_from (from + 1) table s

abbrev pub places : List (List ℕ) → TextSet → List ℕ
places table s = places_from 0 table s

-- the policy texts, each on a line
abbrev pub policy_lines : List (List ℕ) → List ℕ
policy_lines table = flat_map (λ t. t ++ 10 ∷ []) table

-- ---- version 1: the policies, and for each run its length and the places of its policies
abbrev pub run_line1 : List (List ℕ) → MarkRun → List ℕ
run_line1 table r = line (decimal r.0 ∷ map decimal (places table r.1))

abbrev pub written1 : Marks → List ℕ
written1 v =
    if length (policies v) == 0 then [] else
    line (codes "resin1" ∷ decimal (length (policies v)) ∷ decimal (length (runs_of v)) ∷ [])
    ++ (policy_lines (policies v) ++ flat_map (run_line1 (policies v)) (runs_of v))

-- ---- version 2: the policies, for each set the places of its policies, and for each run its length and, where it has policies, the place of its set
abbrev pub set_line : List (List ℕ) → TextSet → List ℕ
set_line table s = line (map decimal (places table s))

abbrev pub set_place : List TextSet → TextSet → List (List ℕ)
set_place table s = if length s == 0 then [] else decimal (place same_set s table) ∷ []

abbrev pub run_line2 : List TextSet → MarkRun → List ℕ
run_line2 table r = line (decimal r.0 ∷ set_place table r.1)

abbrev pub written2 : Marks → List ℕ
written2 v =
    if length (policies v) == 0 then [] else
    line (codes "resin2" ∷ decimal (length (policies v)) ∷ decimal (length (sets v)) ∷ decimal (length (runs_of v)) ∷ [])
    ++ (policy_lines (policies v) ++ (flat_map (set_line (policies v)) (sets v) ++ flat_map (run_line2 (sets v)) (runs_of v)))

-- ---- what a text spells
abbrev pub Spells1 : List ℕ → Marks → Type 0
Spells1 x v = x ≡ written1 v

abbrev pub Spells2 : List ℕ → Marks → Type 0
Spells2 x v = x ≡ written2 v

abbrev pub Spells : List ℕ → Marks → Type 0
Spells x v = Spells1 x v ⊎ Spells2 x v
