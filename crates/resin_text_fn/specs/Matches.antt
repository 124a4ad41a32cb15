-- Where a text stands in another. Texts are compared by their bytes; sets play no part.
use Rattle.std.specs.Prelude.{ℕ, ◌≡◌, ◌≤◌, ◌+◌, ◌-◌, ◌==◌, if◌then◌else◌, List, [], ◌∷◌, map, length, take, drop, Option}
use Rattle.memchr.specs.Find.{OccursAt, Nowhere, matches, rmatches, first_of}
use Rattle.resin_lstr.specs.Texts.{Text, bytes_of, with_parts}

-- the first place at which a needle stands; the empty needle stands at every place, the end too
abbrev pub first_place : List ℕ → List ℕ → Option ℕ
first_place haystack needle = first_of (matches haystack needle 0)

-- the last place at which a needle stands
abbrev pub last_place : List ℕ → List ℕ → Option ℕ
last_place haystack needle = first_of (rmatches haystack needle (length haystack))

-- the parts of a haystack that match a nonempty needle, from the left, none overlapping the one before it: each as its start and its end
abbrev pub matched_parts : List ℕ → List ℕ → List (ℕ × ℕ)
matched_parts haystack needle = map (λ start. (start, start + length needle)) (matches haystack needle 0)

-- what that means: each part is where the needle stands first from the end of the one before on, and behind the last it stands nowhere
abbrev pub AreLeftmost : ℕ → List (ℕ × ℕ) → List ℕ → List ℕ → Type 0
AreLeftmost from [] haystack needle = Nowhere (OccursAt haystack needle) from (length haystack + 1)
AreLeftmost from (p ∷ ps) haystack needle =
    OccursAt haystack needle p.0 × Nowhere (OccursAt haystack needle) from p.0 × (from ≤ p.0) × (p.1 ≡ p.0 + length needle)
    × AreLeftmost p.1 ps haystack needle

-- what stands round the parts: the text from a place on up to the first part, between neighbours, and behind the last
abbrev pub pieces_round : ℕ → List (ℕ × ℕ) → Text → List Text
pieces_round from [] t = drop from t ∷ []
pieces_round from (p ∷ ps) t = take (p.0 - from) (drop from t) ∷ pieces_round p.1 ps t

-- the text with `with` and its sets in the place of each match; the bytes that are put in are not searched, and an empty search changes nothing
abbrev pub replaced : Text → Text → Text → Text
replaced search with t =
    if length search == 0 then t else with_parts 0 (matched_parts (bytes_of t) (bytes_of search)) with t
