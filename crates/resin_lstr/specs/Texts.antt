-- Labelled texts: lists of pairs of a byte and the set of policy numbers that it carries.
use Rattle.std.specs.Prelude.{ℕ, ◌+◌, ◌-◌, ◌≤◌, Bool, not, nat_eq, List, [], ◌∷◌, ◌++◌, map, take, drop, slice_index, Option, option_map, position}
use Rattle.std.specs.List.{filter, flat_map, prefix_len}
use Rattle.std.specs.Coded.{Coded, coded×, coded_ℕ, coded_list}
-- the length of the longest text
pub use Rattle.resin_lstr.specs.declared.limits.TheConstants.{LONGEST}
use Rattle.resin_label.specs.Sets.{NumberSet, set_code, contains, insert, remove, numbers, same}

abbrev pub Text : Type 0
Text = List (ℕ × NumberSet)

abbrev pub text_code : Coded Text
text_code = coded_list (coded× coded_ℕ set_code)

abbrev pub bytes_of : Text → List ℕ
bytes_of t = map (λ p. p.0) t

-- the set of each byte
abbrev pub sets_of : Text → List NumberSet
sets_of t = map (λ p. p.1) t

-- each byte with the set s
abbrev pub carrying : NumberSet → List ℕ → Text
carrying s bs = map (λ b. (b, s)) bs

-- n added to every set
abbrev pub marked : ℕ → Text → Text
marked n t = map (λ p. (p.0, insert p.1 n)) t

-- n taken from every set
abbrev pub unmarked : ℕ → Text → Text
unmarked n t = map (λ p. (p.0, remove p.1 n)) t

-- each byte by a table of bytes, with its set
abbrev pub mapped : List ℕ → Text → Text
mapped table t = map (λ p. (slice_index table p.0, p.1)) t

-- the text from a place on, with w in place of each part; a part is a start and an end, and its end is not in it
abbrev pub with_parts : ℕ → List (ℕ × ℕ) → Text → Text → Text
with_parts from [] w t = drop from t
with_parts from (p ∷ ps) w t = take (p.0 - from) (drop from t) ++ (w ++ with_parts p.1 ps w t)

-- the parts follow one another from a place on, and end by the place n
abbrev pub ArePartsFrom : ℕ → List (ℕ × ℕ) → ℕ → Type 0
ArePartsFrom from [] n = from ≤ n
ArePartsFrom from (p ∷ ps) n = (from ≤ p.0) × (p.0 ≤ p.1) × ArePartsFrom p.1 ps n

-- the items without those that stood before
abbrev pub distinct : {X : Type 0} → (X → X → Bool) → List X → List X
distinct eq [] = []
distinct eq (x ∷ xs) = x ∷ filter (λ y. not (eq x y)) (distinct eq xs)

-- the sets of a text, in order of first occurrence
abbrev pub distinct_sets : Text → List NumberSet
distinct_sets t = distinct same (sets_of t)

-- the policies of a text, by the first byte that carries them, then by number
abbrev pub policies_in_order : Text → List ℕ
policies_in_order t = distinct nat_eq (flat_map numbers (sets_of t))

-- the first maximal range of items that pass a test: its start and its end
abbrev pub first_range : {X : Type 0} → (X → Bool) → List X → Option (ℕ × ℕ)
first_range p xs = option_map (λ start. (start, start + prefix_len p (drop start xs))) (position p xs)

-- the first maximal range of bytes that carry n
abbrev pub first_run : ℕ → Text → Option (ℕ × ℕ)
first_run n t = first_range (λ s. contains s n) (sets_of t)
