-- Which policies the bytes of a text carry: for each byte a set of policy texts.
use Rattle.std.specs.Prelude.{ℕ, ◌+◌, ◌<◌, ◌^◌, Bool, not, ◌==◌, List, [], ◌∷◌, length, replicate, if◌then◌else◌}
use Rattle.std.specs.List.{filter, flat_map}
use Rattle.std.specs.List.Sorted.{IsStrictlySortedBy}
use Rattle.std.specs.Ordering.{nat_cmp}
use Rattle.std.specs.Cmp.Lexicographic.{pointwise, slice_cmp}
use Rattle.std.specs.Str.{bytes_eq}
use Rattle.resin_lstr.specs.Texts.{distinct}
use Rattle.resin_frozen.specs.Policies.{IsPolicyText}

-- a set of texts: each once, ordered by its bytes
abbrev pub TextSet : Type 0
TextSet = List (List ℕ)

abbrev pub IsTextSet : TextSet → Type 0
IsTextSet s = IsStrictlySortedBy (slice_cmp nat_cmp) s

abbrev pub same_set : TextSet → TextSet → Bool
same_set = pointwise bytes_eq

-- a set for each byte
abbrev pub Marks : Type 0
Marks = List TextSet

-- each item of a list is as it has to be
abbrev pub Each : {X : Type 0} → (X → Type 0) → List X → Type 0
Each P [] = Unit {0}
Each P (x ∷ xs) = P x × Each P xs

-- sets of policy texts, of as many bytes as a number of 64 bits counts
pub record AreMarks (v : Marks) : Type 0 where
  pub sets : Each IsTextSet v
  pub policies : Each (Each IsPolicyText) v
  pub count : length v < 2 ^ 64

-- how many neighbouring bytes have the same set, and that set
abbrev pub MarkRun : Type 0
MarkRun = ℕ × TextSet

-- one more byte with this set in front: it joins the run behind it where the sets are the same
abbrev pub with_byte : TextSet → List MarkRun → List MarkRun
with_byte s [] = (1, s) ∷ []
with_byte s (r ∷ rs) = if same_set s r.1 then (r.0 + 1, r.1) ∷ rs else (1, s) ∷ r ∷ rs

-- the maximal runs, in order
abbrev pub runs_of : Marks → List MarkRun
runs_of [] = []
runs_of (s ∷ v) = with_byte s (runs_of v)

-- the set of each byte of runs
abbrev pub spelled : List MarkRun → Marks
spelled rs = flat_map (λ r. replicate r.0 r.1) rs

-- the policy texts, ordered by the first byte that carries them, and those of one byte by their bytes
abbrev pub policies : Marks → List (List ℕ)
policies v = distinct bytes_eq (flat_map (λ s. s) v)

-- the sets that have a policy, ordered by the first byte that has the set
abbrev pub sets : Marks → List TextSet
sets v = distinct same_set (filter (λ s. not (length s == 0)) v)
