-- Runs: lists of an end and a set, which spell the list of sets that repeats each set up to its end.
use Rattle.std.specs.Prelude.{ℕ, ◌+◌, ◌-◌, ◌<◌, ◌≤◌, ◌≡◌, ◌≢◌, List, [], ◌∷◌, ◌++◌, map, replicate, length}
use Rattle.std.specs.List.{zip}
use Rattle.resin_label.specs.Sets.{NumberSet}
use Rattle.resin_lstr.specs.declared.text.Run.{Run}
use Rattle.resin_lstr.specs.Texts.{Text, LONGEST}

-- each set repeated up to its end, from a place on
abbrev pub spell : ℕ → List Run → List NumberSet
spell from [] = []
spell from (r ∷ rs) = replicate (r.end - from) r.set ++ spell r.end rs

-- where the last run ends
abbrev pub last_end : ℕ → List Run → ℕ
last_end from [] = from
last_end from (r ∷ rs) = last_end r.end rs

-- the ends rise from above a place
abbrev pub IsRising : ℕ → List Run → Type 0
IsRising from [] = Unit {0}
IsRising from (r ∷ rs) = (from < r.end) × IsRising r.end rs

abbrev pub Differs : NumberSet → List Run → Type 0
Differs s [] = Unit {0}
Differs s (r ∷ rs) = s ≢ r.set

-- the ends rise from above a place, and neighbouring sets differ
abbrev pub IsCoalesced : ℕ → List Run → Type 0
IsCoalesced from [] = Unit {0}
IsCoalesced from (r ∷ rs) = (from < r.end) × Differs r.set rs × IsCoalesced r.end rs

-- coalesced runs for n bytes, which are no more than a text may have
pub record AreRunsOf (n : ℕ) (rs : List Run) : Type 0 where
  pub coalesced : IsCoalesced 0 rs
  pub last : last_end 0 rs ≡ n
  pub short : n ≤ LONGEST

-- the bytes, each with the set that the runs spell at its place
abbrev pub text_of : List ℕ → List Run → Text
text_of bs rs = zip bs (spell 0 rs)

-- the runs, each so much later
abbrev pub shifted : ℕ → List Run → List Run
shifted by rs = map (λ r. record { end = by + r.end; set = r.set }) rs

-- runs that spell what the runs rs spell and then what the runs qs spell
pub record AreJoined (rs qs new : List Run) : Type 0 where
  pub coalesced : IsCoalesced 0 new
  pub spelled : spell 0 new ≡ spell 0 rs ++ spell 0 qs
  pub ends : last_end 0 new ≡ last_end 0 rs + last_end 0 qs

-- n runs spell the sets, and no fewer do
pub record IsLeastCount (sets : List NumberSet) (n : ℕ) : Type 0 where
  pub reached : (rs : List Run) × IsRising 0 rs × (spell 0 rs ≡ sets) × (length rs ≡ n)
  pub least : (rs : List Run) → IsRising 0 rs → spell 0 rs ≡ sets → n ≤ length rs

-- the last run has the set s
abbrev pub EndsWith : NumberSet → List Run → Type 0
EndsWith s [] = ⊥
EndsWith s (r ∷ []) = r.set ≡ s
EndsWith s (r ∷ q ∷ rs) = EndsWith s (q ∷ rs)

-- the last of the runs rs has the set of the first of the others
abbrev pub Meet : List Run → List Run → Type 0
Meet rs [] = ⊥
Meet rs (q ∷ qs) = EndsWith q.set rs
