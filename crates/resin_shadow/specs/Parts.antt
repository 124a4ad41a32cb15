-- The sets of a text's bytes with the sets apart: each run tells how many bytes it has, and which of the sets they carry.
use Rattle.std.specs.Prelude.{ℕ, List, [], replicate, slice_get}
use Rattle.std.specs.List.{flat_map}
use Rattle.std.specs.Option.{option_map_or, option_to_list}

-- a run: how many bytes it has, and the place of their set among the sets
abbrev pub PlacedRun : Type 0
PlacedRun = ℕ × ℕ

-- the set of each byte of a run; a run whose place no set has is empty
abbrev pub run_spelled : {X : Type 0} → List X → PlacedRun → List X
run_spelled sets r = option_map_or (replicate r.0) (slice_get sets r.1) []

-- the set of each byte of runs
abbrev pub spelled_by : {X : Type 0} → List X → List PlacedRun → List X
spelled_by sets runs = flat_map (run_spelled sets) runs

-- the texts that have these numbers
abbrev pub texts_at : List (List ℕ) → List ℕ → List (List ℕ)
texts_at texts ns = flat_map (λ n. option_to_list (slice_get texts n)) ns
