-- What is written of runs by the numbers of their sets and texts.
use Rattle.std.specs.Prelude.{ℕ, ◌==◌, List, [], ◌∷◌, ◌++◌, length, map, nat_eq, slice_get, decimal, if◌then◌else◌}
use Rattle.std.specs.List.{fold, flat_map}
use Rattle.std.specs.Option.{option_map_or}
use Rattle.std.specs.BTreeSet as ordered
use Rattle.std.specs.Ordering.{nat_cmp}
use Rattle.indexmap.specs.IndexSet as indexed
use Rattle.resin_shadow.specs.declared.table.FrozenRun.{FrozenRun}
use Rattle.resin_shadow.specs.Shadows.{line, place}

-- what has this number, or nothing
abbrev pub numbered : List (List ℕ) → ℕ → List ℕ
numbered xs n = option_map_or (λ x. x) (slice_get xs n) []

-- one more number, unless it is there
abbrev pub with_number : List ℕ → ℕ → List ℕ
with_number = indexed.insert_key nat_eq

-- one more run's set, where it has a policy
abbrev pub with_set : List ℕ → FrozenRun → List ℕ
with_set met r = if length r.set == 0 then met else with_number met r.kind

-- the sets that runs have, in order of first occurrence, without the empty one
abbrev pub sets_met : List FrozenRun → List ℕ
sets_met rs = fold with_set [] rs

-- the texts of sets, in order of first occurrence
abbrev pub texts_met : List (List ℕ) → List ℕ → List ℕ
texts_met sets ks = fold with_number [] (flat_map (numbered sets) ks)

-- the places of numbers among those that were met, rising
abbrev pub rising : List ℕ → List ℕ → List ℕ
rising met ns = fold (ordered.insert_key nat_cmp) [] (map (λ n. place nat_eq n met) ns)

abbrev pub policies_text : List (List ℕ) → List ℕ → List ℕ
policies_text texts met = flat_map (λ n. numbered texts n ++ 10 ∷ []) met

abbrev pub set_text : List (List ℕ) → List ℕ → ℕ → List ℕ
set_text sets met k = line (map decimal (rising met (numbered sets k)))

abbrev pub run_text1 : List (List ℕ) → List ℕ → FrozenRun → List ℕ
run_text1 sets met r = line (decimal r.len ∷ map decimal (rising met (numbered sets r.kind)))

abbrev pub run_text2 : List ℕ → FrozenRun → List ℕ
run_text2 kinds r = line (decimal r.len ∷ (if length r.set == 0 then [] else decimal (place nat_eq r.kind kinds) ∷ []))
