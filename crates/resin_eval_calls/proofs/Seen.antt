-- Values as trees, and back; ends that are seen otherwise.
use Rattle.std.proofs.Common.{◌≡◌, ℕ, List, [], ◌∷◌, map, Result, Ok, Err, refl, sym, ap}
use Rattle.resin_eval_channels.specs.Under.value.declared.value.Value.{Value}
use Rattle.resin_eval_channels.specs.Under.value.Trees.{Tree}
use Rattle.resin_eval_channels.specs.Under.value.Seen.{tree_of, trees_of}
use Rattle.resin_eval_channels.specs.Under.value.Values.{value_of, value_of-tree_of}
use Rattle.resin_eval_channels.specs.Under.machine.declared.stop.Stop.{Stop}
use Rattle.resin_eval_channels.specs.Under.machine.declared.stop.Stop.TheVariants.{Thrown, Exit, Fault, Keeper, Memory}
use Rattle.resin_eval_channels.specs.Under.meaning.Programs.{caught}
use Rattle.resin_eval_channels.specs.Under.meaning_forms.Runs.{on_ok}
use Rattle.resin_eval_calls.specs.Ends.{seen_end}

pub values_back : (vs : List Value) → map value_of (map tree_of vs) ≡ vs
values_back [] = refl
values_back (v ∷ vs) = λ i. value_of-tree_of v i ∷ values_back vs i

-- an exception as a value, of arguments
pub caught_seen : (r : Result (List Value) Stop) (end : Result (List Value) ℕ) → Ok end ≡ caught r → Ok (seen_end end) ≡ caught (on_ok trees_of r)
caught_seen (Ok vs) end e = let f : end ≡ Ok vs = cc in ap (λ (x : Result (List Value) ℕ). Ok (seen_end x)) f
caught_seen (Err (Thrown o)) end e = let f : end ≡ Err o = cc in ap (λ (x : Result (List Value) ℕ). Ok (seen_end x)) f
caught_seen (Err Exit) end e = absurd (cc)
caught_seen (Err (Fault f line)) end e = absurd (cc)
caught_seen (Err Keeper) end e = absurd (cc)
caught_seen (Err Memory) end e = absurd (cc)

pub stopped_seen : (r : Result (List Value) Stop) (s : Stop) → Err s ≡ caught r → Err s ≡ caught (on_ok trees_of r)
stopped_seen (Ok vs) s e = absurd (cc)
stopped_seen (Err (Thrown o)) s e = absurd (cc)
stopped_seen (Err Exit) s e = let g : s ≡ Exit = cc in ap (λ (x : Stop). Err x) g
stopped_seen (Err (Fault f line)) s e = let g : s ≡ Fault f line = cc in ap (λ (x : Stop). Err x) g
stopped_seen (Err Keeper) s e = let g : s ≡ Keeper = cc in ap (λ (x : Stop). Err x) g
stopped_seen (Err Memory) s e = let g : s ≡ Memory = cc in ap (λ (x : Stop). Err x) g
