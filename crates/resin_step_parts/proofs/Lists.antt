-- Lists of values that are made one value after the other.
use Rattle.std.proofs.Common.{◌≡◌, List, ◌∷◌, map, None, Result, Ok, Err, sym, ap, ◌∙◌}
use Rattle.resin_meaning_forms.specs.Under.scalar.declared.faults.CallStop.{CallStop}
use Rattle.resin_meaning_forms.specs.Under.scalar.declared.faults.CallStop.TheVariants.{Throw, Fault, Memory}
use Rattle.resin_meaning_forms.specs.Under.value.Trees.{Tree}
use Rattle.resin_meaning_forms.specs.Under.value.Arrays.{Array}
use Rattle.resin_meaning_forms.specs.Under.target.Reads.{GivesOrNoMemory}
use Rattle.resin_meaning_forms.specs.Under.array_fn.Filled.{and_then, added_at, filled_on, in_order}

-- the values of a list that are still to be added
module _ {X : Type 0} (f : X → Tree) (a : Array) (whole : Result Array CallStop) (left rest : List X) (x : X) (t : Tree)
    (so_far : filled_on a (in_order (map f left)) ≡ whole) (is : left ≡ x ∷ rest) (same : t ≡ f x) where
  next_is : and_then (added_at None t a) (λ b. filled_on b (in_order (map f rest))) ≡ whole
  next_is =
      (λ i. and_then (added_at None (same i) a) (λ b. filled_on b (in_order (map f rest))))
      ∙ (sym (ap (λ ds. filled_on a (in_order (map f ds))) is) ∙ so_far)

  pub next_goes : (b : Array) → added_at None t a ≡ Ok b → filled_on b (in_order (map f rest)) ≡ whole
  next_goes b h = sym (ap (λ r. and_then r (λ c. filled_on c (in_order (map f rest)))) h) ∙ next_is

  pub next_stops : (stop : CallStop) → GivesOrNoMemory (Err stop) (added_at None t a) → GivesOrNoMemory (Err stop) whole
  next_stops (Throw kind) h = sym next_is ∙ ap (λ r. and_then r (λ c. filled_on c (in_order (map f rest)))) h
  next_stops (Fault fault) h = sym next_is ∙ ap (λ r. and_then r (λ c. filled_on c (in_order (map f rest)))) h
  next_stops Memory h = tt
