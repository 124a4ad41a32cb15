-- The numbers before the index are written.
use Rattle.std.proofs.Common.{◌≡◌, ◌∷◌, ◌++◌, take, decimal}
use Rattle.std.specs.List.{flat_map}
use Rattle.resin_shadow.proofs.encoding.push_words.Given as goal

abbrev pub invariant-loop-number : goal.invariant-loop-number
invariant-loop-number l = l.text ≡ l.initial.text ++ flat_map (λ n. 32 ∷ decimal n) (take l.number-index l.numbers)
