-- Each value in an array is smaller than the array.
use Rattle.std.specs.Prelude.{◌≤◌, ◌+◌, max, List, [], ◌∷◌}
use Rattle.std.proofs.Common.{arith}
use denote.Param.Weighed.{most}
use Rattle.resin_value.specs.declared.value.Entry.{Entry}
use Rattle.resin_value.specs.declared.value.Value.{Value}
use Rattle.resin_value.specs.declared.value.Value.TheVariants.{Arr}
use Rattle.resin_value.specs.declared.value.Arr.TheDeep.{deep-Value, deep-Entry}
use Rattle.resin_value.specs.Arrays.{tree_size, entries_size}
use Rattle.resin_value.specs.Seen.{tree_of, pairs_of}

pub falls_alone : (v : Value) → deep-Value v ≤ tree_size (tree_of v) + 1
falls_alone (Arr a) = omega arith
falls_alone v = omega arith

pub falls : (es : List Entry) → max (most deep-Entry es) 0 ≤ entries_size (pairs_of es)
falls [] = omega arith
falls (e ∷ es) = omega (arith, falls_alone e.value, falls es)
