-- Unions of many sets.
use Rattle.std.specs.Prelude.{List, [], ◌∷◌}
use Rattle.resin_eval_nested.specs.Under.label.Sets.{NumberSet, empty, union}

-- the members of any of the sets
abbrev pub union_of : List NumberSet → NumberSet
union_of [] = empty
union_of (s ∷ ss) = union s (union_of ss)
