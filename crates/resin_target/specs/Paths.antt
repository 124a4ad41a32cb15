-- Targets: a variable and the postfixes behind it, whose index expressions are evaluated (PHP manual, "Arrays", "Properties").
use Rattle.std.specs.Prelude.{ℕ, List, [], ◌∷◌, ◌++◌}
use Rattle.resin_target.specs.declared.path.Index.{Index}
use Rattle.resin_target.specs.declared.path.Hop.{Hop}
use Rattle.resin_target.specs.declared.path.Path.{Path}

-- a variable alone
abbrev pub no_postfix : Path
no_postfix = record { hops = []; indices = [] }

-- one more index
abbrev pub with_index : Index → Path → Path
with_index i p = record { hops = p.hops; indices = p.indices ++ i ∷ [] }

-- one more property: the indices before it lead to its object
abbrev pub with_property : List ℕ → Path → Path
with_property name p = record { hops = p.hops ++ record { indices = p.indices; property = name } ∷ []; indices = [] }
