-- What is open at a place of a text. The innermost stands last.
use Rattle.std.specs.Prelude.{ℕ, ◌-◌, List, [], ◌∷◌, ◌++◌, length, take, Option, Some, None, slice_get}
use Rattle.std.specs.List.{fold}
use Rattle.resin_lex.specs.declared.modes.Open.{Open}
use Rattle.resin_lex.specs.declared.modes.Open.TheVariants.{Outside, Brace, Quote, Index, Property}
use Rattle.resin_lex.specs.declared.modes.Act.{Act}
use Rattle.resin_lex.specs.declared.modes.Act.TheVariants.{Stay, Enter, Leave}

-- what is open after a step
abbrev pub after : Act → List Open → List Open
after Stay os = os
after (Enter o) os = os ++ o ∷ []
after Leave os = take (length os - 1) os

-- the innermost; none is code
abbrev pub top : List Open → Option Open
top os = slice_get os (length os - 1)

abbrev pub quote_of : Option ℕ → Open → Option ℕ
quote_of found (Quote place) = Some place
quote_of found Outside = found
quote_of found Brace = found
quote_of found (Index place) = found
quote_of found (Property place) = found

-- the place of the innermost open quote
abbrev pub innermost : List Open → Option ℕ
innermost = fold quote_of None

-- The place of a fault: the quote of a text in its own parts, the place of the token elsewhere.
abbrev pub blamed : Option Open → ℕ → ℕ
blamed None at = at
blamed (Some Outside) at = at
blamed (Some Brace) at = at
blamed (Some (Quote place)) at = place
blamed (Some (Index place)) at = place
blamed (Some (Property place)) at = place
