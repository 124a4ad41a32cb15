-- How a text is read from the left, by the function that finds what stands first.
use Rattle.std.specs.Prelude.{◌≡◌, ◌≢◌, ℕ, ◌+◌, List, [], ◌∷◌, take, drop, Option, Some}
use Rattle.resin_lex.specs.declared.modes.Open.{Open}
use Rattle.resin_lex.specs.declared.modes.Act.{Act}
use Rattle.resin_lex.specs.declared.modes.Shape.{Shape}
use Rattle.resin_lex.specs.declared.modes.Step.TheVariants.{Token, Skip, Fault}
use Rattle.resin_lex.specs.declared.token.Token as t
use Rattle.resin_lex.specs.First.{first}
use Rattle.resin_lex.specs.Kinds.{kind_of}
use Rattle.resin_lex.specs.Modes.{after, top, innermost, blamed}

-- the token of this shape from a place to another, where these are its bytes
abbrev pub token_of : Shape → ℕ → ℕ → List ℕ → t.Token
token_of shape from to w = record { kind = kind_of shape w; from = from; to = to }

-- `Reads os at xs tokens fault`: with these open, the rest xs of the text, from the place at on, is read as these
-- tokens, up to its end or the first fault.
pub data Reads : List Open → ℕ → List ℕ → List t.Token → Option ℕ → Type 0 where
  ends : {os : List Open} {at : ℕ} → Reads os at [] [] (innermost os)
  token : {os : List Open} {at n : ℕ} {shape : Shape} {act : Act} {xs : List ℕ} {tokens : List t.Token} {fault : Option ℕ} → xs ≢ []
      → first (top os) at xs ≡ Token shape n act → Reads (after act os) (at + n) (drop n xs) tokens fault
      → Reads os at xs (token_of shape at (at + n) (take n xs) ∷ tokens) fault
  skip : {os : List Open} {at n : ℕ} {act : Act} {xs : List ℕ} {tokens : List t.Token} {fault : Option ℕ} → xs ≢ []
      → first (top os) at xs ≡ Skip n act → Reads (after act os) (at + n) (drop n xs) tokens fault → Reads os at xs tokens fault
  fails : {os : List Open} {at : ℕ} {xs : List ℕ} → xs ≢ [] → first (top os) at xs ≡ Fault → Reads os at xs [] (Some (blamed (top os) at))
