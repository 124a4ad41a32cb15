-- How a text is read, by the lexical grammar.
use Rattle.std.specs.Prelude.{◌≡◌, ◌≢◌, ◌<◌, ◌≤◌, ℕ, ◌+◌, nat_lt, List, [], ◌∷◌, ◌++◌, length, take, Option, Some, None, Result, Ok, Err}
use Rattle.std.specs.List.{prefix_len}
use Rattle.resin_lex.specs.declared.modes.Open.{Open}
use Rattle.resin_lex.specs.declared.modes.Open.TheVariants.{Outside}
use Rattle.resin_lex.specs.declared.modes.Act.{Act}
use Rattle.resin_lex.specs.declared.token.TokenKind.{TokenKind}
use Rattle.resin_lex.specs.declared.token.Token as t
use Rattle.resin_lex.specs.declared.token.TokenList.{TokenList}
use Rattle.resin_lex.specs.declared.token.ParseFault.{ParseFault}
use Rattle.resin_lex.specs.declared.token.ParseFault.TheVariants as fault
use Rattle.resin_lex.specs.Grammar.{Stands}
use Rattle.resin_lex.specs.Modes.{after, top, innermost, blamed}

-- Nothing of the grammar stands at the front.
abbrev pub NothingStands : Option Open → ℕ → List ℕ → Type 0
NothingStands o at xs = (what : Option TokenKind) (act : Act) (w rest : List ℕ) → xs ≡ w ++ rest → Stands o at what act w rest → ⊥

-- `Lexes os at xs tokens fault`: with these open, the rest xs of the text, from the place at on, has these tokens, up to
-- its end or its first fault. A text that ends inside quotes has its fault at the innermost open quote.
pub data Lexes : List Open → ℕ → List ℕ → List t.Token → Option ℕ → Type 0 where
  ends : {os : List Open} {at : ℕ} → Lexes os at [] [] (innermost os)
  token : {os : List Open} {at : ℕ} {xs : List ℕ} {tokens : List t.Token} {fault : Option ℕ}
      → (kind : TokenKind) (act : Act) (w rest : List ℕ) → xs ≡ w ++ rest → Stands (top os) at (Some kind) act w rest
      → Lexes (after act os) (at + length w) rest tokens fault
      → Lexes os at xs (record { kind = kind; from = at; to = at + length w } ∷ tokens) fault
  blank : {os : List Open} {at : ℕ} {xs : List ℕ} {tokens : List t.Token} {fault : Option ℕ} → (act : Act) (w rest : List ℕ)
      → xs ≡ w ++ rest → Stands (top os) at None act w rest → Lexes (after act os) (at + length w) rest tokens fault
      → Lexes os at xs tokens fault
  fails : {os : List Open} {at : ℕ} {xs : List ℕ} → xs ≢ [] → NothingStands (top os) at xs → Lexes os at xs [] (Some (blamed (top os) at))

-- A whole text begins outside code.
abbrev pub HasTokens : List ℕ → List t.Token → Option ℕ → Type 0
HasTokens src tokens fault = Lexes (Outside ∷ []) 0 src tokens fault

-- the tokens that begin before a place, where there is one
abbrev pub before : Option ℕ → List t.Token → List t.Token
before None tokens = tokens
before (Some place) tokens = take (prefix_len (λ token. nat_lt token.from place) tokens) tokens

-- The tokens of a text before the place of its first lexical fault, where it has one.
abbrev pub HasFront : List ℕ → List t.Token → Option ℕ → Type 0
HasFront src tokens fault = (all : List t.Token) × (HasTokens src all fault × (tokens ≡ before fault all))

-- The answer for a whole text: its tokens and its length, or the place of its first lexical fault.
abbrev pub IsLexed : Result TokenList ParseFault → List ℕ → Type 0
IsLexed (Ok list) src = HasTokens src list.tokens None × (list.end ≡ length src)
IsLexed (Err (fault.Syntax offset)) src = (tokens : List t.Token) × HasTokens src tokens (Some offset)
IsLexed (Err (fault.TooDeep offset)) src = ⊥
IsLexed (Err fault.Memory) src = Unit {0}

-- Tokens one behind the other, none of them empty, from a place on and up to another.
abbrev pub IsRow : ℕ → ℕ → List t.Token → Type 0
IsRow at end [] = at ≤ end
IsRow at end (x ∷ xs) = (at ≤ x.from) × (x.from < x.to) × IsRow x.to end xs
