-- What a source text is: a program, or none, with the place where it stops being the front of one.
use Rattle.std.specs.Prelude.{◌≡◌, ℕ, List, [], ◌∷◌, ◌++◌, length, Option, Some, None, unwrap_or, Result, Ok, Err}
use Rattle.resin_form.specs.Meaning.{IsTree, EndsLongest, SpellsWithin, IsFrontWithin, IsTooDeep}
use Rattle.resin_lex.specs.declared.token.Token.{Token}
use Rattle.resin_lex.specs.declared.token.ParseFault.{ParseFault}
use Rattle.resin_lex.specs.declared.token.ParseFault.TheVariants as fault
use Rattle.resin_lex.specs.Lexes.{HasTokens, HasFront}
use Rattle.resin_lex.specs.Lines.{line_of_token}
use Rattle.resin_tree.specs.declared.declaration.Program.{Program}
use Rattle.resin_grammar.specs.Reading.{is_low}
use Rattle.resin_program_grammar.specs.Declarations.{rules, program}

-- fewer constructs than this may be open in one another: 200 at most
abbrev pub bound : ℕ
bound = 201

-- the place of the first of these tokens, or this one where there is none
abbrev pub place_of : ℕ → List Token → ℕ
place_of end [] = end
place_of end (t ∷ ts) = t.from

module _ (src : List ℕ) where
  -- the text has tokens, and they are this program
  pub record IsProgram (p : Program) : Type 0 where
    pub tokens : List Token
    pub lexed : HasTokens src tokens None
    pub tree : SpellsWithin (rules (line_of_token src)) is_low bound (program (line_of_token src)) tokens p []

  -- The fault place of a text that is no program: the start of the first token with which the tokens so far are no front
  -- of a program, or that of the first lexical fault, or the end, whichever comes first. Before it nothing nests too deep.
  pub record IsFaultPlace (place : ℕ) : Type 0 where
    -- the tokens before the first lexical fault, and its place
    pub tokens : List Token
    pub lexical : Option ℕ
    pub lexed : HasFront src tokens lexical
    -- the longest front of a program among them, and the tokens behind it
    pub front : List Token
    pub rest : List Token
    pub longest : EndsLongest (rules (line_of_token src)) (program (line_of_token src)) tokens front rest
    pub within : IsFrontWithin (rules (line_of_token src)) is_low bound (program (line_of_token src)) front
    pub no_program : rest ≡ [] → lexical ≡ None → (p : Program) → IsTree (rules (line_of_token src)) (program (line_of_token src)) front p → ⊥
    pub is : place ≡ place_of (unwrap_or lexical (length src)) rest

  -- the place of the token that opens, or enters, the first construct past the limit, before any fault place
  pub record IsDeepPlace (place : ℕ) : Type 0 where
    pub tokens : List Token
    pub lexical : Option ℕ
    pub lexed : HasFront src tokens lexical
    pub front : List Token
    pub opening : Token
    pub rest : List Token
    pub splits : tokens ≡ front ++ opening ∷ rest
    pub first : IsTooDeep (rules (line_of_token src)) (program (line_of_token src)) is_low bound tokens rest
    pub is : place ≡ opening.from

-- The answer for a whole text.
abbrev pub IsParsed : Result Program ParseFault → List ℕ → Type 0
IsParsed (Ok p) src = IsProgram src p
IsParsed (Err (fault.Syntax place)) src = IsFaultPlace src place
IsParsed (Err (fault.TooDeep place)) src = IsDeepPlace src place
IsParsed (Err fault.Memory) src = Unit {0}
