-- A law of source texts: what a text is read as is what the grammar says of it, and the grammar says nothing else of it.
use Rattle.std.specs.Prelude.{◌≡◌, ◌≢◌, ℕ, List, Ok, Err}
use Rattle.resin_lex.specs.declared.token.ParseFault.TheVariants as fault
use Rattle.resin_tree.specs.declared.declaration.Program.{Program}
use Rattle.resin_program_grammar.specs.Programs.{IsProgram, IsFaultPlace, IsDeepPlace, IsParsed}
use Rattle.resin_program_grammar.specs.Parsed.{parsed}

-- Each text is exactly one of three: one program, a text that stops being the front of one at one fault place, or a text
-- that nests too deep at one place.
pub record HasOneMeaning (src : List ℕ) : Type 0 where
  -- the text is what it is read as
  pub meant : IsParsed (parsed src) src
  -- that is one of the three, since no memory is wanted on paper
  pub told : parsed src ≢ Err fault.Memory
  -- a program is read as this program, and as nothing else
  pub program : (p : Program) → IsProgram src p → parsed src ≡ Ok p
  -- so is a text with a fault place
  pub misspelt : (place : ℕ) → IsFaultPlace src place → parsed src ≡ Err (fault.Syntax place)
  -- and one that nests too deep
  pub too_deep : (place : ℕ) → IsDeepPlace src place → parsed src ≡ Err (fault.TooDeep place)
