-- The tokens by which a statement or a declaration begins.
use Rattle.std.specs.Prelude.{ℕ, ℤ, ◌-◌, Bool, true, false, ◌||◌, List, Option, Some, None, is_some}
use Rattle.resin_lex.specs.declared.token.Token.{Token}
use Rattle.resin_lex.specs.declared.token.TokenKind.{TokenKind}
use Rattle.resin_lex.specs.declared.token.TokenKind.TheVariants as k
use Rattle.resin_lex.specs.declared.token.Mark.TheVariants as m
use Rattle.resin_scan.specs.declared.keywords.Keyword.TheVariants as word
use Rattle.resin_grammar.specs.Operators.{constant_of}
use Rattle.resin_program_grammar.specs.declared.lead.Compound.{Compound}
use Rattle.resin_program_grammar.specs.declared.lead.Compound.TheVariants as compound
use Rattle.resin_program_grammar.specs.declared.lead.Plain.{Plain}
use Rattle.resin_program_grammar.specs.declared.lead.Plain.TheVariants as plain

abbrev pub if_in_loop : Bool → Plain → Option Plain
if_in_loop true p = Some p
if_in_loop false p = None

-- the statement without others in it that a token begins; `true`: in a loop or a `switch`
abbrev pub plain_of : Bool → TokenKind → Option Plain
plain_of in_loop (k.Mark m.Semicolon) = Some plain.Semicolon
plain_of in_loop (k.Keyword word.Break) = if_in_loop in_loop plain.Break
plain_of in_loop (k.Keyword word.Continue) = if_in_loop in_loop plain.Continue
plain_of in_loop (k.Keyword word.Die) = Some plain.Exit
plain_of in_loop (k.Keyword word.Echo) = Some plain.Echo
plain_of in_loop (k.Keyword word.Exit) = Some plain.Exit
plain_of in_loop (k.Keyword word.Global) = Some plain.Global
plain_of in_loop (k.Keyword word.Return) = Some plain.Return
plain_of in_loop (k.Keyword word.Throw) = Some plain.Throw
plain_of in_loop (k.Keyword word.Unset) = Some plain.Unset
plain_of in_loop _ = None

-- the statement with others in it that a token begins
abbrev pub compound_of : TokenKind → Option Compound
compound_of (k.Mark m.LeftBrace) = Some compound.Block
compound_of (k.Keyword word.Do) = Some compound.Do
compound_of (k.Keyword word.For) = Some compound.For
compound_of (k.Keyword word.Foreach) = Some compound.Foreach
compound_of (k.Keyword word.If) = Some compound.If
compound_of (k.Keyword word.Switch) = Some compound.Switch
compound_of (k.Keyword word.Try) = Some compound.Try
compound_of (k.Keyword word.While) = Some compound.While
compound_of _ = None

-- text outside code
abbrev pub inline_of : TokenKind → Option (List ℕ)
inline_of (k.Inline x) = Some x
inline_of _ = None

-- `public`, `protected`, `private` or `final`
abbrev pub is_modifier : TokenKind → Bool
is_modifier (k.Keyword word.Public) = true
is_modifier (k.Keyword word.Protected) = true
is_modifier (k.Keyword word.Private) = true
is_modifier (k.Keyword word.Final) = true
is_modifier _ = false
