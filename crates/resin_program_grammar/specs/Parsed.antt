-- What a source text is read as, as a function: its program, or the place where it stops being the front of one.
use Rattle.std.specs.Prelude.{◌≡◌, ℕ, zero, suc, ◌+◌, ◌-◌, List, [], ◌∷◌, length, take, drop, Option, Some, None, unwrap_or, Result, Ok, Err}
use Rattle.resin_form.specs.Reading.{Outcome, Got, Stop, Deep}
use Rattle.resin_lex.specs.declared.modes.Open.{Open}
use Rattle.resin_lex.specs.declared.modes.Open.TheVariants.{Outside}
use Rattle.resin_lex.specs.declared.modes.Step.{Step}
use Rattle.resin_lex.specs.declared.modes.Step.TheVariants as step
use Rattle.resin_lex.specs.declared.token.Token.{Token}
use Rattle.resin_lex.specs.declared.token.ParseFault.{ParseFault}
use Rattle.resin_lex.specs.declared.token.ParseFault.TheVariants as fault
use Rattle.resin_lex.specs.First.{first}
use Rattle.resin_lex.specs.Lexes.{before}
use Rattle.resin_lex.specs.Lines.{line_of_token}
use Rattle.resin_lex.specs.Modes.{after, top, innermost, blamed}
use Rattle.resin_lex.specs.Reads.{token_of}
use Rattle.resin_tree.specs.declared.declaration.Program.{Program}
use Rattle.resin_program_grammar.specs.Declarations.{program}
use Rattle.resin_program_grammar.specs.Programs.{place_of}
use Rattle.resin_program_grammar.specs.Reading.{under}

-- the tokens of a text up to its end or its first lexical fault, and the place of that
abbrev pub Lexed : Type 0
Lexed = List Token × Option ℕ

-- with one token more in front
abbrev pub with_token : Token → Lexed → Lexed
with_token t l = (t ∷ l.0, l.1)

-- what a step comes to, where the rest of the text is lexed so
abbrev pub lexed_by : (List Open → ℕ → List ℕ → Lexed) → List Open → ℕ → List ℕ → Step → Lexed
lexed_by rest os at xs (step.Token shape k act) = with_token (token_of shape at (at + k) (take k xs)) (rest (after act os) (at + k) (drop k xs))
lexed_by rest os at xs (step.Skip k act) = rest (after act os) (at + k) (drop k xs)
lexed_by rest os at xs step.Fault = ([], Some (blamed (top os) at))

-- by what stands first; the number bounds the steps
unfoldable pub lexed_from : ℕ → List Open → ℕ → List ℕ → Lexed
lexed_from zero os at xs = ([], innermost os)
lexed_from (suc n) os at [] = ([], innermost os)
lexed_from (suc n) os at (x ∷ xs) = lexed_by (lexed_from n) os at (x ∷ xs) (first (top os) at (x ∷ xs))

-- a whole text begins outside code
abbrev pub lexed : List ℕ → Lexed
lexed src = lexed_from (length src) (Outside ∷ []) 0 src

-- the text is a program where what is read of its tokens is one, no token is left and no lexical fault comes
abbrev pub if_whole : ℕ → Program → List Token → Option ℕ → Result Program ParseFault
if_whole end p [] None = Ok p
if_whole end p [] (Some place) = Err (fault.Syntax end)
if_whole end p (t ∷ ts) lexical = Err (fault.Syntax t.from)

-- what reading these tokens, before the first lexical fault, comes to in a text with this end
abbrev pub told : ℕ → List Token → Option ℕ → Outcome Token Program → Result Program ParseFault
told end tokens lexical (Got p rest) = if_whole end p rest lexical
told end tokens lexical (Stop rest) = Err (fault.Syntax (place_of end rest))
told end tokens lexical (Deep rest) = Err (fault.TooDeep (place_of end (drop (length tokens - length rest - 1) tokens)))

abbrev pub parsed_front : List ℕ → List Token → Option ℕ → Result Program ParseFault
parsed_front src tokens lexical =
    told (unwrap_or lexical (length src)) tokens lexical (under (line_of_token src) 200 (program (line_of_token src)) tokens)

-- what a source text is read as
unfoldable pub parsed : List ℕ → Result Program ParseFault
parsed src = parsed_front src (before (lexed src).1 (lexed src).0) (lexed src).1

-- the answer is that, unless memory ran out
abbrev pub IsAsParsed : Result Program ParseFault → List ℕ → Type 0
IsAsParsed (Ok p) src = parsed src ≡ Ok p
IsAsParsed (Err (fault.Syntax place)) src = parsed src ≡ Err (fault.Syntax place)
IsAsParsed (Err (fault.TooDeep place)) src = parsed src ≡ Err (fault.TooDeep place)
IsAsParsed (Err fault.Memory) src = Unit {0}
