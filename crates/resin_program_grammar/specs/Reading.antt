-- Reading by the grammar of programs, within the limits on nesting and height. `line` gives the line of a token.
use Rattle.std.specs.Prelude.{ℕ, suc}
use Rattle.resin_form.specs.Form.{Begin, Form, After}
use Rattle.resin_form.specs.Reading.{Reader, read, read_after}
use Rattle.resin_form.specs.Meaning.{allows_at, reading}
use Rattle.resin_lex.specs.declared.token.Token.{Token}
use Rattle.resin_grammar.specs.Reading.{is_low}
use Rattle.resin_program_grammar.specs.Names.{Name, Value}
use Rattle.resin_program_grammar.specs.Declarations.{rules}

module _ (line : Token → ℕ) where
  -- what the tokens begin with, by a form, where so many constructs may still open in one another
  abbrev pub under : {A : Type 0} → ℕ → Form Token Name Value A → Reader Token A
  under depth F = read (allows_at is_low (suc depth)) (reading (rules line) is_low (suc depth)) F

  -- the same behind a token
  abbrev pub behind : {b : Begin} {A : Type 0} → ℕ → After Token Name Value b A → Reader Token A
  behind depth F = read_after (allows_at is_low (suc depth)) (reading (rules line) is_low (suc depth)) F
