-- What a text is to HTML: a page, or none, and then where the fault is.
use Rattle.std.specs.Prelude.{◌≡◌, ℕ, ◌+◌, ◌<◌, ◌≤◌, List, [], length, take, Result, Ok, Err}
use Rattle.resin_form.specs.Reading.{Outcome, Got, Stop}
use Rattle.resin_form.specs.Meaning.{SpellsWithin}
use Rattle.resin_form.specs.Meaning as forms
use Rattle.resin_sql_words.specs.Places.{placed}
use Rattle.resin_sql_words.specs.Forms.{rules, in_limits}
use Rattle.resin_guard.specs.Pages.{Places, page}
use Rattle.resin_guard.specs.declared.page.PageFault.{PageFault}
use Rattle.resin_guard.specs.declared.page.PageFault.TheVariants.{Syntax, Memory}

-- the bytes are a page whose safe places are these
abbrev pub IsPage : List ℕ → Places → Type 0
IsPage bytes places = SpellsWithin rules in_limits 1 (page []) (placed 0 bytes) places []

-- a page, or one begun
abbrev pub IsFront : List ℕ → Type 0
IsFront bytes = forms.IsFront rules (page []) (placed 0 bytes)

-- the first byte at which no continuation is a page, or the length of a text that ends too early
pub record IsFirstFault (bytes : List ℕ) (at : ℕ) : Type 0 where
  pub in_text : at ≤ length bytes
  pub before : IsFront (take at bytes)
  pub no_longer : at < length bytes → IsFront (take (at + 1) bytes) → ⊥

-- the outcome of reading, unless memory ran out
abbrev pub Reads : {Token A : Type 0} → Outcome Token A → Result A PageFault → List Token → Type 0
Reads out (Ok a) new = out ≡ Got a new
Reads out (Err Syntax) new = out ≡ Stop new
Reads out (Err Memory) new = Unit {0}
