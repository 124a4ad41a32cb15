-- The kind of a token, from its shape and its bytes.
use Rattle.std.specs.Prelude.{ℕ, ◌+◌, ◌-◌, ◌==◌, List, length, take, drop, Option, Some, None, if◌then◌else◌}
use Rattle.resin_scan.specs.Bytes.{byte}
use Rattle.resin_scan.specs.Keywords.{keyword_of}
use Rattle.resin_scan.specs.Escapes.{worked}
use Rattle.resin_scan.specs.declared.escapes.Quoting.TheVariants as q
use Rattle.resin_scan.specs.declared.keywords.Keyword.{Keyword}
use Rattle.resin_scan.specs.declared.keywords.Keyword.TheVariants as keyword
use Rattle.resin_lex.specs.declared.modes.Shape.{Shape}
use Rattle.resin_lex.specs.declared.modes.Shape.TheVariants as s
use Rattle.resin_lex.specs.declared.token.TokenKind.{TokenKind}
use Rattle.resin_lex.specs.declared.token.TokenKind.TheVariants as k

-- a text without so many bytes in front and so many behind
abbrev pub inside : ℕ → ℕ → List ℕ → List ℕ
inside before behind w = take (length w - (before + behind)) (drop before w)

abbrev pub keyword_or_name : Option Keyword → List ℕ → TokenKind
keyword_or_name (Some word) w = k.Keyword word
keyword_or_name None w = k.Name w

-- a word is a keyword in any case, or a name
abbrev pub word_kind : List ℕ → TokenKind
word_kind w = keyword_or_name (keyword_of w) w

abbrev pub kind_of : Shape → List ℕ → TokenKind
kind_of s.Inline w = k.Inline w
kind_of s.EchoTag w = k.Keyword keyword.Echo
kind_of s.Word w = word_kind w
kind_of s.Variable w = k.Variable (inside 1 0 w)
kind_of (s.Int v) w = k.Int v
kind_of (s.Mark mark) w = k.Mark mark
kind_of (s.Cast cast) w = k.Cast cast
kind_of s.Single w = k.Text (worked q.Single (inside 1 1 w))
kind_of s.Double w = k.Text (worked q.Double (inside 1 1 w))
kind_of s.Opening w = k.TextOpen
kind_of s.Stretch w = k.Stretch (worked q.Double w)
kind_of s.Index w = if byte w 1 == 36 then k.IndexVariable (inside 2 1 w) else k.IndexText (inside 1 1 w)
kind_of s.Property w = k.Property (inside 2 0 w)
kind_of s.BraceOpen w = k.BraceOpen
kind_of s.Closing w = k.TextClose
