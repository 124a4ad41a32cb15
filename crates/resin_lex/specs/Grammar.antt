-- The lexical grammar: what stands at the front of a text, and what may follow it. From the PHP manual's lexical rules, in this project's profile.
use Rattle.std.specs.Prelude.{◌≡◌, ◌<◌, ℕ, ◌^◌, pos, Bool, true, false, ◌&&◌, ◌||◌, ◌==◌, List, [], ◌∷◌, ◌++◌, codes, Option, Some, None}
use Rattle.resin_scan.specs.Bytes.{byte, is_blank, is_space, is_digit, begins_name, is_name_byte, is_word_byte, lower}
use Rattle.resin_scan.specs.Lists.{NotBefore, Every}
use Rattle.resin_scan.specs.Words.{IsName, cast_of}
use Rattle.resin_scan.specs.Numbers.{IsInteger}
use Rattle.resin_scan.specs.Stretches.{Stretch}
use Rattle.resin_scan.specs.Escapes.{Spells}
use Rattle.resin_scan.specs.declared.escapes.Quoting.TheVariants as q
use Rattle.resin_scan.specs.declared.stretches.Stop.TheVariants as stop
use Rattle.resin_scan.specs.declared.keywords.Keyword.TheVariants as keyword
use Rattle.resin_scan.specs.declared.words.Cast.{Cast}
use Rattle.resin_lex.specs.declared.modes.Open.{Open}
use Rattle.resin_lex.specs.declared.modes.Open.TheVariants.{Outside, Brace, Quote, Index, Property}
use Rattle.resin_lex.specs.declared.modes.Act.{Act}
use Rattle.resin_lex.specs.declared.modes.Act.TheVariants.{Stay, Enter, Leave}
use Rattle.resin_lex.specs.declared.token.TokenKind.{TokenKind}
use Rattle.resin_lex.specs.declared.token.TokenKind.TheVariants as k
use Rattle.resin_lex.specs.declared.token.Mark.{Mark}
use Rattle.resin_lex.specs.declared.token.Mark.TheVariants as m
use Rattle.resin_lex.specs.Marks.{spelling, goes_on, act_of}
use Rattle.resin_lex.specs.Kinds.{word_kind}

-- the end of a line in front, whole, or none
pub data Newline : List ℕ → List ℕ → Type 0 where
  crlf : {rest : List ℕ} → Newline (codes "\r\n") rest
  cr : {rest : List ℕ} → NotBefore (λ b. b == 10) rest → Newline (codes "\r") rest
  lf : {rest : List ℕ} → Newline (codes "\n") rest
  no_newline : {rest : List ℕ} → NotBefore (λ b. b == 10 || b == 13) rest → Newline [] rest

-- `InCode at what act w rest`: in code, at this place, w is this token (or no token: blanks and comments), rest follows,
-- and act is what it opens or closes.
pub data InCode (at : ℕ) : Option TokenKind → Act → List ℕ → List ℕ → Type 0 where
  blanks : {b : ℕ} {w rest : List ℕ} → is_blank b ≡ true → Every is_blank w → NotBefore is_blank rest → InCode at None Stay (b ∷ w) rest
  line_comment : {body rest : List ℕ} → NotBefore (λ b. b == 91) (body ++ rest) → Stretch stop.Line body rest
      → InCode at None Stay (codes "#" ++ body) rest
  slash_comment : {body rest : List ℕ} → Stretch stop.Line body rest → InCode at None Stay (codes "//" ++ body) rest
  block_comment : {body rest : List ℕ} → Stretch stop.Comment body (codes "*/" ++ rest) → InCode at None Stay (codes "/*" ++ body ++ codes "*/") rest
  closing_tag : {w rest : List ℕ} → Newline w rest → InCode at (Some (k.Mark m.Semicolon)) (Enter Outside) (codes "?>" ++ w) rest
  word : {w rest : List ℕ} → IsName w → NotBefore is_name_byte rest → InCode at (Some (word_kind w)) Stay w rest
  variable : {w rest : List ℕ} → IsName w → NotBefore is_name_byte rest → InCode at (Some (k.Variable w)) Stay (codes "$" ++ w) rest
  integer : {w rest : List ℕ} {n : ℕ} → IsInteger w rest n → n < 2 ^ 63 → NotBefore is_word_byte rest → InCode at (Some (k.Int (pos n))) Stay w rest
  mark : {rest : List ℕ} → (mark : Mark) → goes_on mark rest ≡ false → InCode at (Some (k.Mark mark)) (act_of mark) (spelling mark) rest
  cast : (before word behind : List ℕ) {rest : List ℕ} {cast : Cast} → Every is_space before → Every is_name_byte word
      → cast_of word ≡ Some cast → Every is_space behind
      → InCode at (Some (k.Cast cast)) Stay (codes "(" ++ (before ++ (word ++ (behind ++ codes ")")))) rest
  single : {body rest text : List ℕ} → Stretch stop.Single body (codes "'" ++ rest) → Spells q.Single body text
      → InCode at (Some (k.Text text)) Stay (codes "'" ++ body ++ codes "'") rest
  double : {body rest text : List ℕ} → Stretch stop.Part body (codes "\"" ++ rest) → Spells q.Double body text
      → InCode at (Some (k.Text text)) Stay (codes "\"" ++ body ++ codes "\"") rest
  opening : {body rest : List ℕ} → Stretch stop.Part body rest → NotBefore (λ b. b == 34) rest
      → InCode at (Some k.TextOpen) (Enter (Quote at)) (codes "\"") (body ++ rest)

-- the blank that belongs to an opening tag
pub data TagBlank : List ℕ → List ℕ → Type 0 where
  crlf_tag : {rest : List ℕ} → TagBlank (codes "\r\n") rest
  cr_tag : {rest : List ℕ} → NotBefore (λ b. b == 10) rest → TagBlank (codes "\r") rest
  blank_tag : {b : ℕ} {rest : List ℕ} → (b == 13) ≡ false → is_blank b ≡ true → TagBlank (b ∷ []) rest
  end_tag : TagBlank [] []

-- Outside code: inline text up to an opening tag, `<?=`, or `<?php` in any case with its blank.
pub data Around : Option TokenKind → Act → List ℕ → List ℕ → Type 0 where
  inline : {b : ℕ} {w rest : List ℕ} → Stretch stop.Tag (b ∷ w) rest → Around (Some (k.Inline (b ∷ w))) Stay (b ∷ w) rest
  echo_tag : {rest : List ℕ} → Around (Some (k.Keyword keyword.Echo)) Leave (codes "<?=") rest
  php_tag : {p h q : ℕ} {blank rest : List ℕ} → lower p ≡ 112 → lower h ≡ 104 → lower q ≡ 112 → TagBlank blank rest
      → Around None Leave (codes "<?" ++ p ∷ h ∷ q ∷ blank) rest

-- `->` and a name
abbrev pub arrow_name : List ℕ → Bool
arrow_name xs = byte xs 0 == 45 && (byte xs 1 == 62 && begins_name (byte xs 2))

-- In a double-quoted text with this place: its closing quote, a variable (and whether an index or a property follows it),
-- the brace of `{$`, or a stretch.
pub data InQuotes (place : ℕ) : Option TokenKind → Act → List ℕ → List ℕ → Type 0 where
  closing : {rest : List ℕ} → InQuotes place (Some k.TextClose) Leave (codes "\"") rest
  value : {w rest : List ℕ} → IsName w → NotBefore is_name_byte rest → NotBefore (λ b. b == 91) rest → arrow_name rest ≡ false
      → InQuotes place (Some (k.Variable w)) Stay (codes "$" ++ w) rest
  indexed : {w rest : List ℕ} → IsName w → InQuotes place (Some (k.Variable w)) (Enter (Index place)) (codes "$" ++ w) (codes "[" ++ rest)
  owner : {w rest : List ℕ} → IsName w → arrow_name rest ≡ true → InQuotes place (Some (k.Variable w)) (Enter (Property place)) (codes "$" ++ w) rest
  braced : {rest : List ℕ} → InQuotes place (Some k.BraceOpen) (Enter Brace) (codes "{") (codes "$" ++ rest)
  stretch : {b : ℕ} {w rest text : List ℕ} → Stretch stop.Part (b ∷ w) rest → Spells q.Double (b ∷ w) text
      → InQuotes place (Some (k.Stretch text)) Stay (b ∷ w) rest

-- the key of an index in a text: a name, digits, or `-` and digits
pub data IsKey : List ℕ → Type 0 where
  named : {w : List ℕ} → IsName w → IsKey w
  numbered : {d : ℕ} {ds : List ℕ} → Every is_digit (d ∷ ds) → IsKey (d ∷ ds)
  negative : {d : ℕ} {ds : List ℕ} → Every is_digit (d ∷ ds) → IsKey (codes "-" ++ d ∷ ds)

-- An index behind a variable in a text.
pub data InIndex : Option TokenKind → Act → List ℕ → List ℕ → Type 0 where
  index : {key rest : List ℕ} → IsKey key → InIndex (Some (k.IndexText key)) Leave (codes "[" ++ key ++ codes "]") rest
  index_variable : {w rest : List ℕ} → IsName w → InIndex (Some (k.IndexVariable w)) Leave (codes "[$" ++ w ++ codes "]") rest

-- A property behind a variable in a text.
pub data InProperty : Option TokenKind → Act → List ℕ → List ℕ → Type 0 where
  property : {w rest : List ℕ} → IsName w → NotBefore is_name_byte rest → InProperty (Some (k.Property w)) Leave (codes "->" ++ w) rest

-- what stands at the front, where this is the innermost that is open
abbrev pub Stands : Option Open → ℕ → Option TokenKind → Act → List ℕ → List ℕ → Type 0
Stands None at = InCode at
Stands (Some Brace) at = InCode at
Stands (Some Outside) at = Around
Stands (Some (Quote place)) at = InQuotes place
Stands (Some (Index place)) at = InIndex
Stands (Some (Property place)) at = InProperty
