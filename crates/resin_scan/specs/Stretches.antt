-- Tags, ends of lines, and stretches of bytes.
use Rattle.std.specs.Prelude.{◌≡◌, ℕ, suc, Bool, true, false, not, ◌&&◌, ◌||◌, ◌==◌, List, [], ◌∷◌, ◌++◌, length, drop, is_some, if◌then◌else◌}
use Rattle.resin_scan.specs.Bytes.{byte, is_blank, begins_name, lower}
use Rattle.resin_scan.specs.Numbers.{code_point}
use Rattle.resin_scan.specs.declared.stretches.Stop.{Stop}
use Rattle.resin_scan.specs.declared.stretches.Stop.TheVariants as stop

-- `<?=` in front
abbrev pub is_echo_tag : List ℕ → Bool
is_echo_tag xs = byte xs 0 == 60 && (byte xs 1 == 63 && byte xs 2 == 61)

-- `<?php` in front, in any case, and a blank or the end of the text behind it
abbrev pub is_php_tag : List ℕ → Bool
is_php_tag xs =
    byte xs 0 == 60 && (byte xs 1 == 63 && (lower (byte xs 2) == 112 && (lower (byte xs 3) == 104 && (lower (byte xs 4) == 112
    && (is_blank (byte xs 5) || length xs == 5)))))

-- the length of the end of a line in front: a CRLF, a CR or an LF
abbrev pub newline_len : List ℕ → ℕ
newline_len xs = if byte xs 0 == 13 then (if byte xs 1 == 10 then 2 else 1) else (if byte xs 0 == 10 then 1 else 0)

-- the length of one blank in front, a CRLF whole
abbrev pub blank_len : List ℕ → ℕ
blank_len xs = if byte xs 0 == 13 then (if byte xs 1 == 10 then 2 else 1) else (if is_blank (byte xs 0) then 1 else 0)

-- `\u{` in front, and no code point with its `}` behind it
abbrev pub is_broken : List ℕ → Bool
is_broken xs = byte xs 0 == 92 && (byte xs 1 == 117 && (byte xs 2 == 123 && not (is_some (code_point (drop 3 xs)))))

-- Where a stretch stops: inline text at an opening tag; a comment of one line at the end of the line or a closing tag;
-- a comment in `/*` at `*/`; a single-quoted text at its quote; a double-quoted one at its quote, `$` and a name, `${`,
-- `{$` and a broken `\u{`.
abbrev pub stops : Stop → List ℕ → Bool
stops stop.Tag xs = is_echo_tag xs || is_php_tag xs
stops stop.Line xs = byte xs 0 == 10 || (byte xs 0 == 13 || (byte xs 0 == 63 && byte xs 1 == 62))
stops stop.Comment xs = byte xs 0 == 42 && byte xs 1 == 47
stops stop.Single xs = byte xs 0 == 39
stops stop.Part xs =
    byte xs 0 == 34 || ((byte xs 0 == 36 && (begins_name (byte xs 1) || byte xs 1 == 123))
    || ((byte xs 0 == 123 && byte xs 1 == 36) || is_broken xs))

-- a byte that takes the next one along: the backslash in quotes
abbrev pub escapes : Stop → ℕ → Bool
escapes stop.Tag b = false
escapes stop.Line b = false
escapes stop.Comment b = false
escapes stop.Single b = b == 92
escapes stop.Part b = b == 92

-- `Stretch s body rest`: no place of body stops it, but the end of the text or the front of rest does. A byte behind one
-- that escapes is taken along.
pub data Stretch (s : Stop) : List ℕ → List ℕ → Type 0 where
  at_end : Stretch s [] []
  at_stop : {b : ℕ} {rest : List ℕ} → stops s (b ∷ rest) ≡ true → Stretch s [] (b ∷ rest)
  plain : {b : ℕ} {body rest : List ℕ} → stops s (b ∷ body ++ rest) ≡ false → escapes s b ≡ false → Stretch s body rest → Stretch s (b ∷ body) rest
  escape : {b c : ℕ} {body rest : List ℕ} → stops s (b ∷ c ∷ body ++ rest) ≡ false → escapes s b ≡ true → Stretch s body rest
      → Stretch s (b ∷ c ∷ body) rest
  cut_off : {b : ℕ} → stops s (b ∷ []) ≡ false → escapes s b ≡ true → Stretch s (b ∷ []) []

-- how many bytes stand before the first place to stop, where a backslash stands before or not
abbrev pub reach : Stop → Bool → List ℕ → ℕ
reach s escaped [] = 0
reach s true (b ∷ xs) = suc (reach s false xs)
reach s false (b ∷ xs) = if stops s (b ∷ xs) then 0 else suc (reach s (escapes s b) xs)
