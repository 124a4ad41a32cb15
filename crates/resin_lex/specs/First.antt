-- What stands first in a text, as a function.
use Rattle.std.specs.Prelude.{◌≤◌, ◌<◌, ℕ, ◌+◌, pos, false, not, ◌&&◌, ◌==◌, List, length, take, drop, Option, Some, None, if◌then◌else◌}
use Rattle.std.specs.List.{prefix_len}
use Rattle.resin_scan.specs.Bytes.{byte, is_blank, is_digit, begins_name, is_name_byte, is_word_byte}
use Rattle.resin_scan.specs.Numbers.{integer, is_prefixed}
use Rattle.resin_scan.specs.Stretches.{is_echo_tag, is_php_tag, newline_len, blank_len, reach}
use Rattle.resin_scan.specs.declared.stretches.Stop.TheVariants as stop
use Rattle.resin_scan.specs.Words.{IsName}
use Rattle.resin_scan.specs.declared.words.Cast.{Cast}
use Rattle.resin_lex.specs.Casts.{cast_behind}
use Rattle.resin_lex.specs.declared.modes.Open.{Open}
use Rattle.resin_lex.specs.declared.modes.Open.TheVariants.{Outside, Brace, Quote, Index, Property}
use Rattle.resin_lex.specs.declared.modes.Act.{Act}
use Rattle.resin_lex.specs.declared.modes.Act.TheVariants.{Stay, Enter, Leave}
use Rattle.resin_lex.specs.declared.modes.Step.{Step}
use Rattle.resin_lex.specs.declared.modes.Step.TheVariants.{Token, Skip, Fault}
use Rattle.resin_lex.specs.declared.modes.Shape.{Shape}
use Rattle.resin_lex.specs.declared.modes.Shape.TheVariants as s
use Rattle.resin_lex.specs.declared.token.Mark.{Mark}
use Rattle.resin_lex.specs.declared.token.Mark.TheVariants as m

unfoldable pub first_outside : List ℕ → Step
first_outside xs =
    if is_echo_tag xs then Token s.EchoTag 3 Leave
    else (if is_php_tag xs then Skip (5 + blank_len (drop 5 xs)) Leave else Token s.Inline (reach stop.Tag false xs) Stay)

unfoldable pub first_word : List ℕ → Step
first_word xs = Token s.Word (prefix_len is_name_byte xs) Stay

abbrev pub int_step : ℕ → Option ℕ → Step
int_step n None = Fault
int_step n (Some v) = Token (s.Int (pos v)) n Stay

unfoldable pub first_number : List ℕ → Step
first_number xs =
    let n = prefix_len is_word_byte xs in
    if byte xs n == 46 && not (is_prefixed (take n xs)) then Fault else int_step n (integer (take n xs))

-- Marks, the longest first
abbrev pub mark_step : Mark → ℕ → Step
mark_step mark n = Token (s.Mark mark) n Stay

abbrev pub pair : List ℕ → ℕ → Mark → Mark → Step
pair xs next long short = if byte xs 1 == next then mark_step long 2 else mark_step short 1

unfoldable pub first_equals : List ℕ → Step
first_equals xs =
    if byte xs 1 == 61 then (if byte xs 2 == 61 then mark_step m.Identical 3 else mark_step m.Equal 2)
    else (if byte xs 1 == 62 then mark_step m.FatArrow 2 else mark_step m.Assign 1)

unfoldable pub first_bang : List ℕ → Step
first_bang xs = if byte xs 1 == 61 then (if byte xs 2 == 61 then mark_step m.NotIdentical 3 else mark_step m.NotEqual 2) else mark_step m.Not 1

unfoldable pub first_less : List ℕ → Step
first_less xs =
    if byte xs 1 == 61 then (if byte xs 2 == 62 then mark_step m.Compare 3 else mark_step m.LessOrEqual 2)
    else (if byte xs 1 == 62 then mark_step m.LessGreater 2 else mark_step m.Less 1)

unfoldable pub first_plus : List ℕ → Step
first_plus xs = if byte xs 1 == 43 then mark_step m.Increment 2 else (if byte xs 1 == 61 then mark_step m.PlusAssign 2 else mark_step m.Plus 1)

unfoldable pub first_minus : List ℕ → Step
first_minus xs =
    if byte xs 1 == 45 then mark_step m.Decrement 2
    else (if byte xs 1 == 61 then mark_step m.MinusAssign 2 else (if byte xs 1 == 62 then mark_step m.Arrow 2 else mark_step m.Minus 1))

unfoldable pub first_dot : List ℕ → Step
first_dot xs = if is_digit (byte xs 1) then Fault else pair xs 61 m.DotAssign m.Dot

unfoldable pub first_and : List ℕ → Step
first_and xs = if byte xs 1 == 38 then mark_step m.And 2 else Fault

unfoldable pub first_question : List ℕ → Step
first_question xs =
    if byte xs 1 == 63 then (if byte xs 2 == 61 then mark_step m.CoalesceAssign 3 else mark_step m.Coalesce 2)
    else mark_step m.Question 1

unfoldable pub first_operator : List ℕ → Step
first_operator xs = let a = byte xs 0 in
    if a == 61 then first_equals xs else
    (if a == 33 then first_bang xs else
    (if a == 60 then first_less xs else
    (if a == 62 then pair xs 61 m.GreaterOrEqual m.Greater else
    (if a == 43 then first_plus xs else
    (if a == 45 then first_minus xs else
    (if a == 42 then pair xs 61 m.StarAssign m.Star else
    (if a == 37 then pair xs 61 m.PercentAssign m.Percent else
    (if a == 46 then first_dot xs else
    (if a == 38 then first_and xs else
    (if a == 124 then pair xs 124 m.Or m.Bar else
    (if a == 58 then pair xs 58 m.DoubleColon m.Colon else Fault)))))))))))

unfoldable pub first_mark : List ℕ → Step
first_mark xs = let a = byte xs 0 in
    if a == 59 then mark_step m.Semicolon 1 else
    (if a == 44 then mark_step m.Comma 1 else
    (if a == 41 then mark_step m.RightRound 1 else
    (if a == 91 then mark_step m.LeftSquare 1 else
    (if a == 93 then mark_step m.RightSquare 1 else first_operator xs))))

abbrev pub cast_step : Option (Cast × ℕ) → Step
cast_step None = mark_step m.LeftRound 1
cast_step (Some p) = Token (s.Cast p.0) (1 + p.1) Stay

unfoldable pub first_round : List ℕ → Step
first_round xs = cast_step (cast_behind (drop 1 xs))

-- Comments and the closing tag
abbrev pub comment : List ℕ → Step
comment xs = Skip (1 + reach stop.Line false (drop 1 xs)) Stay

unfoldable pub first_hash : List ℕ → Step
first_hash xs = if byte xs 1 == 91 then Fault else comment xs

unfoldable pub block_comment : List ℕ → Step
block_comment xs = let n = reach stop.Comment false (drop 2 xs) in if byte xs (3 + n) == 47 then Skip (4 + n) Stay else Fault

unfoldable pub first_slash : List ℕ → Step
first_slash xs =
    if byte xs 1 == 47 then comment xs
    else (if byte xs 1 == 42 then block_comment xs else (if byte xs 1 == 61 then mark_step m.SlashAssign 2 else mark_step m.Slash 1))

unfoldable pub first_tag_or_question : List ℕ → Step
first_tag_or_question xs = if byte xs 1 == 62 then Token (s.Mark m.Semicolon) (2 + newline_len (drop 2 xs)) (Enter Outside) else first_question xs

-- Texts
unfoldable pub first_single : List ℕ → Step
first_single xs = let n = reach stop.Single false (drop 1 xs) in if byte xs (1 + n) == 39 then Token s.Single (2 + n) Stay else Fault

unfoldable pub first_double : ℕ → List ℕ → Step
first_double at xs =
    let n = reach stop.Part false (drop 1 xs) in
    if byte xs (1 + n) == 34 then Token s.Double (2 + n) Stay else Token s.Opening 1 (Enter (Quote at))

unfoldable pub first_variable : List ℕ → Step
first_variable xs = if begins_name (byte xs 1) then Token s.Variable (1 + prefix_len is_name_byte (drop 1 xs)) Stay else Fault

unfoldable pub first_sign : ℕ → List ℕ → Step
first_sign at xs = let b = byte xs 0 in
    if b == 36 then first_variable xs else
    (if b == 39 then first_single xs else
    (if b == 34 then first_double at xs else
    (if b == 35 then first_hash xs else
    (if b == 47 then first_slash xs else
    (if b == 63 then first_tag_or_question xs else
    (if b == 40 then first_round xs else
    (if b == 123 then Token (s.Mark m.LeftBrace) 1 (Enter Brace) else
    (if b == 125 then Token (s.Mark m.RightBrace) 1 Leave else first_mark xs))))))))

unfoldable pub first_in_code : ℕ → List ℕ → Step
first_in_code at xs = let b = byte xs 0 in
    if begins_name b then first_word xs else
    (if is_digit b then first_number xs else
    (if is_blank b then Skip (prefix_len is_blank xs) Stay else first_sign at xs))

-- Inside double quotes
abbrev pub opened_behind : ℕ → List ℕ → Act
opened_behind place xs =
    if byte xs 0 == 91 then Enter (Index place)
    else (if byte xs 0 == 45 && (byte xs 1 == 62 && begins_name (byte xs 2)) then Enter (Property place) else Stay)

unfoldable pub quoted_variable : ℕ → List ℕ → Step
quoted_variable place xs = let n = 1 + prefix_len is_name_byte (drop 1 xs) in Token s.Variable n (opened_behind place (drop n xs))

unfoldable pub quoted_stretch : List ℕ → Step
quoted_stretch xs = let n = reach stop.Part false xs in if n == 0 then Fault else Token s.Stretch n Stay

unfoldable pub first_in_quotes : ℕ → List ℕ → Step
first_in_quotes place xs = let a = byte xs 0 in let b = byte xs 1 in
    if a == 34 then Token s.Closing 1 Leave else
    (if a == 36 && begins_name b then quoted_variable place xs else
    (if a == 123 && b == 36 then Token s.BraceOpen 1 (Enter Brace) else quoted_stretch xs))

-- the length of a lawful key, or 0
unfoldable pub key_len : List ℕ → ℕ
key_len xs = let a = byte xs 0 in
    if begins_name a then prefix_len is_name_byte xs else
    (if is_digit a then prefix_len is_digit xs else
    (if a == 45 && is_digit (byte xs 1) then 1 + prefix_len is_digit (drop 1 xs) else
    (if a == 36 && begins_name (byte xs 1) then 1 + prefix_len is_name_byte (drop 1 xs) else 0)))

unfoldable pub first_index : List ℕ → Step
first_index xs =
    let n = key_len (drop 1 xs) in
    if byte xs 0 == 91 then (if n == 0 then Fault else (if byte xs (1 + n) == 93 then Token s.Index (2 + n) Leave else Fault)) else Fault

unfoldable pub first_property : List ℕ → Step
first_property xs =
    if byte xs 0 == 45 && (byte xs 1 == 62 && begins_name (byte xs 2))
    then Token s.Property (2 + prefix_len is_name_byte (drop 2 xs)) Leave else Fault

abbrev pub first : Option Open → ℕ → List ℕ → Step
first None at xs = first_in_code at xs
first (Some Brace) at xs = first_in_code at xs
first (Some Outside) at xs = first_outside xs
first (Some (Quote place)) at xs = first_in_quotes place xs
first (Some (Index place)) at xs = first_index xs
first (Some (Property place)) at xs = first_property xs

-- The bytes of a word are a name.
abbrev pub Spells : Shape → List ℕ → Type 0
Spells s.Word xs = IsName xs
Spells _ xs = Unit {0}

-- A step goes on, and not past the end. A word that it finds is a name.
abbrev pub Moves : List ℕ → Step → Type 0
Moves xs Fault = Unit {0}
Moves xs (Skip n act) = (0 < n) × (n ≤ length xs)
Moves xs (Token shape n act) = (0 < n) × ((n ≤ length xs) × Spells shape (take n xs))
