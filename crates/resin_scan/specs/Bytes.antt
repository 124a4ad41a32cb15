-- Kinds of bytes, from the PHP manual's lexical rules.
use Rattle.std.specs.Prelude.{ℕ, ◌+◌, ◌-◌, Bool, ◌&&◌, ◌||◌, ◌==◌, nat_le, nat_lt, if◌then◌else◌, List, get_or}

-- the byte at a place, or 0 past the end
abbrev pub byte : List ℕ → ℕ → ℕ
byte xs i = get_or xs i 0

-- space, tab, CR or LF
abbrev pub is_blank : ℕ → Bool
is_blank b = b == 32 || b == 9 || b == 13 || b == 10

-- space or tab
abbrev pub is_space : ℕ → Bool
is_space b = b == 32 || b == 9

abbrev pub is_digit : ℕ → Bool
is_digit b = nat_le 48 b && nat_le b 57

-- an ASCII letter or `_`
abbrev pub is_letter : ℕ → Bool
is_letter b = (nat_le 65 b && nat_le b 90) || (nat_le 97 b && nat_le b 122) || b == 95

abbrev pub begins_name : ℕ → Bool
begins_name b = is_letter b || nat_le 128 b

abbrev pub is_name_byte : ℕ → Bool
is_name_byte b = begins_name b || is_digit b

-- what may not follow the digits of a number
abbrev pub is_word_byte : ℕ → Bool
is_word_byte b = is_letter b || is_digit b

abbrev pub lower : ℕ → ℕ
lower b = if nat_le 65 b && nat_le b 90 then b + 32 else b

-- the value of a digit of a base up to 16, or 99
abbrev pub digit : ℕ → ℕ
digit b =
    if is_digit b then b - 48 else
    (if nat_le 97 b && nat_le b 102 then (b - 97) + 10 else (if nat_le 65 b && nat_le b 70 then (b - 65) + 10 else 99))

abbrev pub is_octal : ℕ → Bool
is_octal b = nat_lt (digit b) 8

abbrev pub is_hexadecimal : ℕ → Bool
is_hexadecimal b = nat_lt (digit b) 16
