-- Canonical decimals: the texts that stand for integer keys (PHP manual, "Arrays").
use Rattle.std.specs.Prelude.{ℕ, ◌==◌, ◌&&◌, not, Bool, false, List, [], ◌∷◌, ℤ, pos, Option, Some, None, codes, if◌then◌else◌}
use Rattle.std.specs.Char.{is_ascii_digit}
use Rattle.std.specs.List.{list_all}
use Rattle.resin_bytes.specs.Numbers.{is_negative, integer_form}
use Rattle.resin_bytes.specs.Paths.{is_text}
use Rattle.resin_bytes.specs.declared.number.NumberForm.{NumberForm}
use Rattle.resin_bytes.specs.declared.number.NumberForm.TheVariants.{Int, Float, Not}

-- one digit or more, of which the first isn't `0`
abbrev pub is_unpadded : List ℕ → Bool
is_unpadded [] = false
is_unpadded (c ∷ s) = not (c == 48) && list_all is_ascii_digit (c ∷ s)

-- a text without the `-` before it
abbrev pub without_minus : List ℕ → List ℕ
without_minus [] = []
without_minus (c ∷ s) = if c == 45 then s else c ∷ s

-- the integer, where a form is one
abbrev pub integer_of : NumberForm → Option ℤ
integer_of (Int n) = Some n
integer_of Float = None
integer_of Not = None

-- the integer that a canonical decimal in range spells: `0`, or digits without leading zero behind `-` or nothing
abbrev pub canonical_integer : List ℕ → Option ℤ
canonical_integer s =
    if is_text s (codes "0") then Some (pos 0)
    else (if is_unpadded (without_minus s) then integer_of (integer_form (is_negative s) (without_minus s)) else None)
