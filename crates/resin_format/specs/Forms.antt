-- What stands behind a `%` in a format (PHP manual, "sprintf", in this project's profile: no positions, precisions, signs or other fillings).
use Rattle.std.specs.Prelude.{ℕ, ◌+◌, ◌==◌, Bool, true, false, nat_le, if◌then◌else◌}
use Rattle.std.specs.Prelude.{List, [], ◌∷◌, length, take, drop, Option, Some, None, option_and_then}
use Rattle.std.specs.Option.{option_map}
use Rattle.resin_bytes.specs.Numbers.{digits_len, decimal_value}
use Rattle.resin_format.specs.declared.form.Kind.{Kind}
use Rattle.resin_format.specs.declared.form.Kind.TheVariants.{Text, Decimal, Hexadecimal}
use Rattle.resin_format.specs.declared.form.Conversion.{Conversion}
use Rattle.resin_format.specs.declared.form.Form.{Form}
use Rattle.resin_format.specs.declared.form.Form.TheVariants.{Percent, Convert, Wrong}

-- the greatest width
abbrev pub WIDEST : ℕ
WIDEST = 16777216

abbrev pub begins_with : ℕ → List ℕ → Bool
begins_with c [] = false
begins_with c (b ∷ s) = b == c

-- a text without the byte c, where it begins with it
abbrev pub behind : ℕ → List ℕ → List ℕ
behind c [] = []
behind c (b ∷ s) = if b == c then s else b ∷ s

-- the letter of a conversion: `s`, `d` or `x`
abbrev pub kind_of : List ℕ → Option Kind
kind_of [] = None
kind_of (b ∷ s) =
    if b == 115 then Some Text
    else if b == 100 then Some Decimal
    else if b == 120 then Some Hexadecimal
    else None

-- whether the argument is read as an integer
abbrev pub is_integer : Kind → Bool
is_integer Text = false
is_integer Decimal = true
is_integer Hexadecimal = true

-- the number that digits spell, 0 for none, where it is a lawful width
abbrev pub width_of : List ℕ → Option ℕ
width_of digits = if nat_le (decimal_value digits) WIDEST then Some (decimal_value digits) else None

-- a conversion behind its `%`: `-` or nothing, `0` or nothing, a width or nothing, and a letter. The digits are read at once: the flag `0` is
-- there where the first of them is a zero, which leaves the width as it is
abbrev pub conversion_of : List ℕ → Option Conversion
conversion_of s =
    let digits = digits_len (behind 45 s) in
    option_and_then (λ width. option_map (λ kind. record {
      left = begins_with 45 s;
      zeros = begins_with 48 (behind 45 s);
      width = width;
      kind = kind;
    }) (kind_of (drop digits (behind 45 s)))) (width_of (take digits (behind 45 s)))

abbrev pub convert_or_wrong : Option Conversion → Form
convert_or_wrong None = Wrong
convert_or_wrong (Some c) = Convert c

-- what stands behind a `%`: another one, a conversion, or neither
abbrev pub form_of : List ℕ → Form
form_of s = if begins_with 37 s then Percent else convert_or_wrong (conversion_of s)

-- how many of the bytes behind a `%` belong to it; a wrong form is the last one that is read, so all of them do
abbrev pub form_len : Form → List ℕ → ℕ
form_len Percent s = 1
form_len (Convert c) s = digits_len (behind 45 s) + (if begins_with 45 s then 2 else 1)
form_len Wrong s = length s
