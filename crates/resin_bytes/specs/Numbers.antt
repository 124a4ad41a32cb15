-- Numbers at the front of a text (PHP manual, "Numeric strings", in this project's profile: integers have 64 bits and floats are only told).
use Rattle.std.specs.Prelude.{ℕ, ◌+◌, ◌-◌, ◌*◌, ◌^◌, ◌==◌, ◌&&◌, ◌||◌, nat_lt, nat_le, not, Bool, false}
use Rattle.std.specs.Prelude.{List, [], ◌∷◌, drop, take, fold, pos, neg_ℤ, if◌then◌else◌}
use Rattle.std.specs.Char.{is_ascii_digit}
use Rattle.std.specs.List.{position_or_len, list_all}
use Rattle.resin_bytes.specs.declared.number.NumberForm.{NumberForm}
use Rattle.resin_bytes.specs.declared.number.NumberForm.TheVariants.{Int, Float, Not}

-- a blank: space, tab, newline, vertical tab, form feed or carriage return
abbrev pub is_blank : ℕ → Bool
is_blank c = c == 32 || (nat_le 9 c && nat_le c 13)

-- `+` or `-`
abbrev pub is_sign : ℕ → Bool
is_sign c = c == 43 || c == 45

-- how many blanks a text begins with
abbrev pub blanks_len : List ℕ → ℕ
blanks_len = position_or_len (λ c. not (is_blank c))

-- how many digits a text begins with
abbrev pub digits_len : List ℕ → ℕ
digits_len = position_or_len (λ c. not (is_ascii_digit c))

-- how many signs a text begins with, one at most
abbrev pub sign_len : List ℕ → ℕ
sign_len [] = 0
sign_len (c ∷ s) = if is_sign c then 1 else 0

-- a text without its sign
abbrev pub unsigned : List ℕ → List ℕ
unsigned s = drop (sign_len s) s

-- the text begins with `-`
abbrev pub is_negative : List ℕ → Bool
is_negative [] = false
is_negative (c ∷ s) = c == 45

-- how long a point with the digits after it is, behind so many digits: it stands only with a digit on at least one side
abbrev pub fraction_len : ℕ → List ℕ → ℕ
fraction_len whole [] = 0
fraction_len whole (c ∷ s) = if c == 46 && nat_lt 0 (whole + digits_len s) then digits_len s + 1 else 0

-- how long an exponent is: `e` or `E`, a sign or none, and one digit or more
abbrev pub exponent_len : List ℕ → ℕ
exponent_len [] = 0
exponent_len (c ∷ s) =
    if (c == 69 || c == 101) && nat_lt 0 (digits_len (unsigned s)) then sign_len s + digits_len (unsigned s) + 1 else 0

-- how long the digits and the point of a number without a sign are
abbrev pub mantissa_len : List ℕ → ℕ
mantissa_len s = digits_len s + fraction_len (digits_len s) (drop (digits_len s) s)

-- how long the number without a sign is with which a text begins, 0 where it begins with none
abbrev pub number_len : List ℕ → ℕ
number_len s = if mantissa_len s == 0 then 0 else mantissa_len s + exponent_len (drop (mantissa_len s) s)

-- the number that digits spell
abbrev pub decimal_value : List ℕ → ℕ
decimal_value digits = fold (λ n c. n * 10 + (c - 48)) 0 digits

-- an integer form; outside 64 bits it counts as a float form
abbrev pub integer_form : Bool → List ℕ → NumberForm
integer_form negative digits =
    if negative
    then (if nat_le (decimal_value digits) (2 ^ 63) then Int (neg_ℤ (pos (decimal_value digits))) else Float)
    else (if nat_lt (decimal_value digits) (2 ^ 63) then Int (pos (decimal_value digits)) else Float)

-- the form of the number with which a text without blanks before it begins: an integer form has digits alone
abbrev pub front_form : List ℕ → NumberForm
front_form s =
    if number_len (unsigned s) == 0 then Not
    else (if number_len (unsigned s) == digits_len (unsigned s)
    then integer_form (is_negative s) (take (digits_len (unsigned s)) (unsigned s)) else Float)

-- a text without the blanks before it
abbrev pub unblanked : List ℕ → List ℕ
unblanked s = drop (blanks_len s) s

-- what stands behind the number
abbrev pub behind : List ℕ → List ℕ
behind s = drop (number_len (unsigned s)) (unsigned s)

-- the number that a text begins with, blanks before it aside
abbrev pub leading_form : List ℕ → NumberForm
leading_form s = front_form (unblanked s)

-- the number that a text is, blanks round it aside
abbrev pub numeric_form : List ℕ → NumberForm
numeric_form s = if list_all is_blank (behind (unblanked s)) then leading_form s else Not
