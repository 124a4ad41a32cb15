-- Arguments of a format, and how a conversion writes them.
use Rattle.std.specs.Prelude.{ℕ, ℤ, ◌-◌, ◌≡◌, ◌&&◌, false, if◌then◌else◌, List, [], ◌++◌, length, replicate, unsigned_abs, refl}
use Rattle.std.specs.Coded.{Coded, code_by, coded×, coded⊎, coded_ℤ, coded_list}
use Rattle.std.specs.Fmt.{digits, signed_decimal, decimal, sign_text}
use Rattle.std.specs.Int.{w64, cast_unsigned, is_negative}
use Rattle.std.proofs.Common.{◌⊎◌, inl, inr}
use Rattle.resin_label.specs.Sets.{NumberSet, set_code}
use Rattle.resin_lstr.specs.Texts.{Text as LabelledText, text_code, carrying}
use Rattle.resin_format.specs.declared.form.Kind.{Kind}
use Rattle.resin_format.specs.declared.form.Kind.TheVariants.{Text, Decimal, Hexadecimal}
use Rattle.resin_format.specs.declared.form.Conversion.{Conversion}
use Rattle.resin_format.specs.Forms.{is_integer}
use Rattle.resin_format.specs.declared.args.FormatArg.{FormatArg}
use Rattle.resin_format.specs.declared.args.FormatArg.TheVariants.{Int as IntArg, Text as TextArg}

-- an argument is stored as an integer with its set, or as a text
abbrev pub parts_of : FormatArg → (ℤ × NumberSet) ⊎ LabelledText
parts_of (IntArg n s) = inl (n, s)
parts_of (TextArg t) = inr t

abbrev pub arg_of : (ℤ × NumberSet) ⊎ LabelledText → FormatArg
arg_of (inl p) = IntArg p.0 p.1
arg_of (inr t) = TextArg t

pub arg_again : (a : FormatArg) → arg_of (parts_of a) ≡ a
arg_again (IntArg n s) = refl
arg_again (TextArg t) = refl

abbrev pub args_code : Coded (List FormatArg)
args_code = coded_list (code_by ((ℤ × NumberSet) ⊎ LabelledText) (coded⊎ (coded× coded_ℤ set_code) text_code) parts_of arg_of arg_again)

-- the digits of an integer; the sign of `d` stands before them
abbrev pub digits_of : Kind → ℤ → List ℕ
digits_of Text n = signed_decimal n
digits_of Decimal n = decimal (unsigned_abs n)
digits_of Hexadecimal n = digits 16 false (cast_unsigned w64 n)

-- `-` before a negative integer, for `d` alone
abbrev pub sign_of : Kind → ℤ → List ℕ
sign_of Text n = []
sign_of Decimal n = sign_text (is_negative n)
sign_of Hexadecimal n = []

-- the sign of an argument, with the integer's set
abbrev pub sign_part : Kind → FormatArg → LabelledText
sign_part kind (IntArg n s) = carrying s (sign_of kind n)
sign_part kind (TextArg t) = []

-- the digits of an integer with its set, or the text
abbrev pub body_part : Kind → FormatArg → LabelledText
body_part kind (IntArg n s) = carrying s (digits_of kind n)
body_part kind (TextArg t) = t

-- so many bytes of a filling as are missing to a width, with the set of the `%`
abbrev pub filling : ℕ → Conversion → NumberSet → LabelledText → LabelledText
filling b c s t = carrying s (replicate (c.width - length t) b)

-- a sign and what stands behind it at the width of a conversion: `-` puts spaces behind it, `0` zeros between the two of a number, and
-- otherwise spaces stand before it
abbrev pub filled : Conversion → NumberSet → LabelledText → LabelledText → LabelledText
filled c s sign body =
    if c.left then sign ++ body ++ filling 32 c s (sign ++ body)
    else if c.zeros && is_integer c.kind then sign ++ filling 48 c s (sign ++ body) ++ body
    else filling 32 c s (sign ++ body) ++ sign ++ body

-- an argument as a conversion writes it, whose `%` has the set s
abbrev pub written : Conversion → NumberSet → FormatArg → LabelledText
written c s a = filled c s (sign_part c.kind a) (body_part c.kind a)
