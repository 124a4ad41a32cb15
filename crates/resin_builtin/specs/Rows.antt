-- The builtin functions, each from its arguments to a value, a throw or a fault.
use Rattle.std.specs.Prelude.{ℤ, pos, ◌-ℤ◌, Bool, true, false, if◌then◌else◌}
use Rattle.std.specs.Prelude.{List, [], ◌∷◌, length, codes, Option, Some, None, Result, Ok, Err, int_div}
use Rattle.std.specs.Ordering.{int_eq}
use Rattle.std.specs.Int.{is_negative}
use Rattle.std.specs.List.{slice_get}
use Rattle.resin_format.specs.Under.label.Sets.{NumberSet, empty}
use Rattle.resin_format.specs.Under.lstr.Texts.{Text as LabelledText, carrying, bytes_of}
use Rattle.resin_format.specs.Under.bytes.declared.number.NumberForm.{NumberForm}
use Rattle.resin_format.specs.Under.bytes.declared.number.NumberForm.TheVariants.{Int as IntForm, Float as FloatForm, Not as NoForm}
use Rattle.resin_format.specs.Under.bytes.Numbers.{numeric_form}
use Rattle.resin_format.specs.Under.scalar.declared.faults.CallStop.{CallStop}
use Rattle.resin_format.specs.Under.scalar.declared.faults.CallStop.TheVariants.{Throw, Fault}
use Rattle.resin_format.specs.Under.scalar.declared.faults.ErrorKind.TheVariants.{DivisionByZero, Arithmetic}
use Rattle.resin_format.specs.Under.scalar.declared.faults.ScriptFault.{ScriptFault}
use Rattle.resin_format.specs.Under.scalar.declared.faults.ScriptFault.TheVariants.{IntegerOverflow, UndefinedFunction}
use Rattle.resin_array_fn.specs.Under.value.Trees.{Tree, null, boolean, integer, text, array, object}
use Rattle.resin_array_fn.specs.Under.value.Arrays.{Array, row_of}
use Rattle.resin_array_fn.specs.Under.ops.Conversions.{text_of, int_of_value}
use Rattle.resin_array_fn.specs.Under.ops.Arithmetic.{fits}
use Rattle.resin_array_fn.specs.Under.text_fn.Rows as texts
use Rattle.resin_array_fn.specs.Under.text_fn.Stops.{fitting}
use Rattle.resin_format.specs.Under.escape_fn.Escapes.{escaped, html_entity, slashed, sql_literal, url_escape, raw_url_escape, hex_pair}
use Rattle.resin_format.specs.Under.escape_fn.LineBreaks.{with_breaks}
use Rattle.resin_format.specs.Under.escape_fn.Digests.{md5_digest, sha1_digest}
use Rattle.resin_format.specs.Under.escape_fn.Characters.{character, first_byte}
use Rattle.resin_format.specs.declared.form.Kind.{Kind}
use Rattle.resin_format.specs.declared.form.Kind.TheVariants.{Text as TextKind, Decimal, Hexadecimal}
use Rattle.resin_format.specs.declared.args.FormatArg.{FormatArg}
use Rattle.resin_format.specs.declared.args.FormatArg.TheVariants.{Int as IntArg, Text as TextArg}
use Rattle.resin_format.specs.Directives.{directives, kinds}
use Rattle.resin_format.specs.Formats.{formatted}
use Rattle.resin_array_fn.specs.Filled.{and_then}
use Rattle.resin_array_fn.specs.Rows as arrays
use Rattle.resin_array_fn.specs.Searches as searches
use Rattle.resin_builtin.specs.declared.builtin.Builtin.{Builtin}
use Rattle.resin_builtin.specs.declared.builtin.Builtin.TheVariants.{OneText, Digest, TwoTexts, Trim, OneInteger, Test, OneArray}
use Rattle.resin_builtin.specs.declared.builtin.Builtin.TheVariants.{Substr, Strpos, StrRepeat, Implode, StrPad, Sprintf, Intval}
use Rattle.resin_builtin.specs.declared.builtin.Builtin.TheVariants.{Intdiv, ArrayMerge, ArraySlice, ArrayReverse, ArrayKeyExists}
use Rattle.resin_builtin.specs.declared.builtin.OneText.{OneText as TextRow}
use Rattle.resin_builtin.specs.declared.builtin.OneText.TheVariants.{Length, UpperCase, LowerCase, UpperFirst, Reversed}
use Rattle.resin_builtin.specs.declared.builtin.OneText.TheVariants.{HtmlEscaped, Slashed, SqlQuoted, UrlEncoded, RawUrlEncoded}
use Rattle.resin_builtin.specs.declared.builtin.OneText.TheVariants.{WithBreaks, Hexadecimal as HexadecimalRow, FirstByte, Itself}
use Rattle.resin_builtin.specs.declared.builtin.Digest.{Digest as DigestRow}
use Rattle.resin_builtin.specs.declared.builtin.Digest.TheVariants.{Md5, Sha1}
use Rattle.resin_builtin.specs.declared.builtin.TwoTexts.{TwoTexts as TwoTextRow}
use Rattle.resin_builtin.specs.declared.builtin.TwoTexts.TheVariants.{LastPlace, Contains, StartsWith, EndsWith, MatchCount, Order, Explode}
use Rattle.resin_builtin.specs.declared.builtin.TrimSide.{TrimSide}
use Rattle.resin_builtin.specs.declared.builtin.TrimSide.TheVariants.{Both, Front, Back}
use Rattle.resin_builtin.specs.declared.builtin.OneInteger.{OneInteger as IntegerRow}
use Rattle.resin_builtin.specs.declared.builtin.OneInteger.TheVariants.{Character, Magnitude}
use Rattle.resin_builtin.specs.declared.builtin.Test.{Test as TestKind}
use Rattle.resin_builtin.specs.declared.builtin.Test.TheVariants.{Null as IsNull, Bool as IsBool, Int as IsInt, Text as IsText}
use Rattle.resin_builtin.specs.declared.builtin.Test.TheVariants.{Array as IsArray, Object as IsObject, Numeric as IsNumeric}
use Rattle.resin_builtin.specs.declared.builtin.OneArray.{OneArray as ArrayRow}
use Rattle.resin_builtin.specs.declared.builtin.OneArray.TheVariants.{Count, Keys, Values}
use Rattle.resin_builtin.specs.Arguments.{as_text, as_number, as_integer, or_default, text_at}
use Rattle.resin_builtin.specs.Arguments.{number_at, integer_at, array_at, value_at, count_at, flag_at}

-- ---- answers as values; lengths, places and booleans carry nothing

abbrev pub mapped : {X Y : Type 0} → (X → Y) → Result X CallStop → Result Y CallStop
mapped f (Ok x) = Ok (f x)
mapped f (Err stop) = Err stop

abbrev pub number : ℤ → Tree
number n = integer n empty

-- a place, or false where there is none
abbrev pub place : Option ℤ → Tree
place None = boolean false
place (Some n) = number n

abbrev pub tree_of_array : Array → Tree
tree_of_array a = array (row_of a.entries) a.largest a.height

-- ---- texts

abbrev pub one_text_row : TextRow → LabelledText → Result Tree CallStop
one_text_row Length s = Ok (number (pos (length s)))
one_text_row UpperCase s = Ok (text (texts.strtoupper s))
one_text_row LowerCase s = Ok (text (texts.strtolower s))
one_text_row UpperFirst s = Ok (text (texts.ucfirst s))
one_text_row Reversed s = Ok (text (texts.strrev s))
one_text_row HtmlEscaped s = mapped text (fitting (escaped html_entity s))
one_text_row Slashed s = mapped text (fitting (escaped slashed s))
one_text_row SqlQuoted s = mapped text (fitting (sql_literal s))
one_text_row UrlEncoded s = mapped text (fitting (escaped url_escape s))
one_text_row RawUrlEncoded s = mapped text (fitting (escaped raw_url_escape s))
one_text_row WithBreaks s = mapped text (fitting (with_breaks s))
one_text_row HexadecimalRow s = mapped text (fitting (escaped hex_pair s))
one_text_row FirstByte s = let p = first_byte s in Ok (integer p.0 p.1)
one_text_row Itself s = Ok (text s)

-- each byte of a digest carries the merged set of the text
abbrev pub digest_row : DigestRow → LabelledText → NumberSet → Tree
digest_row Md5 s set = text (md5_digest s set)
digest_row Sha1 s set = text (sha1_digest s set)

abbrev pub two_text_row : TwoTextRow → LabelledText → LabelledText → Result Tree CallStop
two_text_row LastPlace haystack needle = Ok (place (texts.strrpos haystack needle))
two_text_row Contains haystack needle = Ok (boolean (texts.str_contains haystack needle))
two_text_row StartsWith haystack needle = Ok (boolean (texts.str_starts_with haystack needle))
two_text_row EndsWith haystack needle = Ok (boolean (texts.str_ends_with haystack needle))
two_text_row MatchCount haystack needle = mapped number (texts.substr_count haystack needle)
two_text_row Order a b = Ok (number (texts.strcmp a b))
two_text_row Explode separator s = and_then (texts.explode separator s) (λ pieces. mapped tree_of_array (arrays.list_of_texts pieces))

-- space, LF, CR, tab, VT and NUL
abbrev pub blanks : LabelledText
blanks = carrying empty (32 ∷ 10 ∷ 13 ∷ 9 ∷ 11 ∷ 0 ∷ [])

abbrev pub trimmed : TrimSide → LabelledText → LabelledText → LabelledText
trimmed Both s chars = texts.trim s chars
trimmed Front s chars = texts.ltrim s chars
trimmed Back s chars = texts.rtrim s chars

abbrev pub trim_row : TrimSide → List Tree → Result Tree CallStop
trim_row side ts =
    and_then (text_at ts 0) (λ s.
    and_then (or_default as_text blanks (slice_get ts 1)) (λ chars.
    Ok (text (trimmed side s chars))))

abbrev pub substr_row : List Tree → Result Tree CallStop
substr_row ts =
    and_then (text_at ts 0) (λ s.
    and_then (number_at ts 1) (λ offset.
    and_then (count_at ts 2) (λ count.
    Ok (text (texts.substr s offset count)))))

abbrev pub strpos_row : List Tree → Result Tree CallStop
strpos_row ts =
    and_then (text_at ts 0) (λ haystack.
    and_then (text_at ts 1) (λ needle.
    and_then (or_default as_number (pos 0) (slice_get ts 2)) (λ offset.
    mapped place (texts.strpos haystack needle offset))))

abbrev pub str_repeat_row : List Tree → Result Tree CallStop
str_repeat_row ts =
    and_then (text_at ts 0) (λ s.
    and_then (number_at ts 1) (λ times.
    mapped text (texts.str_repeat s times)))

abbrev pub implode_row : List Tree → Result Tree CallStop
implode_row ts =
    and_then (text_at ts 0) (λ glue.
    and_then (array_at ts 1) (λ a.
    and_then (arrays.texts_in (arrays.values a)) (λ parts.
    mapped text (texts.implode glue parts))))

-- the padding is a space and the side the right one where they are left out
abbrev pub str_pad_row : List Tree → Result Tree CallStop
str_pad_row ts =
    and_then (text_at ts 0) (λ s.
    and_then (number_at ts 1) (λ width.
    and_then (or_default as_text (carrying empty (codes " ")) (slice_get ts 2)) (λ padding.
    and_then (or_default as_number (pos 1) (slice_get ts 3)) (λ side.
    mapped text (texts.str_pad s width padding side)))))

-- ---- formats

-- an argument as its conversion reads it: `s` by the text rule; `d` and `x` take an integer, which it was turned into before
abbrev pub format_argument : Kind → Tree → Result FormatArg CallStop
format_argument TextKind t = mapped TextArg (text_of t)
format_argument Decimal t = mapped (λ p. IntArg p.0 p.1) (as_integer (Some t))
format_argument Hexadecimal t = mapped (λ p. IntArg p.0 p.1) (as_integer (Some t))

-- the arguments that a format reads, in order; those behind them aren't looked at
abbrev pub format_arguments : List Kind → List Tree → Result (List FormatArg) CallStop
format_arguments [] ts = Ok []
format_arguments (kind ∷ ks) [] = Ok []
format_arguments (kind ∷ ks) (t ∷ ts) = and_then (format_argument kind t) (λ a. mapped (λ rest. a ∷ rest) (format_arguments ks ts))

abbrev pub behind_first : List Tree → List Tree
behind_first [] = []
behind_first (t ∷ ts) = ts

abbrev pub sprintf_row : List Tree → Result Tree CallStop
sprintf_row ts =
    and_then (text_at ts 0) (λ format.
    and_then (format_arguments (kinds (directives format)) (behind_first ts)) (λ read.
    mapped text (formatted format read)))

-- ---- numbers and tests

abbrev pub whole : NumberSet → Result ℤ ScriptFault → Result Tree CallStop
whole set (Ok n) = Ok (integer n set)
whole set (Err fault) = Err (Fault fault)

-- an integer stays, with its labels; the integer at the front of a text carries the merged set
abbrev pub intval_row : Tree → NumberSet → Result Tree CallStop
intval_row (integer n s) set = Ok (integer n s)
intval_row (text t) set = whole set (int_of_value (text t))
intval_row t set = whole empty (int_of_value t)

-- the number without its sign; that of the least integer fits no 64 bits
abbrev pub magnitude : ℤ → NumberSet → Result Tree CallStop
magnitude n s = let m = (if is_negative n then pos 0 -ℤ n else n) in if fits m then Ok (integer m s) else Err (Fault IntegerOverflow)

abbrev pub integer_row : IntegerRow → ℤ → NumberSet → Result Tree CallStop
integer_row Character n s = Ok (text (character n s))
integer_row Magnitude n s = magnitude n s

-- the quotient rounded toward zero, with the merged set; that of the least integer by -1 fits no 64 bits
abbrev pub quotient : ℤ → ℤ → NumberSet → Result Tree CallStop
quotient a b set =
    if int_eq b (pos 0) then Err (Throw DivisionByZero)
    else if fits (int_div a b) then Ok (integer (int_div a b) set)
    else Err (Throw Arithmetic)

abbrev pub intdiv_row : List Tree → NumberSet → Result Tree CallStop
intdiv_row ts set =
    and_then (number_at ts 0) (λ a.
    and_then (number_at ts 1) (λ b.
    quotient a b set))

-- a number in any form
abbrev pub is_number_form : NumberForm → Bool
is_number_form (IntForm n) = true
is_number_form FloatForm = true
is_number_form NoForm = false

-- an integer, or a text that is a number
abbrev pub is_numeric : Tree → Bool
is_numeric (integer n s) = true
is_numeric (text t) = is_number_form (numeric_form (bytes_of t))
is_numeric t = false

abbrev pub is_null : Tree → Bool
is_null null = true
is_null t = false

abbrev pub is_bool : Tree → Bool
is_bool (boolean b) = true
is_bool t = false

abbrev pub is_int : Tree → Bool
is_int (integer n s) = true
is_int t = false

abbrev pub is_string : Tree → Bool
is_string (text s) = true
is_string t = false

abbrev pub is_array : Tree → Bool
is_array (array r l h) = true
is_array t = false

abbrev pub is_object : Tree → Bool
is_object (object n) = true
is_object t = false

abbrev pub tested : TestKind → Tree → Bool
tested IsNull t = is_null t
tested IsBool t = is_bool t
tested IsInt t = is_int t
tested IsText t = is_string t
tested IsArray t = is_array t
tested IsObject t = is_object t
tested IsNumeric t = is_numeric t

-- ---- arrays

abbrev pub array_row : ArrayRow → Array → Result Tree CallStop
array_row Count a = Ok (number (arrays.count a))
array_row Keys a = mapped tree_of_array (arrays.array_keys a)
array_row Values a = mapped tree_of_array (arrays.array_values a)

abbrev pub array_slice_row : List Tree → Result Tree CallStop
array_slice_row ts =
    and_then (array_at ts 0) (λ a.
    and_then (number_at ts 1) (λ offset.
    and_then (count_at ts 2) (λ count.
    mapped tree_of_array (arrays.array_slice a offset count (flag_at ts 3)))))

abbrev pub array_reverse_row : List Tree → Result Tree CallStop
array_reverse_row ts = and_then (array_at ts 0) (λ a. mapped tree_of_array (arrays.array_reverse a (flag_at ts 1)))

abbrev pub array_key_exists_row : List Tree → Result Tree CallStop
array_key_exists_row ts =
    and_then (value_at ts 0) (λ k.
    and_then (array_at ts 1) (λ a.
    mapped boolean (searches.array_key_exists k a)))

-- ---- every function whose work costs nothing by itself

abbrev pub row_of_builtin : Builtin → List Tree → NumberSet → Result Tree CallStop
row_of_builtin (OneText row) ts set = and_then (text_at ts 0) (λ s. one_text_row row s)
row_of_builtin (Digest row) ts set = and_then (text_at ts 0) (λ s. Ok (digest_row row s set))
row_of_builtin (TwoTexts row) ts set = and_then (text_at ts 0) (λ a. and_then (text_at ts 1) (λ b. two_text_row row a b))
row_of_builtin (Trim side) ts set = trim_row side ts
row_of_builtin (OneInteger row) ts set = and_then (integer_at ts 0) (λ n. integer_row row n.0 n.1)
row_of_builtin (Test kind) ts set = and_then (value_at ts 0) (λ t. Ok (boolean (tested kind t)))
row_of_builtin (OneArray row) ts set = and_then (array_at ts 0) (λ a. array_row row a)
row_of_builtin Substr ts set = substr_row ts
row_of_builtin Strpos ts set = strpos_row ts
row_of_builtin StrRepeat ts set = str_repeat_row ts
row_of_builtin Implode ts set = implode_row ts
row_of_builtin StrPad ts set = str_pad_row ts
row_of_builtin Sprintf ts set = sprintf_row ts
row_of_builtin Intval ts set = and_then (value_at ts 0) (λ t. intval_row t set)
row_of_builtin Intdiv ts set = intdiv_row ts set
row_of_builtin ArrayMerge ts set = mapped tree_of_array (arrays.array_merge ts)
row_of_builtin ArraySlice ts set = array_slice_row ts
row_of_builtin ArrayReverse ts set = array_reverse_row ts
row_of_builtin ArrayKeyExists ts set = array_key_exists_row ts
-- the others are no such functions
row_of_builtin b ts set = Err (Fault UndefinedFunction)
