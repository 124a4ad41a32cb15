-- The names of the builtin functions (PHP manual; `sql_quote` is this project's).
use Rattle.std.specs.Prelude.{ℕ, List, [], ◌∷◌, ◌++◌, Option, Some, None, if◌then◌else◌, codes}
use Rattle.resin_scan.specs.Words.{spells}
use Rattle.resin_builtin.specs.declared.builtin.Builtin.{Builtin}
use Rattle.resin_builtin.specs.declared.builtin.Builtin.TheVariants as b
use Rattle.resin_builtin.specs.declared.builtin.OneText.TheVariants as text
use Rattle.resin_builtin.specs.declared.builtin.Digest.TheVariants as digest
use Rattle.resin_builtin.specs.declared.builtin.TwoTexts.TheVariants as texts
use Rattle.resin_builtin.specs.declared.builtin.TrimSide.TheVariants as side
use Rattle.resin_builtin.specs.declared.builtin.OneInteger.TheVariants as number
use Rattle.resin_builtin.specs.declared.builtin.Test.TheVariants as test
use Rattle.resin_builtin.specs.declared.builtin.OneArray.TheVariants as array

-- a search, a measure or a comparison of texts
unfoldable pub search_names : List (List ℕ × Builtin)
search_names =
    (codes "strlen", b.OneText text.Length) ∷
    (codes "strpos", b.Strpos) ∷
    (codes "strrpos", b.TwoTexts texts.LastPlace) ∷
    (codes "str_contains", b.TwoTexts texts.Contains) ∷
    (codes "str_starts_with", b.TwoTexts texts.StartsWith) ∷
    (codes "str_ends_with", b.TwoTexts texts.EndsWith) ∷
    (codes "substr_count", b.TwoTexts texts.MatchCount) ∷
    (codes "strcmp", b.TwoTexts texts.Order) ∷
    []

-- parts and letters of texts
unfoldable pub part_names : List (List ℕ × Builtin)
part_names =
    (codes "substr", b.Substr) ∷
    (codes "trim", b.Trim side.Both) ∷
    (codes "ltrim", b.Trim side.Front) ∷
    (codes "rtrim", b.Trim side.Back) ∷
    (codes "strtoupper", b.OneText text.UpperCase) ∷
    (codes "strtolower", b.OneText text.LowerCase) ∷
    (codes "ucfirst", b.OneText text.UpperFirst) ∷
    (codes "strrev", b.OneText text.Reversed) ∷
    []

-- texts made of others, and of numbers
unfoldable pub join_names : List (List ℕ × Builtin)
join_names =
    (codes "str_repeat", b.StrRepeat) ∷
    (codes "str_pad", b.StrPad) ∷
    (codes "implode", b.Implode) ∷
    (codes "explode", b.TwoTexts texts.Explode) ∷
    (codes "str_replace", b.StrReplace) ∷
    (codes "sprintf", b.Sprintf) ∷
    (codes "chr", b.OneInteger number.Character) ∷
    (codes "ord", b.OneText text.FirstByte) ∷
    []

-- escapes and digests
unfoldable pub escape_names : List (List ℕ × Builtin)
escape_names =
    (codes "htmlspecialchars", b.OneText text.HtmlEscaped) ∷
    (codes "addslashes", b.OneText text.Slashed) ∷
    (codes "sql_quote", b.OneText text.SqlQuoted) ∷
    (codes "urlencode", b.OneText text.UrlEncoded) ∷
    (codes "rawurlencode", b.OneText text.RawUrlEncoded) ∷
    (codes "nl2br", b.OneText text.WithBreaks) ∷
    (codes "bin2hex", b.OneText text.Hexadecimal) ∷
    (codes "md5", b.Digest digest.Md5) ∷
    (codes "sha1", b.Digest digest.Sha1) ∷
    []

-- numbers and classes
unfoldable pub number_names : List (List ℕ × Builtin)
number_names =
    (codes "intval", b.Intval) ∷
    (codes "strval", b.OneText text.Itself) ∷
    (codes "abs", b.OneInteger number.Magnitude) ∷
    (codes "intdiv", b.Intdiv) ∷
    (codes "get_class", b.GetClass) ∷
    []

-- tests of values
unfoldable pub test_names : List (List ℕ × Builtin)
test_names =
    (codes "is_null", b.Test test.Null) ∷
    (codes "is_bool", b.Test test.Bool) ∷
    (codes "is_int", b.Test test.Int) ∷
    (codes "is_string", b.Test test.Text) ∷
    (codes "is_array", b.Test test.Array) ∷
    (codes "is_object", b.Test test.Object) ∷
    (codes "is_numeric", b.Test test.Numeric) ∷
    []

-- arrays
unfoldable pub array_names : List (List ℕ × Builtin)
array_names =
    (codes "count", b.OneArray array.Count) ∷
    (codes "array_keys", b.OneArray array.Keys) ∷
    (codes "array_values", b.OneArray array.Values) ∷
    (codes "array_merge", b.ArrayMerge) ∷
    (codes "array_slice", b.ArraySlice) ∷
    (codes "array_reverse", b.ArrayReverse) ∷
    (codes "in_array", b.InArray) ∷
    (codes "array_key_exists", b.ArrayKeyExists) ∷
    []

-- what a table has for a name, in any case of ASCII letters
abbrev pub named : List (List ℕ × Builtin) → List ℕ → Option Builtin
named [] name = None
named (row ∷ rows) name = if spells row.0 name then Some row.1 else named rows name

-- every builtin function with its name
unfoldable pub all_names : List (List ℕ × Builtin)
all_names = search_names ++ (part_names ++ (join_names ++ (escape_names ++ (number_names ++ (test_names ++ array_names)))))

-- the builtin function of a name
unfoldable pub builtin_named : List ℕ → Option Builtin
builtin_named name = named all_names name
