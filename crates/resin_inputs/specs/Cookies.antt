-- The array that the `Cookie` fields of a request make (RFC 6265, section 4.2; PHP manual, "Variables From External Sources").
use Rattle.std.specs.Prelude.{ℕ, Bool, not, ◌||◌, ◌==◌, List, length, drop, fold, codes, is_some, if◌then◌else◌}
use Rattle.std.specs.List.{before_first, after_first, position_or_len, slice_split}
use Rattle.percent_encoding.specs.Percent.{percent_decode}
use Rattle.resin_value.specs.Under.bytes.declared.header.Header.{Header}
use Rattle.resin_value.specs.Arrays.{Array}
use Rattle.resin_value.specs.Changes.{lookup, put, empty}
use Rattle.resin_inputs.specs.Names.{is_named, name_key}
use Rattle.resin_inputs.specs.Forms.{plain}

abbrev pub is_equals : ℕ → Bool
is_equals b = b == 61

abbrev pub is_semicolon : ℕ → Bool
is_semicolon b = b == 59

-- a part without the spaces before it
abbrev pub unspaced : List ℕ → List ℕ
unspaced part = drop (position_or_len (λ b. not (b == 32)) part) part

-- the array with one more cookie: of several with one key the first stands, and one without a name is passed over
abbrev pub put_cookie : List ℕ → List ℕ → Array → Array
put_cookie name value a =
    if (length name == 0) || is_some (lookup (name_key name) a.entries) then a else put (name_key name) (plain (percent_decode value)) a

-- the array with the cookie of a part: a name, `=` and a value with percent escapes
abbrev pub put_part : Array → List ℕ → Array
put_part a part = put_cookie (before_first is_equals (unspaced part)) (after_first is_equals (unspaced part)) a

-- the array with the cookies of the parts between the `;` of a field's value
abbrev pub put_parts : Array → List ℕ → Array
put_parts a value = fold put_part a (slice_split is_semicolon value)

abbrev pub put_field : Array → Header → Array
put_field a field = if is_named (codes "cookie") field.name then put_parts a field.value else a

-- the array of all `Cookie` fields, in order
abbrev pub cookie_array : List Header → Array
cookie_array fields = fold put_field empty fields
