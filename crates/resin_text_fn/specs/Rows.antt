-- The text functions (PHP manual, "String Functions", in this project's profile), over lists of a byte and its set. A byte that is copied keeps
-- its set.
use Rattle.std.specs.Prelude.{ℕ, ℤ, pos, negsuc, ◌+◌, ◌-◌, ◌/◌, min, max, Bool, ◌==◌, nat_eq, nat_lt, nat_le, if◌then◌else◌, List, [], ◌∷◌}
use Rattle.std.specs.Prelude.{◌++◌, map, reverse, length, take, drop, Option, Some, None, option_map, is_some, unwrap_or, Result, Ok, Err}
use Rattle.std.specs.Ordering.{int_eq}
use Rattle.std.specs.List.{slice_get, slice_range, prefix_len, suffix_len, list_any, repeat, join_by, starts_with, ends_with}
use Rattle.std.specs.Char.{to_ascii_uppercase, to_ascii_lowercase}
use Rattle.std.specs.declared.cmp.Ordering.{Ordering}
use Rattle.std.specs.declared.cmp.Ordering.TheVariants.{Less, Equal, Greater}
use Rattle.resin_lstr.specs.declared.limits.TheConstants.{LONGEST}
use Rattle.resin_lstr.specs.Texts.{Text, bytes_of}
use Rattle.resin_scalar.specs.Scalars.{byte_order}
use Rattle.resin_scalar.specs.declared.faults.CallStop.{CallStop}
use Rattle.resin_scalar.specs.declared.faults.CallStop.TheVariants.{Throw, Fault}
use Rattle.resin_scalar.specs.declared.faults.ErrorKind.TheVariants.{Value as ValueError}
use Rattle.resin_scalar.specs.declared.faults.ScriptFault.TheVariants.{FuelSpent, TextTooLong}
use Rattle.resin_text_fn.specs.Stops.{fitting}
use Rattle.resin_text_fn.specs.Matches.{first_place, last_place, matched_parts, pieces_round, replaced}

-- ---- parts of a text

-- the place that an offset means in a text of so many bytes: from the end where it is negative, none outside the text; its end is inside
abbrev pub offset_place : ℤ → ℕ → Option ℕ
offset_place (pos o) len = if nat_le o len then Some o else None
offset_place (negsuc o) len = if nat_lt o len then Some (len - (o + 1)) else None

-- where a part begins: from the end where the offset is negative, but within the text
abbrev pub part_start : ℤ → ℕ → ℕ
part_start (pos o) len = min o len
part_start (negsuc o) len = len - (o + 1)

-- where it ends: so many bytes on, or that many before the end where the count is negative, but not before its start; without a count at the end
abbrev pub part_end : Option ℤ → ℕ → ℕ → ℕ
part_end None start len = len
part_end (Some (pos n)) start len = min (start + n) len
part_end (Some (negsuc n)) start len = max start (len - (n + 1))

abbrev pub substr : Text → ℤ → Option ℤ → Text
substr s offset count =
    let start = part_start offset (length s) in
    slice_range s start (part_end count start (length s))

-- the byte is one of these
abbrev pub is_among : List ℕ → ℕ → Bool
is_among bytes b = list_any (λ c. c == b) bytes

-- without the bytes of `chars` at the front
abbrev pub ltrim : Text → Text → Text
ltrim s chars = drop (prefix_len (is_among (bytes_of chars)) (bytes_of s)) s

-- without the bytes of `chars` at the end
abbrev pub rtrim : Text → Text → Text
rtrim s chars = take (length s - suffix_len (is_among (bytes_of chars)) (bytes_of s)) s

abbrev pub trim : Text → Text → Text
trim s chars = rtrim (ltrim s chars) chars

-- ---- searches

-- the first place of the needle from a place on, counted from the front of the whole
abbrev pub place_from : Option ℕ → Text → Text → Result (Option ℤ) CallStop
place_from None haystack needle = Err (Throw ValueError)
place_from (Some from) haystack needle =
    Ok (option_map (λ k. pos (from + k)) (first_place (drop from (bytes_of haystack)) (bytes_of needle)))

abbrev pub strpos : Text → Text → ℤ → Result (Option ℤ) CallStop
strpos haystack needle offset = place_from (offset_place offset (length haystack)) haystack needle

abbrev pub strrpos : Text → Text → Option ℤ
strrpos haystack needle = option_map pos (last_place (bytes_of haystack) (bytes_of needle))

abbrev pub str_contains : Text → Text → Bool
str_contains haystack needle = is_some (first_place (bytes_of haystack) (bytes_of needle))

abbrev pub str_starts_with : Text → Text → Bool
str_starts_with haystack needle = starts_with nat_eq (bytes_of haystack) (bytes_of needle)

abbrev pub str_ends_with : Text → Text → Bool
str_ends_with haystack needle = ends_with nat_eq (bytes_of haystack) (bytes_of needle)

-- an empty needle throws ValueError
abbrev pub substr_count : Text → Text → Result ℤ CallStop
substr_count haystack needle =
    if length needle == 0 then Err (Throw ValueError)
    else Ok (pos (length (matched_parts (bytes_of haystack) (bytes_of needle))))

-- less is -1, greater 1
abbrev pub sign_of : Ordering → ℤ
sign_of Less = negsuc 0
sign_of Equal = pos 0
sign_of Greater = pos 1

abbrev pub strcmp : Text → Text → ℤ
strcmp a b = sign_of (byte_order (bytes_of a) (bytes_of b))

-- ---- letters and order

-- a to z; other bytes stay
abbrev pub strtoupper : Text → Text
strtoupper s = map (λ p. (to_ascii_uppercase p.0, p.1)) s

abbrev pub strtolower : Text → Text
strtolower s = map (λ p. (to_ascii_lowercase p.0, p.1)) s

abbrev pub ucfirst : Text → Text
ucfirst [] = []
ucfirst (p ∷ t) = (to_ascii_uppercase p.0, p.1) ∷ t

-- the pairs of byte and set in the other order
abbrev pub strrev : Text → Text
strrev s = reverse s

-- ---- repeated and joined texts

-- a negative count throws ValueError
abbrev pub str_repeat : Text → ℤ → Result Text CallStop
str_repeat s (pos times) = fitting (repeat times s)
str_repeat s (negsuc times) = Err (Throw ValueError)

-- the first n bytes of a text that is written over and over
abbrev pub cycled : ℕ → Text → Text
cycled n p = take n (repeat n p)

-- how many bytes a text of so many lacks to a width
abbrev pub lacking : ℤ → ℕ → ℕ
lacking (pos width) len = width - len
lacking (negsuc width) len = 0

-- side 0 is left, 1 is right; another side and an empty padding throw ValueError
abbrev pub str_pad : Text → ℤ → Text → ℤ → Result Text CallStop
str_pad s width padding side =
    let added = cycled (lacking width (length s)) padding in
    if length padding == 0 then Err (Throw ValueError)
    else if int_eq side (pos 0) then fitting (added ++ s)
    else if int_eq side (pos 1) then fitting (s ++ added)
    else Err (Throw ValueError)

-- the texts with the glue between neighbours
abbrev pub implode : Text → List Text → Result Text CallStop
implode glue texts = fitting (join_by (λ t. t) glue texts)

-- the pieces round the separator; an empty separator throws ValueError
abbrev pub explode : Text → Text → Result (List Text) CallStop
explode separator s =
    if length separator == 0 then Err (Throw ValueError)
    else Ok (pieces_round 0 (matched_parts (bytes_of s) (bytes_of separator)) s)

-- ---- replacement

-- one search after the other, each in what the one before left, with the text at the same place, empty where there is none; each search first costs a
-- tick for each 256 bytes of the text that it takes, and the answer comes with the ticks that are left
abbrev pub str_replace : List Text → List Text → Text → ℕ → Result Text CallStop × ℕ
str_replace [] with s left = (Ok s, left)
str_replace (search ∷ searches) with s left =
    let charge = length s / 256 in
    let after = replaced search (unwrap_or (slice_get with 0) []) s in
    if nat_lt left charge then (Err (Fault FuelSpent), left)
    else if nat_le (length after) LONGEST then str_replace searches (drop 1 with) after (left - charge)
    else (Err (Fault TextTooLong), left - charge)
