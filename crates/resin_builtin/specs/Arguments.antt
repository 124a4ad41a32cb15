-- Arguments of a call that were turned into their kinds already. Where one isn't there or is of another kind, TypeError is thrown.
use Rattle.std.specs.Prelude.{ℕ, ℤ, Bool, false, List, Option, Some, None, Result, Ok, Err}
use Rattle.std.specs.List.{slice_get}
use Rattle.resin_format.specs.Under.label.Sets.{NumberSet}
use Rattle.resin_format.specs.Under.lstr.Texts.{Text as LabelledText}
use Rattle.resin_format.specs.Under.scalar.declared.faults.CallStop.{CallStop}
use Rattle.resin_format.specs.Under.scalar.declared.faults.CallStop.TheVariants.{Throw}
use Rattle.resin_format.specs.Under.scalar.declared.faults.ErrorKind.TheVariants.{«Type» as TypeError}
use Rattle.resin_array_fn.specs.Under.value.Trees.{Tree, null, integer, text, array}
use Rattle.resin_array_fn.specs.Under.value.Arrays.{Array, entries_of}
use Rattle.resin_array_fn.specs.Under.value.Compare.{is_true}

-- a text
abbrev pub as_text : Option Tree → Result LabelledText CallStop
as_text (Some (text t)) = Ok t
as_text o = Err (Throw TypeError)

-- an integer
abbrev pub as_number : Option Tree → Result ℤ CallStop
as_number (Some (integer n s)) = Ok n
as_number o = Err (Throw TypeError)

-- an integer with its labels
abbrev pub as_integer : Option Tree → Result (ℤ × NumberSet) CallStop
as_integer (Some (integer n s)) = Ok (n, s)
as_integer o = Err (Throw TypeError)

-- an array
abbrev pub as_array : Option Tree → Result Array CallStop
as_array (Some (array r l h)) = Ok (record { entries = entries_of r; largest = l; height = h })
as_array o = Err (Throw TypeError)

-- any value
abbrev pub as_value : Option Tree → Result Tree CallStop
as_value (Some t) = Ok t
as_value None = Err (Throw TypeError)

-- an integer that may be left out, or be null in its place
abbrev pub as_count : Option Tree → Result (Option ℤ) CallStop
as_count None = Ok None
as_count (Some null) = Ok None
as_count (Some (integer n s)) = Ok (Some n)
as_count o = Err (Throw TypeError)

-- as a boolean, false where it is left out
abbrev pub as_flag : Option Tree → Bool
as_flag None = false
as_flag (Some t) = is_true t

abbrev pub text_at : List Tree → ℕ → Result LabelledText CallStop
text_at ts i = as_text (slice_get ts i)

abbrev pub number_at : List Tree → ℕ → Result ℤ CallStop
number_at ts i = as_number (slice_get ts i)

abbrev pub integer_at : List Tree → ℕ → Result (ℤ × NumberSet) CallStop
integer_at ts i = as_integer (slice_get ts i)

abbrev pub array_at : List Tree → ℕ → Result Array CallStop
array_at ts i = as_array (slice_get ts i)

abbrev pub value_at : List Tree → ℕ → Result Tree CallStop
value_at ts i = as_value (slice_get ts i)

abbrev pub count_at : List Tree → ℕ → Result (Option ℤ) CallStop
count_at ts i = as_count (slice_get ts i)

abbrev pub flag_at : List Tree → ℕ → Bool
flag_at ts i = as_flag (slice_get ts i)

-- with another value in place of an argument that is left out
abbrev pub or_default : {X : Type 0} → (Option Tree → Result X CallStop) → X → Option Tree → Result X CallStop
or_default read d None = Ok d
or_default read d (Some t) = read (Some t)
