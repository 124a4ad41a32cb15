-- The array functions (PHP manual, "Array Functions", in this project's profile), over the entries of arrays in their order.
use Rattle.std.specs.Prelude.{ℤ, pos, Bool, false, List, [], ◌∷◌, map, reverse, length, Option, Result, Ok, Err}
use Rattle.std.specs.List.{slice_range}
use Rattle.resin_ops.specs.Under.label.Sets.{empty as no_labels}
use Rattle.resin_ops.specs.Under.lstr.Texts.{Text as LabelledText, carrying}
use Rattle.resin_ops.specs.Under.scalar.declared.faults.CallStop.{CallStop}
use Rattle.resin_ops.specs.Under.scalar.declared.faults.CallStop.TheVariants.{Throw}
use Rattle.resin_ops.specs.Under.scalar.declared.faults.ErrorKind.TheVariants.{«Type» as TypeError}
use Rattle.resin_ops.specs.Under.value.declared.key.Key.{Key}
use Rattle.resin_ops.specs.Under.value.declared.key.Key.TheVariants.{Int, Text}
use Rattle.resin_ops.specs.Under.value.Trees.{Tree, null, boolean, integer, text, array, object}
use Rattle.resin_ops.specs.Under.value.Arrays.{EntryList, Array, entries_of}
use Rattle.resin_ops.specs.Under.value.Changes.{empty}
use Rattle.resin_ops.specs.Conversions.{text_of}
use Rattle.resin_text_fn.specs.Rows.{part_start, part_end}
use Rattle.resin_array_fn.specs.Filled.{and_then, filled_on, filled, in_order, with_kept_keys}

-- the values of an array in order
abbrev pub values : Array → List Tree
values a = map (λ e. e.1) a.entries

-- how many entries there are
abbrev pub count : Array → ℤ
count a = pos (length a.entries)

-- a key as a value, which carries nothing
abbrev pub key_value : Key → Tree
key_value (Int n) = integer n no_labels
key_value (Text b) = text (carrying no_labels b)

-- the keys, as the values of a list
abbrev pub array_keys : Array → Result Array CallStop
array_keys a = filled (in_order (map (λ e. key_value e.0) a.entries))

-- the values, as those of a list
abbrev pub array_values : Array → Result Array CallStop
array_values a = filled (in_order (values a))

-- the entries that `substr` would give of a text with as many bytes; integer keys are numbered anew unless they are kept
abbrev pub array_slice : Array → ℤ → Option ℤ → Bool → Result Array CallStop
array_slice a offset count keep =
    let start = part_start offset (length a.entries) in
    filled (with_kept_keys keep (slice_range a.entries start (part_end count start (length a.entries))))

-- the entries in the other order; integer keys are numbered anew unless they are kept
abbrev pub array_reverse : Array → Bool → Result Array CallStop
array_reverse a keep = filled (with_kept_keys keep (reverse a.entries))

-- the entries of a value that is an array; TypeError is thrown for every other value
abbrev pub entries_in : Tree → Result EntryList CallStop
entries_in null = Err (Throw TypeError)
entries_in (boolean b) = Err (Throw TypeError)
entries_in (integer n s) = Err (Throw TypeError)
entries_in (text t) = Err (Throw TypeError)
entries_in (array r l h) = Ok (entries_of r)
entries_in (object n) = Err (Throw TypeError)

-- an array, and the entries of others behind its own: integer keys are numbered anew, and a text key that is there takes the later value in its place
abbrev pub merged_on : Array → List Tree → Result Array CallStop
merged_on a [] = Ok a
merged_on a (t ∷ ts) = and_then (entries_in t) (λ es. and_then (filled_on a (with_kept_keys false es)) (λ b. merged_on b ts))

-- one array of all the entries
abbrev pub array_merge : List Tree → Result Array CallStop
array_merge ts = merged_on empty ts

-- ---- arrays of texts

-- values as texts, by the text rule; the first that is none ends it
abbrev pub texts_in : List Tree → Result (List LabelledText) CallStop
texts_in [] = Ok []
texts_in (t ∷ ts) = and_then (text_of t) (λ x. and_then (texts_in ts) (λ xs. Ok (x ∷ xs)))

-- texts as the values of a list
abbrev pub list_of_texts : List LabelledText → Result Array CallStop
list_of_texts xs = filled (in_order (map text xs))
