-- The array that the pairs of a form make (the URL Standard, "application/x-www-form-urlencoded"; PHP manual, "Variables From External Sources").
use Rattle.std.specs.Prelude.{ℕ, ◌==◌, List, [], ◌∷◌, length, map, fold, if◌then◌else◌, Option, Some, None}
use Rattle.std.specs.Str.Lossy.{utf8_lossy}
use Rattle.form_urlencoded.specs.Form.{raw_pairs, decode}
use Rattle.resin_value.specs.Under.label.Sets.{empty as no_labels}
use Rattle.resin_value.specs.Under.lstr.Texts.{carrying}
use Rattle.resin_value.specs.declared.key.Key.{Key}
use Rattle.resin_value.specs.Keys.{text_key}
use Rattle.resin_value.specs.Trees.{Tree, null, boolean, integer, text, array, object}
use Rattle.resin_value.specs.Arrays.{Array, row_of, entries_of}
use Rattle.resin_value.specs.Changes.{lookup, put, appended, empty}
use Rattle.resin_inputs.specs.Names.{name_key, entry_of}

-- a name and a value
abbrev pub Pair : Type 0
Pair = List ℕ × List ℕ

-- the text of a name or a value: `+` is a space, escapes are decoded, and what isn't UTF-8 becomes U+FFFD
abbrev pub form_text : List ℕ → List ℕ
form_text bytes = utf8_lossy (decode bytes)

-- the pairs of a form, in order
abbrev pub form_pairs : List ℕ → List Pair
form_pairs bytes = map (λ p. (form_text p.0, form_text p.1)) (raw_pairs bytes)

-- a text as a value, without labels
abbrev pub plain : List ℕ → Tree
plain bytes = text (carrying no_labels bytes)

-- an array as a value
abbrev pub as_value : Array → Tree
as_value a = array (row_of a.entries) a.largest a.height

-- the array that a value is, and a new one for every other value
abbrev pub array_in : Tree → Array
array_in (array r l h) = record { entries = entries_of r; largest = l; height = h }
array_in null = empty
array_in (boolean b) = empty
array_in (integer n s) = empty
array_in (text t) = empty
array_in (object n) = empty

abbrev pub array_or_new : Option Tree → Array
array_or_new None = empty
array_or_new (Some t) = array_in t

-- an array with a value under k; where k is empty it stands last, unless there is no next key
abbrev pub with_entry : List ℕ → Tree → Array → Option Array
with_entry [] t a = appended t a
with_entry (c ∷ k) t a = Some (put (text_key (c ∷ k)) t a)

abbrev pub put_array : Key → Option Array → Array → Array
put_array key None a = a
put_array key (Some inner) a = put key (as_value inner) a

-- the array with a value under k in the array at a key
abbrev pub put_entry : Key → List ℕ → Tree → Array → Array
put_entry key k t a = put_array key (with_entry k t (array_or_new (lookup key a.entries))) a

abbrev pub put_parts : Option (List ℕ × List ℕ) → Pair → Array → Array
put_parts None p a = put (name_key p.0) (plain p.1) a
put_parts (Some e) p a = put_entry (name_key e.0) e.1 (plain p.1) a

-- the array with one more pair: a name `b[k]` puts the value under k into the array at b, every other name is one key, and a pair
-- without a name is passed over
abbrev pub put_pair : Array → Pair → Array
put_pair a p = if length p.0 == 0 then a else put_parts (entry_of p.0) p a

-- the array of a form
abbrev pub form_array : List ℕ → Array
form_array bytes = fold put_pair empty (form_pairs bytes)
