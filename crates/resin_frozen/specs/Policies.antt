-- What is kept of a policy, which policies can be kept, and which texts are policy texts.
use Rattle.std.specs.Prelude.{◌≡◌, ℕ, ℤ, zero, suc, ◌^◌, ◌<◌, ◌≤◌, Bool, true, false, ◌&&◌}
use Rattle.std.specs.Prelude.{List, [], ◌∷◌, length, map, codes, Option, Some, None, if◌then◌else◌}
use lib.Signed.{mag}
use Rattle.std.specs.List.{list_all, IsDistinct}
use Rattle.std.specs.Str.{bytes_eq}
use Rattle.std.specs.Map.{lookup as at_name, keys_of}
use Rattle.resin_value.specs.Under.label.Sets.{empty as no_labels}
use Rattle.resin_value.specs.Under.lstr.declared.limits.TheConstants.{LONGEST}
use Rattle.resin_value.specs.Under.lstr.Texts.{bytes_of, carrying}
use Rattle.resin_scan.specs.Bytes.{begins_name, is_name_byte}
use Rattle.resin_value.specs.declared.key.Key.{Key}
use Rattle.resin_value.specs.declared.key.Key.TheVariants.{Int, Text as TextKey}
use Rattle.resin_value.specs.declared.value.Value.{Value}
use Rattle.resin_value.specs.declared.value.Value.TheVariants.{Text, Arr}
use Rattle.resin_value.specs.Trees.{Tree, Row, null, boolean, integer, text, array, object, no_entry, entry}
use Rattle.resin_value.specs.Arrays.{EntryList, Array, row_of, entries_of}
use Rattle.resin_value.specs.Changes.{put, empty, IsApart, AreLawful}
use Rattle.resin_value.specs.Values.{FieldList}
use Rattle.resin_value.specs.Seen.{tree_of}
use Rattle.resin_frozen.specs.Texts.{policy_text}

-- a name of a class or a field: a letter, `_` or a byte from 128 on, then those and digits (PHP manual, "Classes and Objects")
abbrev pub is_name : List ℕ → Bool
is_name [] = false
is_name (b ∷ bs) = begins_name b && list_all is_name_byte bs

-- the most arrays that may stand one in another in a field
abbrev pub ROOM : ℕ
ROOM = 8

-- no object, and at most so many arrays one in another
abbrev mutual
  pub is_storable : ℕ → Tree → Bool
  is_storable room null = true
  is_storable room (boolean b) = true
  is_storable room (integer n s) = true
  is_storable room (text t) = true
  is_storable zero (array r l h) = false
  is_storable (suc room) (array r l h) = are_storable room r
  is_storable room (object n) = false

  pub are_storable : ℕ → Row → Bool
  are_storable room no_entry = true
  are_storable room (entry k t r) = is_storable room t && are_storable room r

-- a count of bytes or pairs: a number of 64 bits
abbrev pub IsCount : ℕ → Type 0
IsCount n = n < 2 ^ 64

-- an integer of 64 bits with a sign
abbrev pub IsInteger : ℤ → Type 0
IsInteger n = mag n < 2 ^ 63

abbrev pub IsWholeKey : Key → Type 0
IsWholeKey (Int n) = IsInteger n
IsWholeKey (TextKey w) = IsCount (length w)

-- a value that a text can keep: as above, with numbers, texts and keys as values have them
abbrev mutual
  pub IsWhole : ℕ → Tree → Type 0
  IsWhole room null = Unit {0}
  IsWhole room (boolean b) = Unit {0}
  IsWhole room (integer n s) = IsInteger n
  IsWhole room (text t) = length t ≤ LONGEST
  IsWhole zero (array r l h) = ⊥
  IsWhole (suc room) (array r l h) = IsCount (length (entries_of r)) × IsApart (entries_of r) × AreLawful (entries_of r) × AreWhole room r
  IsWhole room (object n) = ⊥

  pub AreWhole : ℕ → Row → Type 0
  AreWhole room no_entry = Unit {0}
  AreWhole room (entry k t r) = IsWholeKey k × IsWhole room t × AreWhole room r

abbrev pub is_field_key : Key → Bool
is_field_key (Int n) = false
is_field_key (TextKey w) = is_name w

-- a class and fields that a text can keep
pub record IsPolicy (class : List ℕ) (fields : EntryList) : Type 0 where
  pub class_name : is_name class ≡ true
  pub class_short : length class ≤ LONGEST
  pub field_names : list_all (λ e. is_field_key e.0) fields ≡ true
  pub count : IsCount (length fields)
  pub apart : IsApart fields
  pub whole : AreWhole ROOM (row_of fields)

-- the bytes are a policy text
pub record IsPolicyText (bytes : List ℕ) : Type 0 where
  pub class : List ℕ
  pub fields : EntryList
  pub is_policy : IsPolicy class fields
  pub text_is : bytes ≡ policy_text class fields

-- ---- what a text keeps of a value: no labels, and each array built anew from its entries, so that its next key is one more than its
-- largest integer key

-- an array as a value
abbrev pub tree_of_array : Array → Tree
tree_of_array a = array (row_of a.entries) a.largest a.height

abbrev mutual
  pub kept : Tree → Tree
  kept null = null
  kept (boolean b) = boolean b
  kept (integer n s) = integer n no_labels
  kept (text t) = text (carrying no_labels (bytes_of t))
  kept (array r l h) = tree_of_array (filled empty r)
  kept (object n) = object n

  -- the array with the pairs of a row put into it
  pub filled : Array → Row → Array
  filled a no_entry = a
  filled a (entry k t r) = filled (put k (kept t) a) r

-- ---- objects

-- the fields of an object as pairs
abbrev pub pairs_of : FieldList → EntryList
pairs_of fields = map (λ f. (TextKey f.0, tree_of f.1)) fields

-- the fields have names, no two the same
pub record HasFieldNames (fields : FieldList) : Type 0 where
  pub names : list_all is_name (keys_of fields) ≡ true
  pub distinct : IsDistinct bytes_eq (keys_of fields)

-- the class whose objects stand for policies of a class that isn't there
abbrev pub LOST : List ℕ
LOST = codes "LostPolicy"

-- a class and pairs, where all of these are names
abbrev pub named : List ℕ → EntryList → Option (List ℕ × EntryList)
named class pairs = if is_name class && list_all (λ e. is_field_key e.0) pairs then Some (class, pairs) else None

-- what a lost policy was: the class that its `of` names, with the pairs of its `fields`
abbrev pub lost_of : Option Value → Option Value → Option (List ℕ × EntryList)
lost_of (Some (Text t)) (Some (Arr a)) = named (bytes_of t) a.entries
lost_of of fields = None

abbrev pub lost : FieldList → Option (List ℕ × EntryList)
lost fields = lost_of (at_name (bytes_eq (codes "of")) fields) (at_name (bytes_eq (codes "fields")) fields)

-- what is stored of an object: its class and fields, or those that a lost policy had
abbrev pub stored : List ℕ → FieldList → Option (List ℕ × EntryList)
stored class fields = if bytes_eq class LOST then lost fields else Some (class, pairs_of fields)

-- the policy text of a class and pairs, where no value holds an object or arrays that nest past the limit
abbrev pub text_of : Option (List ℕ × EntryList) → Option (List ℕ)
text_of None = None
text_of (Some p) = if are_storable ROOM (row_of p.1) then Some (policy_text p.0 p.1) else None

-- the policy text of an object, if it has one
abbrev pub frozen : List ℕ → FieldList → Option (List ℕ)
frozen class fields = text_of (stored class fields)

-- each value with what a text keeps of it
abbrev pub kept_pairs : EntryList → EntryList
kept_pairs pairs = map (λ e. (e.0, kept e.1)) pairs

-- the text says this class and these fields, which are as a text keeps them
pub record Says (text class : List ℕ) (fields : FieldList) : Type 0 where
  pub text_is : text ≡ policy_text class (pairs_of fields)
  pub are_kept : kept_pairs (pairs_of fields) ≡ pairs_of fields
