-- Objects: a class by its number, and fields by their names, in the order in which the names were first set (PHP manual, "Properties"). Names of
-- fields are told apart by case. Objects are numbered from 1 in the order in which they were made.
use Rattle.std.specs.Prelude.{ℕ, ◌<◌, ◌≤◌, ◌-◌, List, [], length, slice_get, slice_set, Option}
use Rattle.std.proofs.Common.{refl}
use Rattle.std.specs.Coded.{Coded, code_by, coded×, coded_ℕ, coded_list}
use Rattle.std.specs.Map.{keys_of, lookup, remove_entry}
use Rattle.std.specs.Option.{option_map_or}
use Rattle.std.specs.List.{IsDistinct}
use Rattle.std.specs.Str.{bytes_eq}
use Rattle.indexmap.specs.IndexMap.{insert_entry}
use Rattle.resin_value.specs.declared.value.Value.{Value}
use Rattle.resin_value.specs.Values.{FieldList, fields_code}
use Rattle.resin_heap.specs.declared.heap.Object.{Object}

-- the value of a field
abbrev pub field : List ℕ → FieldList → Option Value
field name fields = lookup (bytes_eq name) fields

-- the fields with a value at a name: in its place where the name is there, else last
abbrev pub with_field : List ℕ → Value → FieldList → FieldList
with_field name v fields = insert_entry bytes_eq fields name v

-- the fields without the one of a name, the others in their order
abbrev pub without_field : List ℕ → FieldList → FieldList
without_field name fields = remove_entry (bytes_eq name) fields

-- no two fields have one name
abbrev pub HasDistinctNames : FieldList → Type 0
HasDistinctNames fields = IsDistinct bytes_eq (keys_of fields)

-- a number of an object: they go from 1
pub record IsObject (objects : List Object) (o : ℕ) : Type 0 where
  pub first : 0 < o
  pub last : o ≤ length objects

-- the class of an object
abbrev pub class_at : List Object → ℕ → ℕ
class_at objects o = option_map_or (λ x. x.class) (slice_get objects (o - 1)) 0

-- the fields of an object
abbrev pub fields_at : List Object → ℕ → FieldList
fields_at objects o = option_map_or (λ x. x.fields) (slice_get objects (o - 1)) []

-- the objects with these fields in the place of those of one object
abbrev pub with_fields : List Object → ℕ → FieldList → List Object
with_fields objects o fields = slice_set objects (o - 1) (record { class = class_at objects o; fields = fields })

-- how objects are told apart
abbrev pub object_code : Coded Object
object_code = code_by (ℕ × FieldList) (coded× coded_ℕ fields_code) (λ o. (o.class, o.fields)) (λ p. record { class = p.0; fields = p.1 }) (λ _. refl)

abbrev pub objects_code : Coded (List Object)
objects_code = coded_list object_code
