-- Laws of classes and of objects, in the words of the PHP manual ("Object Inheritance", "Properties"), over the definitions that calls cite.
use Rattle.std.specs.Prelude.{◌≡◌, ◌≢◌, ℕ, ◌<◌, ◌||◌, true, nat_eq, List, ◌++◌, Some, None, IsSome}
use Rattle.std.specs.Map.{keys_of}
use Rattle.resin_value.specs.declared.value.Value.{Value}
use Rattle.resin_value.specs.Values.{FieldList}
use Rattle.resin_heap.specs.declared.heap.Object.{Object}
use Rattle.resin_heap.specs.Classes.{Table, parent_of, is_a, methods_of, find_method, method_of, own_properties, properties_of}
use Rattle.resin_heap.specs.Objects.{field, with_field, without_field, HasDistinctNames, IsObject, class_at, fields_at, with_fields}

-- a parent has a smaller number than its child, so no class is above itself
abbrev pub ParentsAreSmaller : Type 0
ParentsAreSmaller = (t : Table) (c p : ℕ) → parent_of t c ≡ Some p → p < c

-- a class is itself
abbrev pub IsItself : Type 0
IsItself = (t : Table) (c : ℕ) → is_a t c c ≡ true

-- and otherwise what its parent is
abbrev pub IsWhatItsParentIs : Type 0
IsWhatItsParentIs = (t : Table) (c p other : ℕ) → parent_of t c ≡ Some p → is_a t c other ≡ (nat_eq other c || is_a t p other)

-- without a parent it is nothing else
abbrev pub IsNothingElse : Type 0
IsNothingElse = (t : Table) (c other : ℕ) → parent_of t c ≡ None → is_a t c other ≡ nat_eq other c

-- a class's own method goes before its parent's
abbrev pub OwnMethodsGoFirst : Type 0
OwnMethodsGoFirst =
    (t : Table) (c i : ℕ) (name : List ℕ) → find_method (methods_of t c) name ≡ Some i
    → method_of t c name ≡ Some (record { class = c; index = i })

-- a method that a class doesn't declare is that of its parent
abbrev pub MethodsAreInherited : Type 0
MethodsAreInherited =
    (t : Table) (c p : ℕ) (name : List ℕ) → find_method (methods_of t c) name ≡ None → parent_of t c ≡ Some p
    → method_of t c name ≡ method_of t p name

-- without a parent there is no other method
abbrev pub NoOtherMethods : Type 0
NoOtherMethods = (t : Table) (c : ℕ) (name : List ℕ) → find_method (methods_of t c) name ≡ None → parent_of t c ≡ None → method_of t c name ≡ None

-- the properties of the parent stand before a class's own
abbrev pub ParentsPropertiesGoFirst : Type 0
ParentsPropertiesGoFirst = (t : Table) (c p : ℕ) → parent_of t c ≡ Some p → properties_of t c ≡ properties_of t p ++ own_properties t c

-- without a parent there are the class's own alone
abbrev pub NoOtherProperties : Type 0
NoOtherProperties = (t : Table) (c : ℕ) → parent_of t c ≡ None → properties_of t c ≡ own_properties t c

-- a field has the value that it was given
abbrev pub FindsWhatWasSet : Type 0
FindsWhatWasSet = (name : List ℕ) (v : Value) (fields : FieldList) → field name (with_field name v fields) ≡ Some v

-- a write to a field leaves the others
abbrev pub SetsOneField : Type 0
SetsOneField = (name other : List ℕ) (v : Value) (fields : FieldList) → other ≢ name → field other (with_field name v fields) ≡ field other fields

-- a write to a field that is there keeps all names in their places
abbrev pub KeepsPlaces : Type 0
KeepsPlaces = (name : List ℕ) (v : Value) (fields : FieldList) → IsSome (field name fields) → keys_of (with_field name v fields) ≡ keys_of fields

-- a field that was taken out is gone
abbrev pub ForgetsWhatWasUnset : Type 0
ForgetsWhatWasUnset = (name : List ℕ) (fields : FieldList) → HasDistinctNames fields → field name (without_field name fields) ≡ None

-- and the others stay
abbrev pub UnsetsOneField : Type 0
UnsetsOneField = (name other : List ℕ) (fields : FieldList) → other ≢ name → field other (without_field name fields) ≡ field other fields

-- the fields that an object was given are its fields
abbrev pub HasItsFields : Type 0
HasItsFields = (objects : List Object) (o : ℕ) (fields : FieldList) → IsObject objects o → fields_at (with_fields objects o fields) o ≡ fields

-- a change of an object leaves the fields of the others, and all classes
abbrev pub ChangesOneObject : Type 0
ChangesOneObject =
    (objects : List Object) (o other : ℕ) (fields : FieldList) → IsObject objects o → 0 < other → other ≢ o
    → fields_at (with_fields objects o fields) other ≡ fields_at objects other

abbrev pub KeepsClasses : Type 0
KeepsClasses = (objects : List Object) (o other : ℕ) (fields : FieldList) → class_at (with_fields objects o fields) other ≡ class_at objects other
