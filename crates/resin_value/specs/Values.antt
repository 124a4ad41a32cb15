-- Values in memory are told apart by the trees that they are seen as.
use Rattle.std.specs.Prelude.{◌≡◌, ℕ, List}
use Rattle.std.proofs.Common.{refl, ap}
use Rattle.std.specs.Coded.{Coded, code_by, coded×, coded_ℕ, coded_list}
use Rattle.resin_value.specs.declared.value.Value.{Value}
use Rattle.resin_value.specs.declared.value.Value.TheVariants.{Null, Bool, Int, Text, Arr, Obj}
use Rattle.resin_value.specs.Trees.{Tree, null, boolean, integer, text, array, object, tree_code}
use Rattle.resin_value.specs.Arrays.{entries_of, entries_of-row_of}
use Rattle.resin_value.specs.Seen.{tree_of}

-- the value that is seen as a tree
abbrev pub value_of : Tree → Value
value_of null = Null
value_of (boolean b) = Bool b
value_of (integer n s) = Int n s
value_of (text t) = Text t
value_of (array r l h) = Arr (record { entries = entries_of r; largest = l; height = h })
value_of (object n) = Obj n

pub value_of-tree_of : (v : Value) → value_of (tree_of v) ≡ v
value_of-tree_of Null = refl
value_of-tree_of (Bool b) = refl
value_of-tree_of (Int n s) = refl
value_of-tree_of (Text t) = refl
value_of-tree_of (Arr a) = ap (λ es. Arr (record { entries = es; largest = a.largest; height = a.height })) (entries_of-row_of a.entries)
value_of-tree_of (Obj n) = refl

abbrev pub value_code : Coded Value
value_code = code_by Tree tree_code tree_of value_of value_of-tree_of

abbrev pub ValueList : Type 0
ValueList = List Value

-- names with their values, in order
abbrev pub FieldList : Type 0
FieldList = List (List ℕ × Value)

abbrev pub values_code : Coded ValueList
values_code = coded_list value_code

abbrev pub fields_code : Coded FieldList
fields_code = coded_list (coded× (coded_list coded_ℕ) value_code)
