-- What values and arrays in memory are seen as.
use Rattle.std.specs.Prelude.{List, map}
use Rattle.resin_value.specs.declared.key.Key.{Key}
use Rattle.resin_value.specs.declared.value.Body.{Body}
use Rattle.resin_value.specs.declared.value.Entry.{Entry}
use Rattle.resin_value.specs.declared.value.Value.{Value}
use Rattle.resin_value.specs.declared.value.Value.TheVariants.{Null, Bool, Int, Text, Arr, Obj}
use Rattle.resin_value.specs.Trees.{Tree, null, boolean, integer, text, array, object}
use Rattle.resin_value.specs.Arrays.{EntryList, Array, row_of}

abbrev pub tree_of : Value → Tree
tree_of Null = null
tree_of (Bool b) = boolean b
tree_of (Int n s) = integer n s
tree_of (Text t) = text t
tree_of (Arr a) = array (row_of a.entries) a.largest a.height
tree_of (Obj n) = object n

abbrev pub trees_of : List Value → List Tree
trees_of vs = map tree_of vs

-- a key with the value at it
abbrev pub pair_of : Entry → Key × Tree
pair_of e = (e.key, tree_of e.value)

abbrev pub pairs_of : List Entry → EntryList
pairs_of es = map pair_of es

abbrev pub keys_of : List Entry → List Key
keys_of es = map (λ e. e.key) es

-- what the body of an array is seen as
abbrev pub seen : Body → Array
seen b = record { entries = b.entries; largest = b.largest; height = b.height }
