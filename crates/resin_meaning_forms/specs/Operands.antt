-- Parts of values, as programs (what they are stands in resin_target).
use Rattle.std.specs.Prelude.{ℕ, Bool, true, false, List}
use Rattle.resin_builtin.specs.Under.value.declared.key.Key.{Key}
use Rattle.resin_builtin.specs.Under.value.declared.value.Value.{Value}
use Rattle.resin_builtin.specs.Under.value.declared.value.Value.TheVariants.{Null}
use Rattle.resin_builtin.specs.Under.value.Seen.{tree_of}
use Rattle.resin_target.specs.Under.ops.Conversions.{key_of}
use Rattle.resin_meaning_tables.specs.Under.meaning.Programs.{Prog}
use Rattle.resin_target.specs.Reads.{at_index, at_property}
use Rattle.resin_meaning_forms.specs.Parts.{computed, looked}

-- null
abbrev pub is_nothing : Value → Bool
is_nothing Null = true
is_nothing v = false

-- a value as a key of an array
abbrev pub keyed : Value → Prog Key
keyed k = computed (key_of (tree_of k))

-- `v[k]`
abbrev pub index_of : Value → Value → Prog Value
index_of v k = computed (at_index false k v)

-- `v[k]` where a value is only asked for
abbrev pub soft_index_of : Value → Value → Prog Value
soft_index_of v k = computed (at_index true k v)

-- `v->p`
abbrev pub property_of : Value → List ℕ → Prog Value
property_of v p = looked (at_property p v)
