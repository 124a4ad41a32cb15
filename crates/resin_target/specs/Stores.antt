-- What a store under indices makes of a value, what stands under them, and what is left where a key is taken out (PHP manual, "Arrays").
use Rattle.std.specs.Prelude.{◌≡◌, ℕ, nat_lt, List, [], ◌∷◌, Option, None, Some, ℤ, is_some, Result, Ok, Err, if◌then◌else◌}
use Rattle.resin_ops.specs.Under.scalar.declared.faults.ScriptFault.TheVariants.{BadOperand, ArrayTooDeep}
use Rattle.resin_ops.specs.Under.scalar.declared.faults.CallStop.{CallStop}
use Rattle.resin_ops.specs.Under.scalar.declared.faults.CallStop.TheVariants.{Throw, Fault as CallFault}
use Rattle.resin_ops.specs.Under.scalar.declared.faults.ErrorKind.TheVariants.{Plain}
use Rattle.resin_ops.specs.Under.value.declared.key.Key.{Key}
use Rattle.resin_ops.specs.Under.value.declared.key.Key.TheVariants.{Int as IntKey}
use Rattle.resin_ops.specs.Under.value.declared.value.Value.{Value}
use Rattle.resin_ops.specs.Under.value.declared.value.Value.TheVariants.{Null, Bool as Truth, Int, Text, Arr, Obj}
use Rattle.resin_ops.specs.Under.value.Seen.{tree_of}
use Rattle.resin_ops.specs.Under.value.Arrays.{Array}
use Rattle.resin_ops.specs.Under.value.Changes.{lookup, put, without, raised, height_in, next_of, empty}
use Rattle.resin_ops.specs.Conversions.{key_of}
use Rattle.resin_target.specs.declared.path.Index.{Index}
use Rattle.resin_target.specs.declared.path.Index.TheVariants.{At, Next}
use Rattle.resin_target.specs.Reads.{on, value_at}

-- goes on with an array; under null there is none, and another kind has no index
abbrev pub on_array : {A : Type 0} → Value → Result A CallStop → (Array → Result A CallStop) → Result A CallStop
on_array Null none f = none
on_array (Arr a) none f = f a
on_array (Truth b) none f = Err (CallFault BadOperand)
on_array (Int n s) none f = Err (CallFault BadOperand)
on_array (Text t) none f = Err (CallFault BadOperand)
on_array (Obj o) none f = Err (CallFault BadOperand)

-- the key of `[]`: an array whose largest integer key is the greatest integer has none, which is an Error
abbrev pub next_key : Option ℤ → Result Key CallStop
next_key None = Err (Throw Plain)
next_key (Some n) = Ok (IntKey n)

-- the key that an index means in an array
abbrev pub key_in : Index → Array → Result Key CallStop
key_in (At e) a = key_of (tree_of e)
key_in Next a = next_key (next_of a.largest)

-- the array with a value put at a key; no array may be more than 100 high
abbrev pub put_in : Key → Value → Array → Result Value CallStop
put_in k v a = if nat_lt 100 (raised a.height (tree_of v)) then Err (CallFault ArrayTooDeep) else Ok (Arr (put k (tree_of v) a))

-- an array in which the value at an index changes
abbrev pub with_change : Index → (Value → Result Value CallStop) → Array → Result Value CallStop
with_change i change a = on (key_in i a) (λ k. on (change (value_at k a)) (λ below. put_in k below a))

-- what stands here once v is stored under these indices: null becomes an array
abbrev pub stored : List Index → Value → Value → Result Value CallStop
stored [] v here = Ok v
stored (i ∷ is) v here = on (on_array here (Ok empty) Ok) (with_change i (λ below. stored is v below))

-- what stands under these indices; nothing stands under null, nor at `[]`
abbrev pub found : List Index → Value → Result Value CallStop
found [] here = Ok here
found (i ∷ is) here = on_array here (Ok Null) (λ a. on (key_in i a) (λ k. found is (value_at k a)))

-- an array in which a key goes, or in which the value at the key changes, if there is one
abbrev pub changed_at : List Index → (Value → Result Value CallStop) → Key → Array → Result Value CallStop
changed_at [] change k a = Ok (Arr (without k a))
changed_at (i ∷ is) change k a = if is_some (lookup k a.entries) then on (change (value_at k a)) (λ below. put_in k below a) else Ok (Arr a)

-- what stands here once the key under these indices is taken out: where it isn't there, and under null, nothing changes
abbrev pub erased : List Index → Value → Result Value CallStop
erased [] here = Ok here
erased (i ∷ is) here = on_array here (Ok Null) (λ a. on (key_in i a) (λ k. changed_at is (λ below. erased is below) k a))
