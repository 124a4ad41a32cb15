-- Arrays that are made of entries, one after the other (PHP manual, "Arrays"; the height is this project's).
use Rattle.std.specs.Prelude.{ℤ, Bool, nat_le, if◌then◌else◌, List, [], ◌∷◌, map, Option, Some, None, Result, Ok, Err}
use Rattle.resin_ops.specs.Under.scalar.declared.faults.CallStop.{CallStop}
use Rattle.resin_ops.specs.Under.scalar.declared.faults.CallStop.TheVariants.{Throw, Fault, Memory}
use Rattle.resin_ops.specs.Under.scalar.declared.faults.ErrorKind.TheVariants.{Plain}
use Rattle.resin_ops.specs.Under.scalar.declared.faults.ScriptFault.TheVariants.{ArrayTooDeep}
use Rattle.resin_ops.specs.Under.value.declared.key.Key.{Key}
use Rattle.resin_ops.specs.Under.value.declared.key.Key.TheVariants.{Int, Text}
use Rattle.resin_ops.specs.Under.value.declared.value.ArrFault.{ArrFault}
use Rattle.resin_ops.specs.Under.value.declared.value.ArrFault.TheVariants.{NoNextKey, TooHigh, Memory as NoMemory}
use Rattle.resin_ops.specs.Under.value.Trees.{Tree}
use Rattle.resin_ops.specs.Under.value.Arrays.{EntryList, Array}
use Rattle.resin_ops.specs.Under.value.Changes.{next_of, put, empty}

-- goes on with a value, where there is one
abbrev pub and_then : {X Y : Type 0} → Result X CallStop → (X → Result Y CallStop) → Result Y CallStop
and_then (Ok x) rest = rest x
and_then (Err stop) rest = Err stop

-- an array of at most 100 arrays one in another, else the fault
abbrev pub low_enough : Array → Result Array CallStop
low_enough a = if nat_le a.height 100 then Ok a else Err (Fault ArrayTooDeep)

-- why nothing was put into an array, as the end of a call
abbrev pub array_stop : ArrFault → CallStop
array_stop NoNextKey = Throw Plain
array_stop TooHigh = Fault ArrayTooDeep
array_stop NoMemory = Memory

-- a value put at the next key, as by `$a[] =`: Error is thrown where there is none
abbrev pub put_next : Option ℤ → Tree → Array → Result Array CallStop
put_next None t a = Err (Throw Plain)
put_next (Some n) t a = low_enough (put (Int n) t a)

-- a value for an array, at a key or at the next one
abbrev pub Addition : Type 0
Addition = Option Key × Tree

abbrev pub added_at : Option Key → Tree → Array → Result Array CallStop
added_at None t a = put_next (next_of a.largest) t a
added_at (Some k) t a = low_enough (put k t a)

-- the array with values added in turn
abbrev pub filled_on : Array → List Addition → Result Array CallStop
filled_on a [] = Ok a
filled_on a (e ∷ es) = and_then (added_at e.0 e.1 a) (λ b. filled_on b es)

-- a new array of values added in turn
abbrev pub filled : List Addition → Result Array CallStop
filled es = filled_on empty es

-- values for the keys 0, 1, 2 and so on
abbrev pub in_order : List Tree → List Addition
in_order ts = map (λ t. (None, t)) ts

-- the key that an entry keeps in another array: integers are numbered anew unless they are kept
abbrev pub kept_key : Bool → Key → Option Key
kept_key keep (Text b) = Some (Text b)
kept_key keep (Int n) = if keep then Some (Int n) else None

abbrev pub with_kept_keys : Bool → EntryList → List Addition
with_kept_keys keep es = map (λ e. (kept_key keep e.0, e.1)) es
