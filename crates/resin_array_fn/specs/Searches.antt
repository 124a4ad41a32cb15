-- Searches in arrays (PHP manual, "in_array" and "array_key_exists").
use Rattle.std.specs.Prelude.{ℕ, Bool, true, false, is_some, [], ◌∷◌, Result, Ok, Err}
use Rattle.resin_ops.specs.Under.scalar.declared.faults.CallStop.{CallStop}
use Rattle.resin_ops.specs.Under.scalar.declared.faults.CallStop.TheVariants.{Fault}
use Rattle.resin_ops.specs.Under.scalar.declared.faults.ScriptFault.TheVariants.{FuelSpent, FloatNeeded, BadOperand, ObjectComparison}
use Rattle.resin_ops.specs.Under.value.declared.compare.CompareFault.{CompareFault}
use Rattle.resin_ops.specs.Under.value.declared.compare.CompareFault.TheVariants.{Object, Operand, Float, Spent as NoTick}
use Rattle.resin_ops.specs.Under.value.Trees.{Tree}
use Rattle.resin_ops.specs.Under.value.Arrays.{EntryList, Array}
use Rattle.resin_ops.specs.Under.value.Changes.{lookup}
use Rattle.resin_ops.specs.Under.value.Compare.{Charged, equal_trees, identical_trees}
use Rattle.resin_ops.specs.Conversions.{key_of}
use Rattle.resin_array_fn.specs.Filled.{and_then}

-- the fault of a comparison, as the end of a call
abbrev pub compare_stop : CompareFault → CallStop
compare_stop Object = Fault ObjectComparison
compare_stop Operand = Fault BadOperand
compare_stop Float = Fault FloatNeeded
compare_stop NoTick = Fault FuelSpent

-- the answer of a comparison with its fault as the end of a call
abbrev pub stopping : {E : Type 0} → (E → CallStop) → Result Bool E → Result Bool CallStop
stopping why (Ok b) = Ok b
stopping why (Err e) = Err (why e)

-- whether a value is another one, by `===` where the search is strict, else by `==`, and the ticks that are left
abbrev pub fits : Bool → Tree → Tree → ℕ → Charged CallStop
fits true v t n = let r = identical_trees v t n in (stopping (λ _. Fault FuelSpent) r.0, r.1)
fits false v t n = let r = equal_trees v t n in (stopping compare_stop r.0, r.1)

-- goes on with the ticks that are left, where nothing was found
abbrev pub or_on : Result Bool CallStop → ℕ → (ℕ → Charged CallStop) → Charged CallStop
or_on (Ok false) n rest = rest n
or_on (Ok true) n rest = (Ok true, n)
or_on (Err stop) n rest = (Err stop, n)

abbrev pub or_else : Charged CallStop → (ℕ → Charged CallStop) → Charged CallStop
or_else first rest = or_on first.0 first.1 rest

-- whether the values of entries hold one, with so many ticks: the value that is searched stands on the left, and the first that fits ends the search
abbrev pub holds : Bool → Tree → EntryList → ℕ → Charged CallStop
holds strict v [] n = (Ok false, n)
holds strict v (e ∷ es) n = or_else (fits strict v e.1 n) (λ m. holds strict v es m)

abbrev pub in_array : Tree → Array → Bool → ℕ → Charged CallStop
in_array v a strict n = holds strict v a.entries n

-- whether an entry has the key that a value stands for
abbrev pub array_key_exists : Tree → Array → Result Bool CallStop
array_key_exists t a = and_then (key_of t) (λ k. Ok (is_some (lookup k a.entries)))
