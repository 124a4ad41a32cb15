-- What functions ensure that freeze the policies of a text, or make sets of objects.
use Rattle.std.specs.Prelude.{◌≡◌, ◌⊎◌, ℕ, Bool, true, List, [], ◌∷◌, ◌++◌, length, drop, map, slice_index_or, Option, None, Some, Result, Ok, Err}
use Rattle.std.specs.List.{list_all, zip}
use Rattle.resin_step_parts.specs.Under.label.Sets.{NumberSet, set_of as labels_of}
use Rattle.resin_step_parts.specs.Under.lstr.Texts.{Text as LabelledText}
use Rattle.resin_step_parts.specs.Under.scalar.declared.faults.ScriptFault.TheVariants.{NotStorable}
use Rattle.resin_step_parts.specs.Under.machine.declared.stop.Stop.{Stop}
use Rattle.resin_step_parts.specs.Under.machine.declared.stop.Stop.TheVariants.{Fault, Memory}
use Rattle.resin_step_parts.specs.Under.machine.State.{State}
use Rattle.resin_step_parts.specs.Under.meaning_forms.Keeping.{frozen_policy}

-- what holds of the set of each byte holds of each of these sets
abbrev pub Covers : List NumberSet → List NumberSet → Type 0
Covers bytes sets = (test : NumberSet → Bool) → list_all test bytes ≡ true → list_all test sets ≡ true

-- the value, or the fault NotStorable at this line where there is none, unless memory runs out
abbrev pub Stores : {A : Type 0} → Option A → ℕ → Result A Stop → Type 0
Stores out line (Ok a) = out ≡ Some a
Stores out line (Err s) = ((s ≡ Fault NotStorable line) × (out ≡ None)) ⊎ (s ≡ Memory)

-- each policy is beside its policy text
abbrev pub AreFrozen : State → List (ℕ × List ℕ) → Type 0
AreFrozen m [] = Unit {0}
AreFrozen m (e ∷ es) = (frozen_policy m e.0 ≡ Some e.1) × AreFrozen m es

-- the objects at places
abbrev pub objects_at : List ℕ → List ℕ → List ℕ
objects_at objects places = map (λ place. slice_index_or objects place 0) places

-- the set of the objects at places
abbrev pub labels_at : List ℕ → List ℕ → NumberSet
labels_at objects places = labels_of (objects_at objects places)

-- one text came of another by bytes that carry these sets: those behind as many as were there, and what is behind them is left
abbrev pub TakesRun : List ℕ → List NumberSet → LabelledText → LabelledText → Type 0
TakesRun bytes run old new = (more : List NumberSet) → new ++ zip (drop (length new) bytes) more ≡ old ++ zip (drop (length old) bytes) (run ++ more)
