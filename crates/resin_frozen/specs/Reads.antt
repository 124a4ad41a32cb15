-- What functions that read and write policy texts ensure.
use Rattle.std.specs.Prelude.{◌≡◌, ℕ, Bool, true, false, List, ◌++◌, Option, Some, None, Result, Ok, Err}
use denote.Ref.{Bor}
use Rattle.resin_value.specs.declared.value.Value.{Value}
use Rattle.resin_value.specs.Trees.{Tree}
use Rattle.resin_value.specs.Arrays.{Array}
use Rattle.resin_value.specs.Seen.{tree_of}
use Rattle.resin_value.specs.Values.{FieldList}
use Rattle.resin_frozen.specs.Policies.{Says}
use Rattle.resin_frozen.specs.Reading.{Policy, Said, said}
use Rattle.resin_frozen.specs.declared.stop.Stop.{Stop}
use Rattle.resin_frozen.specs.declared.stop.Stop.TheVariants as s
use Rattle.resin_frozen.specs.declared.fault.FreezeFault.{FreezeFault}
use Rattle.resin_frozen.specs.declared.fault.FreezeFault.TheVariants as f

-- the value and what is left behind it, or that there is none, unless memory runs out
abbrev pub Reads : {A B : Type 0} → Option (A × B) → Result A Stop → B → Type 0
Reads out (Ok a) new = out ≡ Some (a, new)
Reads out (Err s.Form) new = out ≡ None
Reads out (Err s.Memory) new = Unit {0}

-- the same where the value is bytes that are lent
abbrev pub Lends : {B : Type 0} → Option (List ℕ × B) → Result (Bor (List ℕ)) Stop → B → Type 0
Lends out (Ok a) new = out ≡ Some (a.now, new)
Lends out (Err s.Form) new = out ≡ None
Lends out (Err s.Memory) new = Unit {0}

-- what was written behind what was there: this text, of something whole, unless it can't be stored or memory runs out
abbrev pub Writes : List ℕ → List ℕ → Bool → Type 0 → Result (Unit {0}) FreezeFault → List ℕ → Type 0
Writes old text storable whole (Ok done) new = (new ≡ old ++ text) × (storable ≡ true) × whole
Writes old text storable whole (Err f.NotStorable) new = storable ≡ false
Writes old text storable whole (Err f.Memory) new = Unit {0}

-- the value, or that there is none
abbrev pub Is : {A : Type 0} → Option A → Result A Stop → Type 0
Is out (Ok a) = out ≡ Some a
Is out (Err s.Form) = out ≡ None
Is out (Err s.Memory) = Unit {0}

-- a value, seen as a tree, and what is left behind it, or that there is none
abbrev pub ReadsValue : Option (Tree × List ℕ) → Result Value Stop → List ℕ → Type 0
ReadsValue out (Ok v) new = out ≡ Some (tree_of v, new)
ReadsValue out (Err s.Form) new = out ≡ None
ReadsValue out (Err s.Memory) new = Unit {0}

-- a class and its fields, and what is left behind them, or that there is none
abbrev pub ReadsPolicy : Option (Policy × List ℕ) → Result (Bor (List ℕ) × Array) Stop → List ℕ → Type 0
ReadsPolicy out (Ok p) new = out ≡ Some ((p.0.now, p.1.entries), new)
ReadsPolicy out (Err s.Form) new = out ≡ None
ReadsPolicy out (Err s.Memory) new = Unit {0}

-- the same with the fields as an array
abbrev pub ReadsFields : Option (Said × List ℕ) → Result (Bor (List ℕ) × Array) Stop → List ℕ → Type 0
ReadsFields out (Ok p) new = out ≡ Some ((p.0.now, p.1), new)
ReadsFields out (Err s.Form) new = out ≡ None
ReadsFields out (Err s.Memory) new = Unit {0}

-- the class that the text says and the array of its fields, unless memory runs out
abbrev pub Tells : List ℕ → Result (List ℕ × Array) Stop → Type 0
Tells text (Ok p) = said text ≡ Some p
Tells text (Err s.Form) = ⊥
Tells text (Err s.Memory) = Unit {0}

-- the policy text, or that there is none
abbrev pub Freezes : Option (List ℕ) → Result (List ℕ) FreezeFault → Type 0
Freezes out (Ok text) = out ≡ Some text
Freezes out (Err f.NotStorable) = out ≡ None
Freezes out (Err f.Memory) = Unit {0}

-- the class and the fields that the text says, unless memory runs out
abbrev pub Thaws : List ℕ → Result (List ℕ × FieldList) Stop → Type 0
Thaws text (Ok p) = Says text p.0 p.1
Thaws text (Err s.Form) = ⊥
Thaws text (Err s.Memory) = Unit {0}
