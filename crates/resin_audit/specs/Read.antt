-- What functions that read a file ensure: they read what the reading of a list of bytes gives, unless memory runs out.
use Rattle.std.specs.Prelude.{◌≡◌, ℕ, List, [], ◌∷◌, Option, Some, None, Result, Ok, Err, option_map}
use denote.Ref.{Bor}
use Rattle.resin_audit.specs.declared.stop.Stop.{Stop}
use Rattle.resin_audit.specs.declared.stop.Stop.TheVariants.{Form, Memory}

-- the value and what is left behind it, or that there is none
abbrev pub Reads : {A B : Type 0} → Option (A × B) → Result A Stop → B → Type 0
Reads out (Ok a) new = out ≡ Some (a, new)
Reads out (Err Form) new = out ≡ None
Reads out (Err Memory) new = Unit {0}

-- the value, or that there is none
abbrev pub Gives : {A : Type 0} → Option A → Result A Stop → Type 0
Gives out (Ok a) = out ≡ Some a
Gives out (Err Form) = out ≡ None
Gives out (Err Memory) = Unit {0}

-- what is there now, or that it can't be
abbrev pub Becomes : {A : Type 0} → Option A → Result (Unit {0}) Stop → A → Type 0
Becomes out (Ok done) new = out ≡ Some new
Becomes out (Err Form) new = out ≡ None
Becomes out (Err Memory) new = Unit {0}

-- bytes were taken, and what is left behind them
abbrev pub Takes : {B : Type 0} → Option (List ℕ × B) → Option (Bor (List ℕ)) → B → Type 0
Takes out (Some taken) new = out ≡ Some (taken.now, new)
Takes out None new = out ≡ None

-- a field was taken as something, and what is left behind it
abbrev pub TakesField : {A B : Type 0} → Option (A × B) → Option A → B → Type 0
TakesField out (Some a) new = out ≡ Some (a, new)
TakesField out None new = out ≡ None

-- the next field was taken
abbrev pub TakesNext : List (List ℕ) → Option (Bor (List ℕ)) → List (List ℕ) → Type 0
TakesNext old (Some field) new = old ≡ field.now ∷ new
TakesNext old None new = old ≡ []

-- the field itself, where it is one of the kind
abbrev pub NamesField : Option (List ℕ) → Option (Bor (List ℕ)) → Type 0
NamesField out (Some field) = out ≡ Some field.now
NamesField out None = out ≡ None

-- bytes were passed
abbrev pub Passes : Option (List ℕ × List ℕ) → Option (Unit {0}) → List ℕ → Type 0
Passes out (Some done) new = option_map (λ p. p.1) out ≡ Some new
Passes out None new = out ≡ None
