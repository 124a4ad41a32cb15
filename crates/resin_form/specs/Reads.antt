-- What a function that parses ensures.
use Rattle.std.specs.Prelude.{◌≡◌, List, [], ◌∷◌, Option, Some, None, Result, Ok, Err}
use Rattle.resin_form.specs.Reading.{Outcome, Got, Stop, Deep}
use Rattle.resin_form.specs.declared.fault.Fault.{Fault}
use Rattle.resin_form.specs.declared.fault.Fault.TheVariants.{Syntax, TooDeep, Memory}

-- The outcome, unless memory ran out: the value, or the fault, and the tokens that are left.
abbrev pub Reads : {Token A : Type 0} → Outcome Token A → Result A Fault → List Token → Type 0
Reads out (Ok a) new = out ≡ Got a new
Reads out (Err Syntax) new = out ≡ Stop new
Reads out (Err TooDeep) new = out ≡ Deep new
Reads out (Err Memory) new = Unit {0}

-- the next token
abbrev pub first : {Token : Type 0} → List Token → Option Token
first [] = None
first (t ∷ ts) = Some t
