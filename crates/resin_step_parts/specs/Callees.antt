-- What is known of a callee by the name that it was found by.
use Rattle.std.specs.Prelude.{◌≡◌, ℕ, List, Some}
use Rattle.resin_meaning_forms.specs.Under.builtin.Names.{builtin_named}
use Rattle.resin_meaning_forms.specs.declared.callee.Callee.{Callee}
use Rattle.resin_meaning_forms.specs.declared.callee.Callee.TheVariants.{Script, Builtin, State, Channel}

-- a builtin is the one of the name
abbrev pub IsCalled : List ℕ → Callee → Type 0
IsCalled name (Builtin b) = builtin_named name ≡ Some b
IsCalled name (Script f) = Unit {0}
IsCalled name (State f) = Unit {0}
IsCalled name (Channel f) = Unit {0}
