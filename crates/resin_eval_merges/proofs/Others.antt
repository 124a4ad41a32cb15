-- Values that are not what is asked for.
use Rattle.std.proofs.Common.{◌≡◌, ℤ, refl}
use Rattle.resin_eval_nested.specs.Under.label.Sets.{NumberSet}
use Rattle.resin_eval_nested.specs.Under.scalar.declared.faults.ScriptFault.TheVariants.{BadOperand}
use Rattle.resin_eval_nested.specs.Under.value.declared.value.Value.{Value}
use Rattle.resin_eval_nested.specs.Under.value.declared.value.Value.TheVariants.{Null, Bool as Truth, Int, Text, Arr, Obj}
use Rattle.resin_eval_nested.specs.Under.meaning_forms.Parts.{Evals, faulted}
use Rattle.resin_eval_nested.specs.Under.meaning_forms.Assignments.{incremented, decremented}

pub no_more : (ev : Evals) (v : Value) → ((n : ℤ) (s : NumberSet) → v ≡ Int n s → ⊥) → (v ≡ Null → ⊥) → incremented ev v ≡ faulted BadOperand
no_more ev Null isnt none = absurd (none refl)
no_more ev (Truth b) isnt none = refl
no_more ev (Int n s) isnt none = absurd (isnt n s refl)
no_more ev (Text t) isnt none = refl
no_more ev (Arr a) isnt none = refl
no_more ev (Obj o) isnt none = refl

pub no_less : (ev : Evals) (v : Value) → ((n : ℤ) (s : NumberSet) → v ≡ Int n s → ⊥) → decremented ev v ≡ faulted BadOperand
no_less ev Null isnt = refl
no_less ev (Truth b) isnt = refl
no_less ev (Int n s) isnt = absurd (isnt n s refl)
no_less ev (Text t) isnt = refl
no_less ev (Arr a) isnt = refl
no_less ev (Obj o) isnt = refl
