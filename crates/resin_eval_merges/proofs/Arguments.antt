-- Functions of the runtime by the values of their arguments.
use Rattle.std.proofs.Common.{◌≡◌, refl}
use Rattle.resin_eval_nested.specs.Under.value.declared.value.Value.{Value}
use Rattle.resin_eval_nested.specs.Under.value.declared.value.Value.TheVariants.{Null, Bool as Truth, Int, Text, Arr, Obj}
use Rattle.resin_eval_nested.specs.Under.value.Seen.{tree_of}
use Rattle.resin_eval_nested.specs.Under.meaning.Programs.{give}
use Rattle.resin_eval_nested.specs.Under.meaning_forms.Parts.{Evals}
use Rattle.resin_eval_nested.specs.Under.meaning_forms.Operators.{own_set, set_of_number}
use Rattle.resin_eval_nested.proofs.Arguments.{IsNoText}

pub number_of_other : (ev : Evals) (v : Value) → IsNoText v → set_of_number ev (tree_of v) ≡ give (own_set (tree_of v))
number_of_other ev Null isnt = refl
number_of_other ev (Truth b) isnt = refl
number_of_other ev (Int n s) isnt = refl
number_of_other ev (Text t) isnt = absurd (isnt t refl)
number_of_other ev (Arr a) isnt = refl
number_of_other ev (Obj o) isnt = refl
