-- Values that are not what is asked for.
use Rattle.std.proofs.Common.{◌≡◌, refl}
use Rattle.resin_eval_nested.specs.Under.lstr.Texts.{Text as LabelledText}
use Rattle.resin_eval_nested.specs.Under.scalar.declared.faults.ScriptFault.TheVariants.{BadOperand}
use Rattle.resin_eval_nested.specs.Under.value.declared.value.Value.{Value}
use Rattle.resin_eval_nested.specs.Under.value.declared.value.Value.TheVariants.{Null, Bool as Truth, Int, Text, Arr, Obj}
use Rattle.resin_eval_nested.specs.Under.meaning_forms.Parts.{faulted}
use Rattle.resin_eval_nested.specs.Under.meaning_forms.Writes.{text_answer}

pub no_text_answer : (v : Value) → ((t : LabelledText) → v ≡ Text t → ⊥) → text_answer v ≡ faulted BadOperand
no_text_answer Null isnt = refl
no_text_answer (Truth b) isnt = refl
no_text_answer (Int n s) isnt = refl
no_text_answer (Text t) isnt = absurd (isnt t refl)
no_text_answer (Arr a) isnt = refl
no_text_answer (Obj o) isnt = refl
