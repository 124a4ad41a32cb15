-- Values that are not what is asked for.
use Rattle.std.proofs.Common.{◌≡◌, ℕ, ℤ, List, [], refl}
use Rattle.resin_eval_channels.specs.Under.label.Sets.{NumberSet}
use Rattle.resin_eval_channels.specs.Under.lstr.Texts.{Text as LabelledText}
use Rattle.resin_eval_channels.specs.Under.scalar.declared.faults.ScriptFault.TheVariants.{BadOperand}
use Rattle.resin_eval_channels.specs.Under.value.Arrays.{Array}
use Rattle.resin_eval_channels.specs.Under.value.Seen.{tree_of}
use Rattle.resin_eval_channels.specs.Under.value.Trees.{Tree}
use Rattle.resin_eval_channels.specs.Under.meaning.Programs.{give}
use Rattle.resin_eval_channels.specs.Under.meaning_forms.Functions.{behind_format}
use Rattle.resin_eval_channels.specs.Under.value.declared.value.Value.{Value}
use Rattle.resin_eval_channels.specs.Under.value.declared.value.Value.TheVariants.{Null, Bool as Truth, Int, Text, Arr, Obj}
use Rattle.resin_eval_channels.specs.Under.meaning_forms.Parts.{Evals, faulted}
use Rattle.resin_eval_channels.specs.Under.meaning_forms.Writes.{text_answer}
use Rattle.resin_eval_channels.specs.Under.meaning_forms.Calls.{array_answer}
use Rattle.resin_eval_channels.specs.Under.meaning_forms.Assignments.{incremented, decremented}

pub no_array_answer : (v : Value) → ((a : Array) → v ≡ Arr a → ⊥) → array_answer v ≡ faulted BadOperand
no_array_answer Null isnt = refl
no_array_answer (Truth b) isnt = refl
no_array_answer (Int n s) isnt = refl
no_array_answer (Text t) isnt = refl
no_array_answer (Arr a) isnt = absurd (isnt a refl)
no_array_answer (Obj o) isnt = refl
