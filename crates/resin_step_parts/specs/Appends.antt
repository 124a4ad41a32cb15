-- `.=` of a variable alone (PHP manual, "String Operators"). It asks no policy: each byte keeps its set.
use Rattle.std.specs.Prelude.{ℕ, List, length, Option, None, Some, Ok}
use Rattle.resin_meaning_forms.specs.Under.value.declared.value.Value.{Value}
use Rattle.resin_meaning_forms.specs.Under.value.declared.value.Value.TheVariants.{Text}
use Rattle.resin_meaning_forms.specs.Under.value.Trees.{Tree}
use Rattle.resin_meaning_forms.specs.Under.value.Seen.{tree_of}
use Rattle.resin_meaning_forms.specs.Under.machine.Steps.{Act}
use Rattle.resin_meaning_forms.specs.Under.machine.Variables.{with_variable}
use Rattle.resin_meaning_forms.specs.Under.target.Paths.{no_postfix}
use Rattle.resin_meaning_forms.specs.Under.target.Targets.{fetch}
use Rattle.resin_meaning_forms.specs.Under.meaning.Programs.{Prog, act, ◌>>=◌}
use Rattle.resin_meaning_forms.specs.Parts.{charge_both, ◌>>◌}
use Rattle.resin_meaning_forms.specs.Operators.{concatenated}
use Rattle.resin_meaning_forms.specs.Assignments.{stored_value}

-- two values as texts, one behind the other; the texts taken are charged first
abbrev pub joint : Tree → Tree → Prog Value
joint x y = charge_both x y >> concatenated x y

-- the old value is read, the right side joined behind it, and the text stored
abbrev pub appended : List ℕ → Value → Prog Value
appended name y = do
  x ← act (fetch name no_postfix)
  v ← joint (tree_of x) (tree_of y)
  stored_value name no_postfix v

-- the length of the text that a value is, if it is one
abbrev pub text_length : Option Value → Option ℕ
text_length (Some (Text t)) = Some (length t)
text_length v = None

-- a variable gets a value, which is the answer
abbrev pub put : List ℕ → Value → Act Value
put name v m = (Ok v, with_variable name v m)
