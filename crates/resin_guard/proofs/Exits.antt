-- The exit of a loop that reads a repeated form, where a turn fails.
use Rattle.std.proofs.Common.{◌≡◌, Bool, true, List, ◌∷◌, Err, sym, ◌∙◌, ap}
use Rattle.resin_form.specs.Form.{After, many}
use Rattle.resin_form.specs.Reading.{Outcome}
use Rattle.resin_form.proofs.Loops.{many_stops}
use Rattle.resin_sql_words.specs.declared.cursor.Placed.{Placed}
use Rattle.resin_sql_words.specs.Forms.{Value, rules, in_limits, under, behind}
use Rattle.resin_guard.specs.Answers.{Reads}
use Rattle.resin_guard.specs.declared.page.PageFault.{PageFault}
use Rattle.resin_guard.specs.declared.page.PageFault.TheVariants.{Syntax, Memory}
use Rattle.resin_form.specs.Form.{Own}

module _ {A : Type 0} (test : A → Placed → Bool) (F : A → Placed → After Placed ⊥ Value Own A) where
  pub fails : (outcome : Outcome Placed A) (a : A) (old : List Placed) → under (many test F a) old ≡ outcome
      → (t : Placed) (ts new : List Placed) (fault : PageFault) → old ≡ t ∷ ts → test a t ≡ true → Reads (behind (F a t) ts) (Err fault) new → Reads outcome (Err fault) new
  fails outcome a old so_far t ts new Syntax e h g = sym so_far ∙ ap (under (many test F a)) e ∙ many_stops rules in_limits 1 test F a t ts new h g
  fails outcome a old so_far t ts new Memory e h g = tt
