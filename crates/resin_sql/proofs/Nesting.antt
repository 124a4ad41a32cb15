-- A test, or a condition in brackets, by the room that there is for brackets.
use Rattle.std.proofs.Common.{◌≡◌, ℕ, suc, ◌-◌, Bool, true, false, List, [], Result, sym, subst}
use Rattle.resin_form.specs.Reads.{Reads}
use Rattle.resin_form.specs.declared.fault.Fault.{Fault}
use Rattle.resin_sql_words.specs.declared.cursor.Placed.{Placed}
use Rattle.resin_sql_words.specs.Forms.{under, never}
use Rattle.resin_sql_words.specs.Words.{Ended}
use Rattle.resin_sql.specs.Conditions.{Tested, atom, begun, bracketed}
use Rattle.resin_sql.specs.declared.tree.Condition.{Condition}
use Rattle.resin_sql.specs.declared.tree.Condition.TheVariants.{All}

module _ (C : Tested) (room : ℕ) (free : Bool) (ts new : List Placed) (r : Result (Ended Condition) Fault) where
  pub no_room : room ≡ 0 → Reads (under (begun C false (never (All [], false)) free) ts) r new → Reads (under (atom C room free) ts) r new
  unfolding atom
  no_room e h = subst (λ n. Reads (under (atom C n free) ts) r new) (sym e) h

  pub in_room : suc (room - 1) ≡ room → Reads (under (begun C true (bracketed (atom C (room - 1))) free) ts) r new → Reads (under (atom C room free) ts) r new
  unfolding atom
  in_room e h = subst (λ n. Reads (under (atom C n free) ts) r new) e h
