-- The value of an item, by what was computed.
use Rattle.std.proofs.Common.{◌≡◌, Result, Ok, Err, IsErrAnd, ◌⊎◌, inl, inr, refl, sym, ap, ◌∙◌}
use Rattle.resin_eval_writes.specs.Under.base.declared.cell.Cell.{Cell}
use Rattle.resin_eval_writes.specs.Under.machine.declared.stop.Stop.{Stop}
use Rattle.resin_eval_writes.specs.Under.machine.declared.stop.Stop.TheVariants.{Memory}
use Rattle.resin_eval_writes.specs.Under.machine.Steps.{faults}
use Rattle.resin_eval_writes.specs.Under.meaning.Programs.{give}
use Rattle.resin_eval_writes.specs.Under.meaning.Runs.{World, Does}
use Rattle.resin_eval_writes.specs.Under.meaning_forms.Parts.{faulted}
use Rattle.resin_eval_writes.specs.Under.meaning_forms.Totals.{item_or_fault}
use Rattle.resin_eval_writes.specs.Under.meaning_tables.Under.sql_more.declared.values.TotalFault.{TotalFault}
use Rattle.resin_eval_writes.specs.Under.meaning_tables.Under.sql_more.declared.values.TotalFault.TheVariants as fault
use Rattle.resin_eval_writes.specs.Under.scalar.declared.faults.ScriptFault.TheVariants.{IntegerOverflow, TextTooLong}
use Rattle.resin_eval_writes.proofs.meaning_lemmas.Composition.{does_ended, none_here}
use Rattle.resin_eval_writes.proofs.step_parts_lemmas.Steps.{does_lost_act, does_lost_give}
use Rattle.std.proofs.lemmas.Result.{err_from_is_err_and}

-- want of memory before it
pub item_lost : (x : Result Cell TotalFault) {w : World} (r : Result Cell Stop) → IsErrAnd r (λ e. e ≡ Memory) → Does (item_or_fault x) w r w
item_lost (Ok v) r h = does_lost_give v r h
item_lost (Err fault.IntegerOverflow) r h = does_lost_act (faults IntegerOverflow) r h
item_lost (Err fault.TextTooLong) r h = does_lost_act (faults TextTooLong) r h
item_lost (Err fault.Memory) {w = w} r h = let e = err_from_is_err_and r h in rw (e.1, e.2) (does_ended (Err Memory) w (none_here w))

-- what was computed is what the item comes to, unless memory ran out
pub item_is : (x y : Result Cell TotalFault) (v : Cell) → (x ≡ y) ⊎ (x ≡ Err fault.Memory) → x ≡ Ok v → item_or_fault y ≡ give v
item_is x y v (inl e) is = ap item_or_fault (sym e ∙ is)
item_is x y v (inr e) is = absurd (cc)

pub item_overflows : (x y : Result Cell TotalFault) → (x ≡ y) ⊎ (x ≡ Err fault.Memory) → x ≡ Err fault.IntegerOverflow → item_or_fault y ≡ faulted IntegerOverflow
item_overflows x y (inl e) is = ap item_or_fault (sym e ∙ is)
item_overflows x y (inr e) is = absurd (cc)

pub item_too_long : (x y : Result Cell TotalFault) → (x ≡ y) ⊎ (x ≡ Err fault.Memory) → x ≡ Err fault.TextTooLong → item_or_fault y ≡ faulted TextTooLong
item_too_long x y (inl e) is = ap item_or_fault (sym e ∙ is)
item_too_long x y (inr e) is = absurd (cc)
