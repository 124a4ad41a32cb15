use Rattle.std.proofs.Common.{ap, arith, Err, List, refl, sym, ◌∙◌}
use Rattle.resin_eval_writes.specs.Under.base.declared.cell.Cell.{Cell}
use Rattle.resin_eval_writes.specs.Under.meaning_forms.Totals.{item_or_fault}
use Rattle.resin_eval_writes.specs.Under.meaning_tables.Under.sql_more.Values.{item_value}
use Rattle.resin_eval_writes.proofs.eval_nested_lemmas.Arms.{does_faulted}
use Rattle.resin_eval_writes.proofs.eval_nested_lemmas.Exits.{does_is}
use Rattle.resin_eval_writes.proofs.meaning_lemmas.Composition.{does_give}
use Rattle.resin_eval_queries.proofs.TotalLemmas.{item_is, item_lost, item_overflows, item_too_long}
use Rattle.resin_eval_queries.proofs.totals.value_of.Goals as goal

pub returns-then-chosen-gt-MOST : goal.returns-then-chosen-gt-MOST
returns-then-chosen-gt-MOST c = λ f t k. item_lost _ _ refl

pub returns-in_err-values : goal.returns-in_err-values
returns-in_err-values c = λ f t k. item_lost _ _ c.from_residual.ensures.1

pub item_value-requires : goal.item_value-requires
item_value-requires c = omega (arith, c.if-chosen-gt-MOST.false)

pub returns-in-Ok : goal.returns-in-Ok
returns-in-Ok c =
    λ f t k. does_is (ap (λ (cs : List Cell). item_or_fault (item_value c.args.item.now c.args.chosen cs)) (sym (c.as_slice.ensures.value ∙ c.in_ok-values.ensures)) ∙ item_is _ _ _ c.in-Ok.ensures refl) (does_give _ _)

pub returns-in-Err-IntegerOverflow : goal.returns-in-Err-IntegerOverflow
returns-in-Err-IntegerOverflow c =
    λ f t k. does_is (ap (λ (cs : List Cell). item_or_fault (item_value c.args.item.now c.args.chosen cs)) (sym (c.as_slice.ensures.value ∙ c.in_ok-values.ensures)) ∙ item_overflows _ _ c.in-Err-IntegerOverflow.ensures (ap Err c.in-Err-IntegerOverflow.field-0-is)) (does_faulted _ _ c.fault.ensures)

pub returns-in-Err-TextTooLong : goal.returns-in-Err-TextTooLong
returns-in-Err-TextTooLong c =
    λ f t k. does_is (ap (λ (cs : List Cell). item_or_fault (item_value c.args.item.now c.args.chosen cs)) (sym (c.as_slice.ensures.value ∙ c.in_ok-values.ensures)) ∙ item_too_long _ _ c.in-Err-TextTooLong.ensures (ap Err c.in-Err-TextTooLong.field-0-is)) (does_faulted _ _ c.fault-in-Err-TextTooLong.ensures)

pub returns : goal.returns
returns c = λ f t k. item_lost _ _ refl
