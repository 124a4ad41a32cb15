use Rattle.std.proofs.Common.{map, ◌∙◌, sym, ap, inr, refl, subst, Err}
use Rattle.resin_step_parts.specs.Under.label.Sets.{numbers}
use Rattle.resin_step_parts.specs.Under.meaning_forms.Keeping.{each_of, frozen_policy}
use Rattle.resin_step_keeping.specs.Sets.{Stores}
use Rattle.resin_step_keeping.proofs.Answers_of.{each_more, each_done}
use Rattle.resin_step_keeping.proofs.Freezes.{stores_missing, stores_as}
use Rattle.resin_step_keeping.proofs.freezing.freeze_sets.Goals as goal

pub loop-set-preserved : goal.loop-set-preserved
loop-set-preserved c = record {
  kept = c.freeze_set.ensures.kept;
  lists = each_more (λ s. each_of (map (frozen_policy c.args.m.now) (numbers s))) c.args.sets.now c.loop-set.set-index c.set-item.result c.in_ok-list.list c.loop-set.lists.items c.put.new.list.items c.loop-set-test.true c.set-item.is c.loop-set.invariant.lists
      (ap (λ ns. each_of (map (frozen_policy c.args.m.now) ns)) (sym c.as_slice.ensures.members) ∙ c.in_ok-list.ensures.texts) c.in_ok-put.ensures;
}

pub returns-in_err-list : goal.returns-in_err-list
returns-in_err-list c =
    stores_as (λ v. v.items) _ c.args.m.now.line c.in_err-list.field-0.0 _ c.from_residual.ensures.1
    (stores_missing (λ s. each_of (map (frozen_policy c.args.m.now) (numbers s))) c.args.sets.now c.loop-set.set-index c.set-item.result c.args.m.now.line c.in_err-list.field-0.0 c.loop-set-test.true c.set-item.is
    (subst (λ ns. Stores (each_of (map (frozen_policy c.args.m.now) ns)) c.args.m.now.line (Err c.in_err-list.field-0.0)) c.as_slice.ensures.members c.in_err-list.ensures.texts))

pub returns-in_err-put : goal.returns-in_err-put
returns-in_err-put c = stores_as (λ v. v.items) _ c.args.m.now.line _ _ c.from_residual-in_err-put.ensures.1 (inr refl)

pub returns : goal.returns
returns c = each_done (λ s. each_of (map (frozen_policy c.args.m.now) (numbers s))) c.args.sets.now c.loop-set.set-index c.loop-set.lists.items c.loop-set-test.false c.loop-set.invariant.lists
