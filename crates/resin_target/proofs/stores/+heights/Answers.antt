use Rattle.std.proofs.Common.{ap, sym, subst, ◌∙◌, ℕ, Result}
use Rattle.resin_ops.specs.Under.scalar.declared.faults.CallStop.{CallStop}
use Rattle.resin_target.specs.Reads.{GivesOrNoMemory, on}
use Rattle.resin_target.specs.Stores.{stored, with_change}
use Rattle.resin_target.specs.Heights.{height_of, raised_to}
use Rattle.std.proofs.lemmas.Bool.{eqb-true}
use Rattle.resin_target.proofs.Indexed.{value_there, height_with_change, height_with_last, none_left}
use Rattle.resin_target.proofs.stores.+heights.Goals as goal

pub height_with-returns-in-Some : goal.height_with-returns-in-Some
height_with-returns-in-Some t c =
    subst (λ (x : Result ℕ CallStop). GivesOrNoMemory x (height_of (with_change c.args.index.now (λ below. stored c.args.rest.now c.args.v.now below) c.args.array.now))) (sym (c.raised-in-Some.ensures ∙ ap (λ h. on c.stored_height.result (raised_to h)) c.height-in-Some.ensures.value))
    (height_with_change c.args.index.now c.in_ok-key.key c.args.array.now (λ below. stored c.args.rest.now c.args.v.now below) c.in-Some.below.now c.stored_height.result c.in_ok-key.ensures.value
    (value_there c.in_ok-key.key c.in-Some.below.now c.args.array.now c.in-Some.ensures) c.stored_height.ensures)

pub height_with-returns-then-is_empty : goal.height_with-returns-then-is_empty
height_with-returns-then-is_empty t c =
    subst (λ (x : Result ℕ CallStop). GivesOrNoMemory x (height_of (with_change c.args.index.now (λ below. stored c.args.rest.now c.args.v.now below) c.args.array.now)))
    (sym (c.raised.ensures ∙ (λ i. raised_to (c.height.ensures.value i) (c.height_in.ensures.value i))))
    (height_with_last c.args.index.now c.in_ok-key.key c.args.array.now c.args.rest.now c.args.v.now c.in_ok-key.ensures.value (none_left c.args.rest.now (eqb-true _ _ (sym c.is_empty.ensures ∙ c.if-is_empty.true))))
