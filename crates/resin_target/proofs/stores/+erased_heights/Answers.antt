use Rattle.std.proofs.Common.{ap, sym, subst, ◌∙◌, ℕ, Result, is_some}
use Rattle.resin_ops.specs.Under.scalar.declared.faults.CallStop.{CallStop}
use Rattle.resin_target.specs.Reads.{GivesOrNoMemory, on}
use Rattle.resin_target.specs.Stores.{erased, changed_at}
use Rattle.resin_target.specs.Heights.{height_of, raised_to}
use Rattle.resin_target.proofs.Indexed.{value_there, height_changed, changed_more, gives_as, not_empty}
use Rattle.resin_target.proofs.stores.+erased_heights.Goals as goal

pub height_without-returns-in-Some : goal.height_without-returns-in-Some
height_without-returns-in-Some t c =
    subst (λ (x : Result ℕ CallStop). GivesOrNoMemory x (height_of (changed_at c.args.rest.now (λ below. erased c.args.rest.now below) c.args.key.now c.args.array.now))) (sym (c.raised.ensures ∙ ap (λ h. on c.erased_height.result (raised_to h)) c.height-in-Some.ensures.value))
    (gives_as _ _ _
    (ap height_of (changed_more c.args.rest.now (λ below. erased c.args.rest.now below) c.args.key.now c.args.array.now (not_empty c.args.rest.now c.is_empty.result c.is_empty.ensures c.if-is_empty.false) (sym (ap is_some c.in-Some.ensures))))
    (height_changed c.args.key.now c.args.array.now (λ below. erased c.args.rest.now below) c.in-Some.below.now c.erased_height.result (value_there c.args.key.now c.in-Some.below.now c.args.array.now c.in-Some.ensures) c.erased_height.ensures))
