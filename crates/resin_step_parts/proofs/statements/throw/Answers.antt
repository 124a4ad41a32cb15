use Rattle.resin_meaning_forms.proofs.meaning_lemmas.Composition.{does_ended, does_next, none_here}
use Rattle.resin_step_parts.proofs.Steps.{does_faulted}
use Rattle.resin_step_parts.proofs.Answered.{does_looked}
use Rattle.std.proofs.Common.{false, true}
use Rattle.resin_step_parts.proofs.statements.throw.Goals as goal

pub returns : goal.returns
returns c =
    λ f t k. does_next _ _ (does_looked _ true _ (cc (c.if-not-is_object_under.false, c.is_object_under.ensures)) f t k) (rw c.object_or_none.ensures (does_ended _ _ (none_here _)))

pub returns-then-not-is_object_under : goal.returns-then-not-is_object_under
returns-then-not-is_object_under c =
    λ f t k. does_next _ _ (does_looked _ false _ (cc (c.if-not-is_object_under.true, c.is_object_under.ensures)) f t k) (does_faulted _ _ _ c.fault.ensures f t k)
