use Rattle.resin_step_parts.proofs.meaning_lemmas.Composition.{does_nothing}
use Rattle.resin_step_parts.proofs.Loops.{handed_seen}
use Rattle.resin_step_parts.proofs.Steps.{fault_there}
use Rattle.resin_step_functions.proofs.Marks.{integer_unmarked, none_to_unmark, text_unmarked}
use Rattle.resin_step_parts.specs.Under.value.Seen.{tree_of}
use Rattle.std.proofs.Common.{inl, refl, rules, w64}
use Rattle.std.proofs.lemmas.Int.{to_z-of_z}
use mir.Val.{SFits}
use Rattle.resin_step_functions.proofs.policies.without_policy.Goals as goal

pub returns-in_err-without-in-Int : goal.returns-in_err-without-in-Int
returns-in_err-without-in-Int c =
    rw c.in-Int.is (λ f t k. handed_seen tree_of _ _ c.from_residual.ensures.1 (does_nothing _ (λ failing at. inl refl)))

pub returns-in_ok-without-in-Int : goal.returns-in_ok-without-in-Int
returns-in_ok-without-in-Int c =
    let fits : SFits w64 c.in-Int.n = search rules in rw (c.in-Int.is, to_z-of_z w64 c.in-Int.n fits) (integer_unmarked c.args.p c.in-Int.n c.in-Int.set _ c.args.m.now c.in_ok-without-in-Int.ensures)

pub returns-in_err-unmark-in-Text : goal.returns-in_err-unmark-in-Text
returns-in_err-unmark-in-Text c =
    rw c.in-Text.is (λ f t k. handed_seen tree_of _ _ c.from_residual-in_err-unmark-in-Text.ensures.1 (does_nothing _ (λ failing at. inl refl)))

pub returns-in_ok-unmark-in-Text : goal.returns-in_ok-unmark-in-Text
returns-in_ok-unmark-in-Text c =
    rw c.in-Text.is (text_unmarked c.args.p c.in-Text.t _ c.args.m.now c.in_ok-unmark-in-Text.ensures)

pub returns-in_default : goal.returns-in_default
returns-in_default c =
    fault_there _ c.args.m.now _ (none_to_unmark c.args.p c.args.v.now c.in_default.not-Int c.in_default.not-Text) c.fault.ensures
