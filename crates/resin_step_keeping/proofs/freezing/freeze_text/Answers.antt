use Rattle.std.proofs.Common.{sym, ap, ◌∙◌, map}
use Rattle.resin_shadow.specs.Runs.{set_of}
use Rattle.resin_shadow.specs.Parts.{spelled_by}
use Rattle.resin_step_parts.proofs.meaning_lemmas.Composition.{does_unbegun_exit}
use Rattle.resin_step_keeping.proofs.Freezes.{marks_frozen, marks_missing, text_freezes, text_unfrozen}
use Rattle.resin_step_keeping.proofs.freezing.freeze_text.Goals as goal

pub returns-in_err-parts : goal.returns-in_err-parts
returns-in_err-parts c = λ f u k. does_unbegun_exit _ _ _ c.from_residual.ensures.1

pub returns-in_err-lists : goal.returns-in_err-lists
returns-in_err-lists c =
    text_unfrozen c.args.m.now c.args.t.now _ c.in_err-lists.field-0.0 _ c.in_err-lists.ensures
    (λ none. marks_missing c.args.m.now c.args.t.now c.in_ok-parts.parts.sets.keys c.in_ok-parts.parts.runs.items c.in_ok-parts.ensures.spelled c.in_ok-parts.ensures.covered (rw c.as_slice-sets.ensures.keys at none)) c.from_residual-in_err-lists.ensures.1

pub returns-in_err-runs : goal.returns-in_err-runs
returns-in_err-runs c = λ f u k. does_unbegun_exit _ _ _ c.from_residual-in_err-runs.ensures.1

pub returns : goal.returns
returns c =
    text_freezes c.args.m.now c.args.t.now c.in_ok-runs.runs
    (marks_frozen c.args.m.now c.args.t.now c.in_ok-parts.parts.sets.keys c.in_ok-parts.parts.runs.items c.in_ok-parts.ensures.spelled c.in_ok-lists.lists.items c.in_ok-runs.runs (rw c.as_slice-sets.ensures.keys at c.in_ok-lists.ensures) (rw (c.as_slice-texts.ensures.value, c.as_slice-places.ensures.value) at c.in_ok-runs.ensures))
