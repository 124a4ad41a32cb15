use Rattle.std.proofs.Common.{Some, sym, ap, subst, ◌∙◌}
use Rattle.resin_step_keeping.specs.Sets.{AreFrozen}
use Rattle.resin_step_keeping.proofs.Freezes.{known_text, text_known}
use Rattle.resin_step_keeping.proofs.freezing.text_of.Goals as goal

pub returns-in-Some-clause-text : goal.returns-in-Some-clause-text
returns-in-Some-clause-text c =
    known_text c.args.m.now c.args.kept.now.entries c.args.policy c.in_ok-clone.field-0 c.requires (sym c.in-Some.ensures.value ∙ ap Some (sym c.in_ok-clone.ensures.cases))

pub returns-clause-kept : goal.returns-clause-kept
returns-clause-kept c =
    subst (AreFrozen c.args.m.now) (sym c.in_ok-keep.ensures.ok)
    (text_known c.args.m.now c.args.kept.now.entries c.args.policy c.in_ok-clone-2.field-0 c.requires (c.in_ok-text.ensures ∙ ap Some (sym c.in_ok-clone-2.ensures.cases)))
