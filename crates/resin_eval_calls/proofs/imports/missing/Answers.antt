use Rattle.resin_eval_channels.proofs.eval_nested_lemmas.Arms.{does_no, does_yes}
use Rattle.resin_eval_channels.proofs.meaning_lemmas.Composition.{does_give, does_loosely}
use Rattle.std.proofs.Common.{sym, ◌∙◌}
use Rattle.resin_eval_calls.proofs.imports.missing.Goals as goal

pub returns-then-is_required : goal.returns-then-is_required
returns-then-is_required c = λ f t k. does_yes _ _ _ (sym c.is_required.ensures ∙ c.if-is_required.true) (does_loosely _ f t k c.throw.ensures.acts)

pub returns : goal.returns
returns c = λ f t k. does_no _ _ _ (sym c.is_required.ensures ∙ c.if-is_required.false) (does_give _ _)
