use Rattle.resin_eval_queries.proofs.eval_nested_lemmas.Arms.{does_no, does_yes}
use Rattle.resin_eval_queries.proofs.meaning_lemmas.Composition.{does_act, does_give}
use Rattle.std.proofs.Common.{sym, ◌∙◌}
use Rattle.resin_eval_channels.proofs.channels.may_run.Goals as goal

pub returns-then-only_looks : goal.returns-then-only_looks
returns-then-only_looks c =
    λ f t k. does_yes _ _ _ (sym c.only_looks.ensures ∙ c.if-only_looks.true) (does_give _ _)

pub returns : goal.returns
returns c =
    λ f t k. does_no _ _ _ (sym c.only_looks.ensures ∙ c.if-only_looks.false) (does_act _ _ _ _ c.awake.ensures.acts)
