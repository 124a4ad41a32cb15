use Rattle.std.proofs.Common.{refl, subst}
use Rattle.std.specs.Prelude.{◌≡◌, IfOk}
use Rattle.resin_eval_nested.proofs.label_lemmas.Members.{if_copied}
use Rattle.resin_eval_merges.proofs.Many_sets.{halves, one_set}
use Rattle.resin_eval_merges.proofs.unions.+union_of.Goals as goal

pub returns-in-len1 : goal.returns-in-len1
returns-in-len1 t c = if_copied c.clone.result _ (one_set c.args.sets.now c.only-item.result c.in-len1.len_at_least c.in-len1.len_below c.only-item.is) c.clone.ensures.cases

pub returns-in_ok-behind-in_default : goal.returns-in_ok-behind-in_default
returns-in_ok-behind-in_default t c =
    subst (λ x. IfOk c.union.result (λ s. s ≡ x)) (halves _ c.args.sets.now _ _ _ _ refl refl c.in_ok-front-in_default.ensures c.in_ok-behind-in_default.ensures) c.union.ensures
