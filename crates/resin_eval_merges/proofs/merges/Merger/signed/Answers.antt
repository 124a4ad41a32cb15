use Rattle.resin_eval_nested.proofs.meaning_lemmas.Composition.{does_exit, does_give, does_loosely, does_next}
use Rattle.std.proofs.Common.{rules, w64}
use Rattle.std.proofs.lemmas.Int.{to_z-of_z}
use mir.Val.{SFits}
use Rattle.resin_eval_merges.proofs.merges.Merger.signed.Goals as goal

pub returns-in_err-n : goal.returns-in_err-n
returns-in_err-n g c =
    does_exit _ _ _ c.from_residual.ensures.1 (does_loosely _ _ _ _ c.in_err-n.ensures.acts)

pub returns-in_err-set : goal.returns-in_err-set
returns-in_err-set g c =
    does_next _ _ (does_loosely _ _ _ _ c.in_ok-n.ensures.acts) (does_exit _ _ _ c.from_residual-in_err-set.ensures.1 (c.in_err-set.ensures))

pub returns : goal.returns
returns g c =
    let f0 : SFits w64 c.in_ok-n.n = search rules in rw (to_z-of_z w64 c.in_ok-n.n f0) (does_next _ _ (does_loosely _ _ _ _ c.in_ok-n.ensures.acts) (does_next _ _ (c.in_ok-set.ensures) (does_give _ _)))
