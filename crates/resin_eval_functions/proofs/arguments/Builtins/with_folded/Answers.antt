use Rattle.resin_eval_merges.specs.Under.meaning_forms.Programs.{evals}
use Rattle.resin_eval_functions.proofs.Places.{unfolded_argument, unfolded_value}
use Rattle.resin_eval_merges.proofs.eval_nested_lemmas.Exits.{does_is, does_seen_exit}
use Rattle.resin_eval_merges.proofs.meaning_lemmas.Composition.{does_give, does_next}
use Rattle.std.proofs.Common.{rules, w64}
use Rattle.std.proofs.lemmas.Int.{to_z-of_z}
use mir.Val.{SFits}
use Rattle.resin_eval_functions.proofs.arguments.Builtins.with_folded.Goals as goal

pub returns-in_err-set-in-Int : goal.returns-in_err-set-in-Int
returns-in_err-set-in-Int g c =
    rw (c.in-Text.is, c.in-Int.is) (does_seen_exit _ _ _ _ c.from_residual.ensures.1 (c.in_err-set-in-Int.ensures))

pub returns-in_ok-set-in-Int : goal.returns-in_ok-set-in-Int
returns-in_ok-set-in-Int g c =
    let f0 : SFits w64 c.in-Int.n = search rules in rw (c.in-Text.is, c.in-Int.is, to_z-of_z w64 c.in-Int.n f0) (does_next _ _ (c.in_ok-set-in-Int.ensures) (does_give _ _))

pub returns-in_default-value : goal.returns-in_default-value
returns-in_default-value g c =
    rw c.in-Text.is (does_is (unfolded_value (evals c.args.self.now.by.now.room) _ _ c.in_default-value.not-Int) (does_give _ _))

pub returns-in_default : goal.returns-in_default
returns-in_default g c =
    does_is (unfolded_argument (evals c.args.self.now.by.now.room) _ _ c.in_default.not-Text) (does_give _ _)
