use Rattle.resin_eval_calls.proofs.meaning_lemmas.Composition.{does_give, does_next}
use Rattle.resin_eval_calls.proofs.eval_nested_lemmas.Exits.{does_is, does_seen_exit, does_seen_none, does_seen_unbegun}
use Rattle.resin_eval_calls.proofs.eval_nested_lemmas.Arms.{does_given}
use Rattle.resin_eval_calls.specs.Under.meaning_forms.Programs.{evals}
use Rattle.resin_eval_calls.specs.Under.value.Seen.{tree_of}
use Rattle.resin_interp.proofs.InputLemmas.{no_text}
use Rattle.std.proofs.Common.{ap}
use Rattle.resin_interp.proofs.inputs.Inputs.filtered_text.Goals as goal

pub returns-in_err-t-in-Text : goal.returns-in_err-t-in-Text
returns-in_err-t-in-Text g c =
    rw c.in-Text.is (does_seen_unbegun _ _ _ _ c.from_residual.ensures.1)

pub returns-in_err-read-in-Text : goal.returns-in_err-read-in-Text
returns-in_err-read-in-Text g c =
    rw c.in-Text.is (does_seen_exit _ _ _ _ c.from_residual-in_err-read-in-Text.ensures.1 (rw c.in_ok-t-in-Text.ensures.cases at c.in_err-read-in-Text.ensures))

pub returns-in_ok-read-in-Text : goal.returns-in_ok-read-in-Text
returns-in_ok-read-in-Text g c =
    rw c.in-Text.is (does_next _ _ (rw c.in_ok-t-in-Text.ensures.cases at c.in_ok-read-in-Text.ensures) (does_give _ _))

pub returns-in_err-clone-in_default : goal.returns-in_err-clone-in_default
returns-in_err-clone-in_default g c =
    does_is (no_text (evals c.args.self.now.by.now.room) c.args.context.now c.args.v.now c.in_default.not-Text) (does_seen_none _ _ _ c.from_residual-in_err-clone-in_default.ensures.1)

pub returns-in_ok-clone-in_default : goal.returns-in_ok-clone-in_default
returns-in_ok-clone-in_default g c =
    does_is (no_text (evals c.args.self.now.by.now.room) c.args.context.now c.args.v.now c.in_default.not-Text) (does_given _ _ (ap tree_of c.in_ok-clone-in_default.ensures.cases))
