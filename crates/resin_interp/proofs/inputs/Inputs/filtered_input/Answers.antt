use Rattle.resin_eval_calls.specs.Under.meaning_forms.Programs.{evals}
use Rattle.resin_eval_calls.proofs.eval_nested_lemmas.Exits.{does_is, does_seen_exit}
use Rattle.resin_eval_calls.proofs.meaning_lemmas.Composition.{does_give, does_next}
use Rattle.resin_interp.proofs.InputLemmas.{no_array, of_array, unbegun_input}
use Rattle.resin_interp.proofs.inputs.Inputs.filtered_input.Goals as goal

pub returns-in_err-context : goal.returns-in_err-context
returns-in_err-context g c =
    unbegun_input (evals c.args.self.now.by.now.room) c.args.name.now c.args.key.now c.args.v.now _ c.from_residual.ensures.1

pub returns-in_err-all-in-Arr : goal.returns-in_err-all-in-Arr
returns-in_err-all-in-Arr g c =
    rw c.in-Arr.is (does_is (of_array (evals c.args.self.now.by.now.room) c.args.name.now c.args.key.now c.in-Arr.a) (does_seen_exit _ _ _ _ c.from_residual-in_err-all-in-Arr.ensures.1 (rw c.in_ok-context.ensures at c.in_err-all-in-Arr.ensures)))

pub returns-in-Arr : goal.returns-in-Arr
returns-in-Arr g c =
    rw c.in-Arr.is (does_is (of_array (evals c.args.self.now.by.now.room) c.args.name.now c.args.key.now c.in-Arr.a) (does_next _ _ (rw c.in_ok-context.ensures at c.in_ok-all-in-Arr.ensures) (does_give _ _)))

pub returns : goal.returns
returns g c =
    does_is (no_array (evals c.args.self.now.by.now.room) c.args.name.now c.args.key.now c.args.v.now c.in_default.not-Arr) (rw c.in_ok-context.ensures at c.filtered_text.ensures)
