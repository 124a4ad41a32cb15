use Rattle.resin_interp.proofs.meaning_lemmas.Composition.{does_exit, does_give, does_next}
use Rattle.resin_request.proofs.request.serve_entry.Goals as goal

pub returns-in_err-run_boot : goal.returns-in_err-run_boot
returns-in_err-run_boot g c = does_exit _ _ _ c.from_residual.ensures.1 c.in_err-run_boot.ensures

pub returns-in_err-put_inputs : goal.returns-in_err-put_inputs
returns-in_err-put_inputs g c =
    does_next _ _ c.in_ok-run_boot.ensures (does_exit _ _ _ c.from_residual-in_err-put_inputs.ensures.1 c.in_err-put_inputs.ensures)

pub returns-in_err-serve_for : goal.returns-in_err-serve_for
returns-in_err-serve_for g c =
    does_next _ _ c.in_ok-run_boot.ensures (does_next _ _ c.in_ok-put_inputs.ensures (does_exit _ _ _ c.from_residual-in_err-serve_for.ensures.1 c.in_err-serve_for.ensures))

pub returns : goal.returns
returns g c =
    does_next _ _ c.in_ok-run_boot.ensures (does_next _ _ c.in_ok-put_inputs.ensures (does_next _ _ c.in_ok-serve_for.ensures (does_give _ _)))
