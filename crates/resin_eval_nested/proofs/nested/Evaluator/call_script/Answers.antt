use Rattle.resin_eval_nested.proofs.Exits.{does_unopened}
use Rattle.resin_step_objects.proofs.meaning_lemmas.Enclosures.{call_is_open, does_framed}
use Rattle.std.proofs.Common.{arith}
use Rattle.resin_eval_nested.proofs.nested.Evaluator.call_script.Goals as goal

pub returns-in_err-was : goal.returns-in_err-was
returns-in_err-was g c =
    does_unopened _ _ _ _ _ c.from_residual.ensures.1 c.in_err-was.ensures.err

pub leave-requires : goal.leave-requires
leave-requires g c =
    let e = call_is_open _ _ c.args.run.now.machine _ _ c.in_ok-was.ensures.ok.1 c.script_body-end.ensures in omega (arith, e)

pub returns : goal.returns
returns g c =
    does_framed _ _ _ _ _ _ _ c.in_ok-was.ensures.ok.1 c.in_ok-was.ensures.ok.0 c.leave.ensures c.script_body-end.ensures
