use Rattle.std.proofs.Common.{ap}
use Rattle.resin_eval_writes.proofs.meaning_lemmas.Composition.{does_exit, does_give, leads_here, front, nothing_left}
use Rattle.resin_eval_statements.proofs.Cases.{case_ends, case_returns, case_goes}
use Rattle.resin_eval_writes.proofs.eval_nested_lemmas.Exits.{does_is}
use Rattle.resin_eval_writes.specs.Under.meaning_forms.Programs.{evals}
use Rattle.resin_eval_writes.specs.Under.meaning_forms.Statements.{run_cases}
use Rattle.resin_eval_statements.proofs.forms.Statements.run_cases.Goals as goal

pub loop-i-init : goal.loop-i-init
loop-i-init g c =
    leads_here _ _

pub returns-in_err-block : goal.returns-in_err-block
returns-in_err-block g c =
    c.loop-i.invariant.goes_on _ _ (does_is (ap (run_cases (evals c.args.self.now.by.now.room)) (front c.args.cs.now c.loop-i.i c.index-cs-i.result c.loop-i-test.true c.index-cs-i.is)) (does_exit _ _ _ c.from_residual.ensures.1 (rw (c.as_slice-statements.ensures, ← c.index-cs-i.is) at c.in_err-block.ensures)))

pub returns-in-Break : goal.returns-in-Break
returns-in-Break g c =
    c.loop-i.invariant.goes_on _ _ (does_is (ap (run_cases (evals c.args.self.now.by.now.room)) (front c.args.cs.now c.loop-i.i c.index-cs-i.result c.loop-i-test.true c.index-cs-i.is)) (case_ends (evals c.args.self.now.by.now.room) _ _ _ c.in-Break.is (rw (c.as_slice-statements.ensures, ← c.index-cs-i.is) at c.in_ok-block.ensures)))

pub returns-in-Return : goal.returns-in-Return
returns-in-Return g c =
    c.loop-i.invariant.goes_on _ _ (does_is (ap (run_cases (evals c.args.self.now.by.now.room)) (front c.args.cs.now c.loop-i.i c.index-cs-i.result c.loop-i-test.true c.index-cs-i.is)) (case_returns (evals c.args.self.now.by.now.room) _ _ _ _ c.in-Return.is (rw (c.as_slice-statements.ensures, ← c.index-cs-i.is) at c.in_ok-block.ensures)))

pub loop-i-preserved : goal.loop-i-preserved
loop-i-preserved g c =
    record { goes_on = λ r w e. c.loop-i.invariant.goes_on r w (does_is (ap (run_cases (evals c.args.self.now.by.now.room)) (front c.args.cs.now c.loop-i.i c.index-cs-i.result c.loop-i-test.true c.index-cs-i.is)) (case_goes (evals c.args.self.now.by.now.room) _ _ _ c.in-Next.is (rw (c.as_slice-statements.ensures, ← c.index-cs-i.is) at c.in_ok-block.ensures) e)) }

pub returns : goal.returns
returns g c =
    c.loop-i.invariant.goes_on _ _ (does_is (ap (run_cases (evals c.args.self.now.by.now.room)) (nothing_left c.args.cs.now c.loop-i.i c.loop-i-test.false)) (does_give _ _))
