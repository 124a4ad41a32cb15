use Rattle.std.proofs.Common.{sym, ap, ◌∙◌}
use Rattle.resin_eval_writes.proofs.meaning_lemmas.Composition.{does_next, does_exit, does_give, front, nothing_left}
use Rattle.resin_eval_writes.proofs.eval_nested_lemmas.Arms.{does_yes, does_no}
use Rattle.resin_eval_writes.proofs.eval_nested_lemmas.Exits.{does_is}
use Rattle.resin_eval_writes.specs.Under.meaning_forms.Programs.{evals}
use Rattle.resin_eval_writes.specs.Under.meaning_forms.Statements.{branches, other_branch}
use Rattle.resin_eval_statements.proofs.forms.Statements.branches.Goals as goal

pub returns-in_err-v : goal.returns-in_err-v
returns-in_err-v g c =
    c.loop-b.invariant.goes_on _ _ (does_is (ap (branches (evals c.args.self.now.by.now.room) c.args.other.now) (front c.args.bs.now c.loop-b.b-index c.b-item.result c.loop-b-test.true c.b-item.is)) (does_exit _ _ _ c.from_residual.ensures.1 (c.in_err-v.ensures.does)))

pub returns-then-truth : goal.returns-then-truth
returns-then-truth g c =
    c.loop-b.invariant.goes_on _ _ (does_is (ap (branches (evals c.args.self.now.by.now.room) c.args.other.now) (front c.args.bs.now c.loop-b.b-index c.b-item.result c.loop-b-test.true c.b-item.is)) (does_next _ _ (c.in_ok-v.ensures.does) (does_yes _ _ _ (sym c.truth.ensures ∙ c.if-truth.true) (does_is (ap (evals c.args.self.now.by.now.room).stmt (sym c.get.ensures)) c.stmt.ensures.does))))

pub loop-b-preserved : goal.loop-b-preserved
loop-b-preserved g c =
    record { goes_on = λ r w e. c.loop-b.invariant.goes_on r w (does_is (ap (branches (evals c.args.self.now.by.now.room) c.args.other.now) (front c.args.bs.now c.loop-b.b-index c.b-item.result c.loop-b-test.true c.b-item.is)) (does_next _ _ (c.in_ok-v.ensures.does) (does_no _ _ _ (sym c.truth.ensures ∙ c.if-truth.false) (e)))) }

pub returns-in-Some : goal.returns-in-Some
returns-in-Some g c =
    c.loop-b.invariant.goes_on _ _ (does_is (ap (branches (evals c.args.self.now.by.now.room) c.args.other.now) (nothing_left c.args.bs.now c.loop-b.b-index c.loop-b-test.false)) (does_is (ap (other_branch (evals c.args.self.now.by.now.room)) c.in-Some.is) (does_is (ap (evals c.args.self.now.by.now.room).stmt (sym c.get-in-Some.ensures)) c.stmt-in-Some.ensures.does)))

pub returns-in-None : goal.returns-in-None
returns-in-None g c =
    c.loop-b.invariant.goes_on _ _ (does_is (ap (branches (evals c.args.self.now.by.now.room) c.args.other.now) (nothing_left c.args.bs.now c.loop-b.b-index c.loop-b-test.false)) (does_is (ap (other_branch (evals c.args.self.now.by.now.room)) c.in-None.is) (does_give _ _)))
