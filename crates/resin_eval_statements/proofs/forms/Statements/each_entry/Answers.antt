use Rattle.std.proofs.Common.{ap, arith}
use Rattle.resin_eval_writes.proofs.meaning_lemmas.Composition.{does_next, does_exit, does_give, leads_here, nothing_left}
use Rattle.resin_eval_statements.proofs.Turns.{does_went, does_went_on, entry_there}
use Rattle.resin_eval_writes.proofs.eval_nested_lemmas.Exits.{does_is}
use Rattle.resin_eval_writes.specs.Under.meaning_forms.Programs.{evals}
use Rattle.resin_eval_writes.specs.Under.meaning_forms.Statements.{each_entry}
use Rattle.resin_eval_statements.proofs.forms.Statements.each_entry.Goals as goal

pub loop-i-init : goal.loop-i-init
loop-i-init g c =
    leads_here _ _

pub assign_entry-requires : goal.assign_entry-requires
assign_entry-requires g c =
    (omega (arith, c.loop-i-test.true, c.len.ensures.value))

pub returns-in_err-assign_entry : goal.returns-in_err-assign_entry
returns-in_err-assign_entry g c =
    let n = entry_there c.args.a.now.entries c.loop-i.i _ (omega (arith, c.loop-i-test.true, c.len.ensures.value)) c.in_err-assign_entry.ensures in c.loop-i.invariant.goes_on _ _ (does_is (ap (each_entry (evals c.args.self.now.by.now.room) c.args.kx.now c.args.x.now c.args.body.now) n.1) (does_exit _ _ _ c.from_residual.ensures.1 (n.2 _ _ _)))

pub returns-in_err-course : goal.returns-in_err-course
returns-in_err-course g c =
    let n = entry_there c.args.a.now.entries c.loop-i.i _ (omega (arith, c.loop-i-test.true, c.len.ensures.value)) c.in_ok-assign_entry.ensures in c.loop-i.invariant.goes_on _ _ (does_is (ap (each_entry (evals c.args.self.now.by.now.room) c.args.kx.now c.args.x.now c.args.body.now) n.1) (does_next _ _ (n.2 _ _ _) (does_exit _ _ _ c.from_residual-in_err-course.ensures.1 (c.in_err-course.ensures.does))))

pub returns-in-Some : goal.returns-in-Some
returns-in-Some g c =
    let n = entry_there c.args.a.now.entries c.loop-i.i _ (omega (arith, c.loop-i-test.true, c.len.ensures.value)) c.in_ok-assign_entry.ensures in c.loop-i.invariant.goes_on _ _ (does_is (ap (each_entry (evals c.args.self.now.by.now.room) c.args.kx.now c.args.x.now c.args.body.now) n.1) (does_next _ _ (n.2 _ _ _) (does_next _ _ (c.in_ok-course.ensures.does) (does_went _ _ (rw c.in-Some.is at c.turn_end.ensures) (does_give _ _)))))

pub loop-i-preserved : goal.loop-i-preserved
loop-i-preserved g c =
    let n = entry_there c.args.a.now.entries c.loop-i.i _ (omega (arith, c.loop-i-test.true, c.len.ensures.value)) c.in_ok-assign_entry.ensures in record { goes_on = λ r w e. c.loop-i.invariant.goes_on r w (does_is (ap (each_entry (evals c.args.self.now.by.now.room) c.args.kx.now c.args.x.now c.args.body.now) n.1) (does_next _ _ (n.2 _ _ _) (does_next _ _ (c.in_ok-course.ensures.does) (does_went_on _ _ _ c.turn_end.ensures c.in_default.not-Some (e))))) }

pub returns : goal.returns
returns g c =
    c.loop-i.invariant.goes_on _ _ (does_is (ap (each_entry (evals c.args.self.now.by.now.room) c.args.kx.now c.args.x.now c.args.body.now) (nothing_left c.args.a.now.entries c.loop-i.i (omega (arith, c.loop-i-test.false, c.len.ensures.value)))) (does_give _ _))
