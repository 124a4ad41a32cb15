use Rattle.std.proofs.Common.{ap, drop, ◌+◌, arith}
use Rattle.resin_eval_calls.proofs.meaning_lemmas.Composition.{does_exit, does_give, does_next, does_stop, front, leads_here, nothing_left}
use Rattle.resin_eval_calls.proofs.eval_nested_lemmas.Exits.{does_is}
use Rattle.resin_eval_calls.proofs.eval_nested_lemmas.Leaf_means.{open_expr}
use Rattle.resin_eval_calls.specs.Under.meaning_forms.Invoke.{block}
use Rattle.resin_eval_calls.specs.Under.meaning_forms.Programs.{evals}
use Rattle.resin_eval_calls.specs.Under.meaning_forms.Sources.{source}
use Rattle.resin_interp.proofs.Counts.{no_statement}
use Rattle.resin_interp.proofs.Rooms.{source_rank, statement_rank, shut, source_stopped, open_soft, open_stmt, value_stopped, asked_stopped, statement_stopped}
use Rattle.resin_interp.proofs.run.+walk.Goals as goal
use Rattle.resin_interp.proofs.run.+walk.Goals.{run_items-in-Statement+in_ok-run_statement+in-Next, run_items-in_default}

pub evaluation-returns-then-room-eq0 : goal.evaluation-returns-then-room-eq0
evaluation-returns-then-room-eq0 g t c =
    shut c.args.room c.args.what c.args.run.now.machine _ _ _ c.in_default.not-Source c.if-room-eq0.true c.fault.ensures

pub evaluation-returns-in_err-v-in-Value : goal.evaluation-returns-in_err-v-in-Value
evaluation-returns-in_err-v-in-Value g t c =
    rw c.in-Value.is (value_stopped c.args.room c.in-Value.e _ c.from_residual-in_err-v-in-Value.ensures.1 (open_expr c.args.room _ c.if-room-eq0.false c.in_err-v-in-Value.ensures.does))

pub evaluation-returns-in_ok-v-in-Value : goal.evaluation-returns-in_ok-v-in-Value
evaluation-returns-in_ok-v-in-Value g t c =
    rw c.in-Value.is (open_expr c.args.room _ c.if-room-eq0.false c.in_ok-v-in-Value.ensures.does, c.in_ok-v-in-Value.ensures.spent)

pub evaluation-returns-in_err-v-in-Asked : goal.evaluation-returns-in_err-v-in-Asked
evaluation-returns-in_err-v-in-Asked g t c =
    rw c.in-Asked.is (asked_stopped c.args.room c.in-Asked.e _ c.from_residual-in_err-v-in-Asked.ensures.1 (open_soft c.args.room _ c.if-room-eq0.false c.in_err-v-in-Asked.ensures))

pub evaluation-returns-in_ok-v-in-Asked : goal.evaluation-returns-in_ok-v-in-Asked
evaluation-returns-in_ok-v-in-Asked g t c =
    rw c.in-Asked.is (open_soft c.args.room _ c.if-room-eq0.false c.in_ok-v-in-Asked.ensures)

pub evaluation-returns-in_err-course-in-Statement : goal.evaluation-returns-in_err-course-in-Statement
evaluation-returns-in_err-course-in-Statement g t c =
    rw c.in-Statement.is (statement_stopped c.args.room c.in-Statement.s _ c.from_residual-in_err-course-in-Statement.ensures.1 (open_stmt c.args.room _ c.if-room-eq0.false c.in_err-course-in-Statement.ensures.does))

pub evaluation-returns-in_ok-course-in-Statement : goal.evaluation-returns-in_ok-course-in-Statement
evaluation-returns-in_ok-course-in-Statement g t c =
    rw c.in-Statement.is (open_stmt c.args.room _ c.if-room-eq0.false c.in_ok-course-in-Statement.ensures.does, c.in_ok-course-in-Statement.ensures.spent)

pub evaluation-returns-in_err-p : goal.evaluation-returns-in_err-p
evaluation-returns-in_err-p g t c =
    rw c.in-Source.is (source_stopped c.args.room c.in-Source.src _ c.from_residual.ensures.1 (λ le. unfold source in does_stop _ _ (c.in_err-p.ensures le _)))

pub evaluation-returns-in_err-course : goal.evaluation-returns-in_err-course
evaluation-returns-in_err-course g t c =
    rw c.in-Source.is (source_stopped c.args.room c.in-Source.src _ c.from_residual-in_err-course.ensures.1 (λ le. unfold source in does_next _ _ (c.in_ok-p.ensures le _) c.in_err-course.ensures))

pub evaluation-returns-in-Source : goal.evaluation-returns-in-Source
evaluation-returns-in-Source g t c =
    rw c.in-Source.is (λ le. unfold source in does_next _ _ (c.in_ok-p.ensures le _) c.in_ok-course.ensures)

pub evaluation-run_file-requires : goal.evaluation-run_file-requires
evaluation-run_file-requires g t c κs within =
    (omega (arith, source_rank c.args.what c.in-Source.src c.in-Source.is), (within.0, within.1))

pub run_statement-evaluation-requires : goal.run_statement-evaluation-requires
run_statement-evaluation-requires g t c κs within =
    (omega (arith, statement_rank c.args.s), (within.0, within.1))

pub run_file-returns-in_err-declare_all : goal.run_file-returns-in_err-declare_all
run_file-returns-in_err-declare_all g t c =
    does_exit _ _ _ c.from_residual.ensures.1 ((rw (c.as_slice.ensures) at c.in_err-declare_all.ensures) _ _ _)

pub run_file-returns : goal.run_file-returns
run_file-returns g t c =
    does_next _ _ ((rw (c.as_slice.ensures) at c.in_ok-declare_all.ensures) _ _ _) (rw (c.as_slice-2.ensures) at c.run_items.ensures)

pub run_items-loop-item-init : goal.run_items-loop-item-init
run_items-loop-item-init g t c =
    leads_here _ _

pub run_items-returns-in_err-run_statement : goal.run_items-returns-in_err-run_statement
run_items-returns-in_err-run_statement g t c =
    c.loop-item.invariant.goes_on _ _ (rw (front c.args.items.now c.loop-item.item-index c.item-item.result c.loop-item-test.true c.item-item.is) (rw c.in-Statement.is (does_exit _ _ _ c.from_residual.ensures.1 (c.in_err-run_statement.ensures))))

pub run_items-returns-in-Break : goal.run_items-returns-in-Break
run_items-returns-in-Break g t c =
    c.loop-item.invariant.goes_on _ _ (rw (front c.args.items.now c.loop-item.item-index c.item-item.result c.loop-item-test.true c.item-item.is) (rw c.in-Statement.is (does_next _ _ (c.in_ok-run_statement.ensures) (rw c.in-Break.is (does_give _ _)))))

pub run_items-returns-in-Continue : goal.run_items-returns-in-Continue
run_items-returns-in-Continue g t c =
    c.loop-item.invariant.goes_on _ _ (rw (front c.args.items.now c.loop-item.item-index c.item-item.result c.loop-item-test.true c.item-item.is) (rw c.in-Statement.is (does_next _ _ (c.in_ok-run_statement.ensures) (rw c.in-Continue.is (does_give _ _)))))

pub run_items-returns-in-Return : goal.run_items-returns-in-Return
run_items-returns-in-Return g t c =
    c.loop-item.invariant.goes_on _ _ (rw (front c.args.items.now c.loop-item.item-index c.item-item.result c.loop-item-test.true c.item-item.is) (rw c.in-Statement.is (does_next _ _ (c.in_ok-run_statement.ensures) (rw c.in-Return.is (does_give _ _)))))

pub run_items-loop-item-preserved : goal.run_items-loop-item-preserved
run_items-loop-item-preserved g t c =
    elim c.match-item.branch [
      | run_items-in-Statement+in_ok-run_statement+in-Next w ↦ record { goes_on = λ r u e. c.loop-item.invariant.goes_on r u (rw (front c.args.items.now c.loop-item.item-index c.item-item.result c.loop-item-test.true c.item-item.is) (rw w.in-Statement.is (does_next _ _ (w.in_ok-run_statement.ensures) (rw w.in-Next.is (rw w.run-is at e))))) }
      | run_items-in_default w ↦ record { goes_on = λ r u e. c.loop-item.invariant.goes_on r u (rw (front c.args.items.now c.loop-item.item-index c.item-item.result c.loop-item-test.true c.item-item.is) (does_is (ap (block (evals c.args.room)) (no_statement c.item-item.result (drop (c.loop-item.item-index + 1) c.args.items.now) w.in_default.not-Statement)) (rw w.run-is at e))) }
    ]

pub run_items-returns : goal.run_items-returns
run_items-returns g t c =
    c.loop-item.invariant.goes_on _ _ (rw (nothing_left c.args.items.now c.loop-item.item-index c.loop-item-test.false) (does_give _ _))
