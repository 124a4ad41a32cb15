use Rattle.std.proofs.Common.{sym, ap, suc}
use Rattle.resin_eval_writes.proofs.meaning_lemmas.Composition.{does_next, does_exit, does_give}
use Rattle.resin_eval_statements.proofs.Turns.{does_while, does_for, does_went, does_foreach_other}
use Rattle.resin_eval_writes.proofs.eval_nested_lemmas.Exits.{does_is}
use Rattle.resin_eval_statements.proofs.Shapes.{while_means, do_while_means, for_means, foreach_means}
use Rattle.resin_eval_writes.specs.Under.meaning_forms.Programs.{evals}
use Rattle.resin_eval_writes.specs.Under.meaning_forms.Statements.{run_all, while_turns, foreach}
use Rattle.resin_eval_statements.proofs.forms.Statements.looped.Goals as goal

pub returns-in-While : goal.returns-in-While
returns-in-While g c =
    does_is (while_means (evals c.args.self.now.by.now.room) c.args.l.now _ _ c.in-While.is) (does_while (evals c.args.self.now.by.now.room) c.in-While.e c.in-While.body (does_is (ap (while_turns (suc c.args.run.now.machine.ticks) (evals c.args.self.now.by.now.room) c.in-While.e) (sym c.get.ensures)) c.while_loop.ensures))

pub returns-in_err-course-in-DoWhile : goal.returns-in_err-course-in-DoWhile
returns-in_err-course-in-DoWhile g c =
    does_is (do_while_means (evals c.args.self.now.by.now.room) c.args.l.now _ _ c.in-DoWhile.is) (does_exit _ _ _ c.from_residual.ensures.1 (does_is (ap (evals c.args.self.now.by.now.room).stmt (sym c.get-in-DoWhile.ensures)) c.in_err-course-in-DoWhile.ensures.does))

pub returns-in-Some : goal.returns-in-Some
returns-in-Some g c =
    does_is (do_while_means (evals c.args.self.now.by.now.room) c.args.l.now _ _ c.in-DoWhile.is) (does_next _ _ (does_is (ap (evals c.args.self.now.by.now.room).stmt (sym c.get-in-DoWhile.ensures)) c.in_ok-course-in-DoWhile.ensures.does) (does_went _ _ (rw c.in-Some.is at c.turn_end.ensures) (does_give _ _)))

pub returns-in-DoWhile : goal.returns-in-DoWhile
returns-in-DoWhile g c =
    does_is (do_while_means (evals c.args.self.now.by.now.room) c.args.l.now _ _ c.in-DoWhile.is) (does_next _ _ (does_is (ap (evals c.args.self.now.by.now.room).stmt (sym c.get-in-DoWhile.ensures)) c.in_ok-course-in-DoWhile.ensures.does) (does_went _ _ (rw c.in-None.is at c.turn_end.ensures) (does_while (evals c.args.self.now.by.now.room) c.in-DoWhile.e c.in-DoWhile.body (does_is (ap (while_turns (suc c.stmt.new.run.machine.ticks) (evals c.args.self.now.by.now.room) c.in-DoWhile.e) (sym c.get-in-None.ensures)) c.while_loop-in-None.ensures))))

pub returns-in_err-run_all-in-For : goal.returns-in_err-run_all-in-For
returns-in_err-run_all-in-For g c =
    does_is (for_means (evals c.args.self.now.by.now.room) c.args.l.now _ _ _ _ c.in-For.is) (does_exit _ _ _ c.from_residual-in_err-run_all-in-For.ensures.1 (does_is (ap (run_all (evals c.args.self.now.by.now.room)) (sym c.as_slice.ensures)) c.in_err-run_all-in-For.ensures))

pub returns-in-For : goal.returns-in-For
returns-in-For g c =
    does_is (for_means (evals c.args.self.now.by.now.room) c.args.l.now _ _ _ _ c.in-For.is) (does_next _ _ (does_is (ap (run_all (evals c.args.self.now.by.now.room)) (sym c.as_slice.ensures)) c.in_ok-run_all-in-For.ensures) (does_for (evals c.args.self.now.by.now.room) c.in-For.tests c.in-For.after c.in-For.body (rw (c.as_slice-in-For.ensures, c.as_slice-in-For-2.ensures, c.get-in-For.ensures) at c.for_loop.ensures)))

pub returns-in_err-v-in-Foreach : goal.returns-in_err-v-in-Foreach
returns-in_err-v-in-Foreach g c =
    does_is (foreach_means (evals c.args.self.now.by.now.room) c.args.l.now _ _ _ _ c.in-Foreach.is) (does_exit _ _ _ c.from_residual-in_err-v-in-Foreach.ensures.1 (c.in_err-v-in-Foreach.ensures.does))

pub returns-in-Arr : goal.returns-in-Arr
returns-in-Arr g c =
    does_is (foreach_means (evals c.args.self.now.by.now.room) c.args.l.now _ _ _ _ c.in-Foreach.is) (does_next _ _ (c.in_ok-v-in-Foreach.ensures.does) (does_is (ap (foreach (evals c.args.self.now.by.now.room) c.in-Foreach.kx c.in-Foreach.x c.in-Foreach.body) c.in-Arr.is) (rw (c.as_slice-in-Arr.ensures, c.get-in-Arr.ensures) at c.each_entry.ensures)))

pub returns : goal.returns
returns g c =
    does_is (foreach_means (evals c.args.self.now.by.now.room) c.args.l.now _ _ _ _ c.in-Foreach.is) (does_next _ _ (c.in_ok-v-in-Foreach.ensures.does) (does_foreach_other (evals c.args.self.now.by.now.room) c.in-Foreach.kx c.in-Foreach.x c.in-Foreach.body _ _ c.in_default.not-Arr c.fault.ensures))
