use Rattle.resin_eval_calls.proofs.meaning_lemmas.Enclosures.{does_on_line}
use Rattle.resin_interp.proofs.Rooms.{lined_spent, lined_stmt}
use Rattle.resin_interp.proofs.run.Interpreter.stmt_by.Goals as goal

pub returns-clause-does : goal.returns-clause-does
returns-clause-does g c =
    lined_stmt c.args.self.now.by.now.room _ (does_on_line _ _ _ _ _ _ _ c.set_line-was.ensures.after c.set_line-was.ensures.was c.set_line-own.ensures.after c.ticked-end.ensures.does)

pub returns-clause-spent : goal.returns-clause-spent
returns-clause-spent g c =
    lined_spent _ c.args.run.now.machine _ c.ticked-end.new.run.machine _ c.args.s.now.line c.set_line-was.result c.set_line-was.ensures.after c.set_line-own.ensures.after c.ticked-end.ensures.spent
