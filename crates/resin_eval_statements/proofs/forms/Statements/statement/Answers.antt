use Rattle.std.proofs.Common.{sym, ap}
use Rattle.resin_eval_writes.proofs.eval_nested_lemmas.Exits.{does_is}
use Rattle.resin_eval_statements.proofs.Shapes.{simple_means, block_means, if_means, loop_means, switch_means, try_means}
use Rattle.resin_eval_writes.specs.Under.meaning_forms.Programs.{evals}
use Rattle.resin_eval_writes.specs.Under.meaning_forms.Invoke.{block}
use Rattle.resin_eval_writes.specs.Under.meaning_forms.Statements.{branches, switch, try_form}
use Rattle.resin_eval_statements.proofs.forms.Statements.statement.Goals as goal

pub returns-in-Simple : goal.returns-in-Simple
returns-in-Simple g c =
    does_is (simple_means (evals c.args.self.now.by.now.room) c.args.k.now _ c.in-Simple.is) (c.simple.ensures)

pub returns-in-Block : goal.returns-in-Block
returns-in-Block g c =
    does_is (block_means (evals c.args.self.now.by.now.room) c.args.k.now _ c.in-Block.is) (does_is (ap (block (evals c.args.self.now.by.now.room)) (sym c.as_slice.ensures)) c.block.ensures)

pub returns-in-If : goal.returns-in-If
returns-in-If g c =
    does_is (if_means (evals c.args.self.now.by.now.room) c.args.k.now _ _ c.in-If.is) (does_is (ap (branches (evals c.args.self.now.by.now.room) _) (sym c.as_slice-in-If.ensures)) c.branches.ensures)

pub returns-in-Loop : goal.returns-in-Loop
returns-in-Loop g c =
    does_is (loop_means (evals c.args.self.now.by.now.room) c.args.k.now _ c.in-Loop.is) (c.looped.ensures)

pub returns-in-Switch : goal.returns-in-Switch
returns-in-Switch g c =
    does_is (switch_means (evals c.args.self.now.by.now.room) c.args.k.now _ _ c.in-Switch.is) (does_is (ap (switch (evals c.args.self.now.by.now.room) _) (sym c.as_slice-in-Switch.ensures)) c.switch.ensures)

pub returns-in-None : goal.returns-in-None
returns-in-None g c =
    does_is (try_means (evals c.args.self.now.by.now.room) c.args.k.now _ _ _ c.in-Try.is) (does_is (ap (try_form (evals c.args.self.now.by.now.room) c.in-Try.body c.in-Try.cs) c.in-None.is) (rw (c.as_slice-in-None.ensures, c.as_slice-in-None-2.ensures) at c.with_catches.ensures))

pub returns-in-Some : goal.returns-in-Some
returns-in-Some g c =
    does_is (try_means (evals c.args.self.now.by.now.room) c.args.k.now _ _ _ c.in-Try.is) (does_is (ap (try_form (evals c.args.self.now.by.now.room) c.in-Try.body c.in-Try.cs) c.in-Some.is) (rw (c.as_slice-in-Some.ensures, c.as_slice-in-Some-2.ensures, c.as_slice-in-Some-3.ensures) at c.with_last.ensures))
