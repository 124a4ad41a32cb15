use Rattle.std.proofs.Common.{ap, refl, Err, Result}
use Rattle.resin_eval_writes.specs.Under.machine.declared.stop.Stop.TheVariants.{Memory}
use Rattle.resin_eval_writes.specs.Under.meaning_forms.Programs.{evals}
use Rattle.resin_eval_writes.specs.Under.meaning_forms.Queries.{run_read}
use Rattle.resin_eval_writes.specs.Under.value.Seen.{tree_of}
use Rattle.resin_eval_writes.specs.Under.meaning_tables.Under.joint.declared.tree.MoreStmt.{MoreStmt}
use Rattle.resin_eval_writes.specs.Under.meaning_tables.Under.sql.declared.fault.SqlFault.{SqlFault}
use Rattle.resin_eval_writes.proofs.eval_nested_lemmas.Exits.{does_is}
use Rattle.resin_eval_queries.proofs.Refusals.{read_bad, read_lost, read_ok}
use Rattle.resin_eval_queries.proofs.queries.Querier.run_text.Goals as goal

pub returns-in-Ok : goal.returns-in-Ok
returns-in-Ok g c =
    does_is (ap (λ (x : Result MoreStmt SqlFault). run_read (evals c.args.self.now.by.now.room) c.args.text.now x) (read_ok _ _ _ c.in-Ok.ensures.read refl)) c.run_statement.ensures

pub returns-in_err-message-in-Err-Bad : goal.returns-in_err-message-in-Err-Bad
returns-in_err-message-in-Err-Bad g c =
    read_lost (evals c.args.self.now.by.now.room) c.args.text.now _ tree_of _ c.from_residual.ensures.1

pub returns-in_ok-message-in-Err-Bad : goal.returns-in_ok-message-in-Err-Bad
returns-in_ok-message-in-Err-Bad g c =
    does_is (ap (λ (x : Result MoreStmt SqlFault). run_read (evals c.args.self.now.by.now.room) c.args.text.now x) (read_bad _ _ _ c.in-Err-Bad.ensures.read (ap Err c.in-Err-Bad.field-0-is))) ((rw (c.as_slice.ensures, c.in_ok-message-in-Err-Bad.ensures) at c.throw.ensures) _ _ _)

pub returns-in-Err-Memory : goal.returns-in-Err-Memory
returns-in-Err-Memory g c = read_lost (evals c.args.self.now.by.now.room) c.args.text.now _ tree_of (Err Memory) refl
