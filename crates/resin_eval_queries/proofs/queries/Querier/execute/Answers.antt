use Rattle.std.proofs.Common.{ap}
use Rattle.resin_eval_writes.specs.Under.base.declared.stored.StoredCell.{StoredCell}
use Rattle.resin_eval_writes.specs.Under.meaning_forms.Programs.{evals}
use Rattle.resin_eval_writes.specs.Under.meaning_forms.Queries.{executed}
use Rattle.resin_eval_writes.proofs.eval_nested_lemmas.Exits.{does_is, does_seen_exit}
use Rattle.resin_eval_writes.proofs.meaning_lemmas.Composition.{does_next}
use Rattle.resin_eval_writes.specs.Under.meaning_tables.Under.joint.declared.tree.MoreStmt.{MoreStmt}
use Rattle.resin_eval_queries.proofs.RowLemmas.{same_total}
use Rattle.resin_eval_queries.proofs.queries.Querier.execute.Goals as goal

pub returns-in_err-end-in-Plain : goal.returns-in_err-end-in-Plain
returns-in_err-end-in-Plain g c = does_is (ap (λ (x : MoreStmt). executed (evals c.args.self.now.by.now.room) x c.args.cells.now) c.in-Plain.is) (does_seen_exit _ _ _ _ c.from_residual.ensures.1 c.in_err-end-in-Plain.ensures)

pub returns-in_ok-end-in-Plain : goal.returns-in_ok-end-in-Plain
returns-in_ok-end-in-Plain g c = does_is (ap (λ (x : MoreStmt). executed (evals c.args.self.now.by.now.room) x c.args.cells.now) c.in-Plain.is) (does_next _ _ c.in_ok-end-in-Plain.ensures c.answered.ensures)

pub returns-in_err-end-in-Join : goal.returns-in_err-end-in-Join
returns-in_err-end-in-Join g c = does_is (ap (λ (x : MoreStmt). executed (evals c.args.self.now.by.now.room) x c.args.cells.now) c.in-Join.is) (does_seen_exit _ _ _ _ c.from_residual-in_err-end-in-Join.ensures.1 c.in_err-end-in-Join.ensures)

pub returns-in_ok-end-in-Join : goal.returns-in_ok-end-in-Join
returns-in_ok-end-in-Join g c = does_is (ap (λ (x : MoreStmt). executed (evals c.args.self.now.by.now.room) x c.args.cells.now) c.in-Join.is) (does_next _ _ c.in_ok-end-in-Join.ensures c.joined.ensures)

pub returns-in_err-end-in-Total : goal.returns-in_err-end-in-Total
returns-in_err-end-in-Total g c = does_is (ap (λ (x : MoreStmt). executed (evals c.args.self.now.by.now.room) x c.args.cells.now) c.in-Total.is) (does_seen_exit _ _ _ _ c.from_residual-in_err-end-in-Total.ensures.1 c.in_err-end-in-Total.ensures)

pub returns-in_ok-end-in-Total : goal.returns-in_ok-end-in-Total
returns-in_ok-end-in-Total g c = does_is (ap (λ (x : MoreStmt). executed (evals c.args.self.now.by.now.room) x c.args.cells.now) c.in-Total.is) (does_next _ _ c.in_ok-end-in-Total.ensures (does_is (same_total (evals c.args.self.now.by.now.room) _ c.as_slice.ensures) c.totalled.ensures))
