use Rattle.std.proofs.Common.{ap, Result}
use Rattle.resin_eval_writes.specs.Under.meaning_forms.Programs.{evals}
use Rattle.resin_eval_writes.specs.Under.meaning_forms.Queries.{answered}
use Rattle.resin_eval_writes.specs.Under.meaning_tables.Under.sql.declared.fault.SqlRefusal.{SqlRefusal}
use Rattle.resin_eval_writes.specs.Under.meaning_tables.Under.plan.declared.answer.SqlAnswer.{SqlAnswer}
use Rattle.resin_eval_writes.proofs.eval_nested_lemmas.Exits.{does_is, does_seen_exit}
use Rattle.resin_eval_writes.proofs.meaning_lemmas.Composition.{does_loosely, does_act, does_next}
use Rattle.resin_eval_queries.proofs.queries.Querier.answered.Goals as goal

pub returns-in_err-charge-in-Ok : goal.returns-in_err-charge-in-Ok
returns-in_err-charge-in-Ok g c = does_is (ap (λ (x : Result SqlAnswer SqlRefusal). answered (evals c.args.self.now.by.now.room) x) c.in-Ok.is) (does_seen_exit _ _ _ _ c.from_residual.ensures.1 (does_act _ _ _ _ c.in_err-charge-in-Ok.ensures.acts))

pub returns-in_ok-charge-in-Ok : goal.returns-in_ok-charge-in-Ok
returns-in_ok-charge-in-Ok g c = does_is (ap (λ (x : Result SqlAnswer SqlRefusal). answered (evals c.args.self.now.by.now.room) x) c.in-Ok.is) (does_next _ _ (does_act _ _ _ _ c.in_ok-charge-in-Ok.ensures.acts) c.answer.ensures)

pub returns-in-Err : goal.returns-in-Err
returns-in-Err g c = does_is (ap (λ (x : Result SqlAnswer SqlRefusal). answered (evals c.args.self.now.by.now.room) x) c.in-Err.is) (c.refuse.ensures _ _ _)
