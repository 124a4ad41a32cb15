use Rattle.std.proofs.Common.{sym, ap}
use Rattle.resin_eval_writes.proofs.meaning_lemmas.Composition.{does_next, does_exit}
use Rattle.resin_eval_writes.proofs.eval_nested_lemmas.Arms.{does_looked, does_thrown}
use Rattle.resin_eval_writes.proofs.eval_nested_lemmas.Exits.{does_is}
use Rattle.resin_eval_writes.specs.Under.meaning_forms.Programs.{evals}
use Rattle.resin_eval_writes.specs.Under.meaning_forms.Invoke.{block}
use Rattle.resin_eval_statements.proofs.forms.Statements.catching.Goals as goal

pub returns-in_err-assign_caught-in-Some : goal.returns-in_err-assign_caught-in-Some
returns-in_err-assign_caught-in-Some g c =
    does_next _ _ (does_looked _ _ c.in-Some.ensures) (does_exit _ _ _ c.from_residual.ensures.1 (c.in_err-assign_caught-in-Some.ensures _ _ _))

pub returns-in_ok-assign_caught-in-Some : goal.returns-in_ok-assign_caught-in-Some
returns-in_ok-assign_caught-in-Some g c =
    does_next _ _ (does_looked _ _ c.in-Some.ensures) (does_next _ _ (c.in_ok-assign_caught-in-Some.ensures _ _ _) (does_is (ap (block (evals c.args.self.now.by.now.room)) (sym c.as_slice.ensures)) c.block.ensures))

pub returns-in-None : goal.returns-in-None
returns-in-None g c =
    does_next _ _ (does_looked _ _ c.in-None.ensures) (does_thrown _ _)
