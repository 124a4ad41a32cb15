use Rattle.std.proofs.Common.{sym, ap}
use Rattle.resin_eval_merges.proofs.meaning_lemmas.Composition.{does_next, does_exit, does_give}
use Rattle.resin_eval_merges.proofs.eval_nested_lemmas.Exits.{does_is}
use Rattle.resin_eval_assign.proofs.Shapes.{assign_means, compound_means, coalesce_assign_means, pre_increment_means, pre_decrement_means, post_increment_means, post_decrement_means}
use Rattle.resin_eval_merges.specs.Under.meaning_forms.Programs.{evals}
use Rattle.resin_eval_merges.specs.Under.meaning_forms.Assignments.{assign, compound, coalesce_assign}
use Rattle.resin_eval_assign.proofs.assign.Assigner.assignment.Goals as goal

pub returns-in-Assign : goal.returns-in-Assign
returns-in-Assign g c =
    does_is (assign_means (evals c.args.self.now.by.now.room) c.args.a.now _ _ c.in-Assign.is) (does_is (ap (assign (evals c.args.self.now.by.now.room) _) (sym c.get.ensures)) c.assign.ensures)

pub returns-in-Compound : goal.returns-in-Compound
returns-in-Compound g c =
    does_is (compound_means (evals c.args.self.now.by.now.room) c.args.a.now _ _ _ c.in-Compound.is) (does_is (ap (compound (evals c.args.self.now.by.now.room) c.in-Compound.op c.in-Compound.t) (sym c.get-in-Compound.ensures)) c.compound.ensures)

pub returns-in-CoalesceAssign : goal.returns-in-CoalesceAssign
returns-in-CoalesceAssign g c =
    does_is (coalesce_assign_means (evals c.args.self.now.by.now.room) c.args.a.now _ _ c.in-CoalesceAssign.is) (does_is (ap (coalesce_assign (evals c.args.self.now.by.now.room) c.in-CoalesceAssign.t) (sym c.get-in-CoalesceAssign.ensures)) c.coalesce_assign.ensures)

pub returns-in_err-both-in-PreIncrement : goal.returns-in_err-both-in-PreIncrement
returns-in_err-both-in-PreIncrement g c =
    does_is (pre_increment_means (evals c.args.self.now.by.now.room) c.args.a.now _ c.in-PreIncrement.is) (does_exit _ _ _ c.from_residual.ensures.1 (c.in_err-both-in-PreIncrement.ensures))

pub returns-in_ok-both-in-PreIncrement : goal.returns-in_ok-both-in-PreIncrement
returns-in_ok-both-in-PreIncrement g c =
    does_is (pre_increment_means (evals c.args.self.now.by.now.room) c.args.a.now _ c.in-PreIncrement.is) (does_next _ _ (c.in_ok-both-in-PreIncrement.ensures) (does_give _ _))

pub returns-in_err-both-in-PreDecrement : goal.returns-in_err-both-in-PreDecrement
returns-in_err-both-in-PreDecrement g c =
    does_is (pre_decrement_means (evals c.args.self.now.by.now.room) c.args.a.now _ c.in-PreDecrement.is) (does_exit _ _ _ c.from_residual-in_err-both-in-PreDecrement.ensures.1 (c.in_err-both-in-PreDecrement.ensures))

pub returns-in_ok-both-in-PreDecrement : goal.returns-in_ok-both-in-PreDecrement
returns-in_ok-both-in-PreDecrement g c =
    does_is (pre_decrement_means (evals c.args.self.now.by.now.room) c.args.a.now _ c.in-PreDecrement.is) (does_next _ _ (c.in_ok-both-in-PreDecrement.ensures) (does_give _ _))

pub returns-in_err-both-in-PostIncrement : goal.returns-in_err-both-in-PostIncrement
returns-in_err-both-in-PostIncrement g c =
    does_is (post_increment_means (evals c.args.self.now.by.now.room) c.args.a.now _ c.in-PostIncrement.is) (does_exit _ _ _ c.from_residual-in_err-both-in-PostIncrement.ensures.1 (c.in_err-both-in-PostIncrement.ensures))

pub returns-in_ok-both-in-PostIncrement : goal.returns-in_ok-both-in-PostIncrement
returns-in_ok-both-in-PostIncrement g c =
    does_is (post_increment_means (evals c.args.self.now.by.now.room) c.args.a.now _ c.in-PostIncrement.is) (does_next _ _ (c.in_ok-both-in-PostIncrement.ensures) (does_give _ _))

pub returns-in_err-both-in-PostDecrement : goal.returns-in_err-both-in-PostDecrement
returns-in_err-both-in-PostDecrement g c =
    does_is (post_decrement_means (evals c.args.self.now.by.now.room) c.args.a.now _ c.in-PostDecrement.is) (does_exit _ _ _ c.from_residual-in_err-both-in-PostDecrement.ensures.1 (c.in_err-both-in-PostDecrement.ensures))

pub returns-in_ok-both-in-PostDecrement : goal.returns-in_ok-both-in-PostDecrement
returns-in_ok-both-in-PostDecrement g c =
    does_is (post_decrement_means (evals c.args.self.now.by.now.room) c.args.a.now _ c.in-PostDecrement.is) (does_next _ _ (c.in_ok-both-in-PostDecrement.ensures) (does_give _ _))
