use Rattle.std.proofs.Common.{sym, ap}
use Rattle.resin_eval_merges.proofs.meaning_lemmas.Composition.{does_next, does_exit}
use Rattle.resin_eval_merges.proofs.eval_nested_lemmas.Arms.{does_given, does_none}
use Rattle.resin_eval_merges.proofs.eval_nested_lemmas.Exits.{does_is}
use Rattle.resin_eval_assign.proofs.Shapes.{step_index_means, step_append_means, step_property_means}
use Rattle.resin_eval_merges.specs.Under.meaning_forms.Programs.{evals}
use Rattle.resin_eval_assign.proofs.assign.Assigner.step.Goals as goal

pub returns-in_err-v-in-Index : goal.returns-in_err-v-in-Index
returns-in_err-v-in-Index g c =
    does_is (step_index_means (evals c.args.self.now.by.now.room) c.args.path c.args.s.now _ c.in-Index.is) (does_exit _ _ _ c.from_residual.ensures.1 (does_is (ap (evals c.args.self.now.by.now.room).expr (sym c.get.ensures)) c.in_err-v-in-Index.ensures.does))

pub returns-in_err-with_index-in-Index : goal.returns-in_err-with_index-in-Index
returns-in_err-with_index-in-Index g c =
    does_is (step_index_means (evals c.args.self.now.by.now.room) c.args.path c.args.s.now _ c.in-Index.is) (does_next _ _ (does_is (ap (evals c.args.self.now.by.now.room).expr (sym c.get.ensures)) c.in_ok-v-in-Index.ensures.does) (does_none _ _ c.from_residual-in_err-with_index-in-Index.ensures.1))

pub returns-in_ok-with_index-in-Index : goal.returns-in_ok-with_index-in-Index
returns-in_ok-with_index-in-Index g c =
    does_is (step_index_means (evals c.args.self.now.by.now.room) c.args.path c.args.s.now _ c.in-Index.is) (does_next _ _ (does_is (ap (evals c.args.self.now.by.now.room).expr (sym c.get.ensures)) c.in_ok-v-in-Index.ensures.does) (does_given _ _ c.in_ok-with_index-in-Index.ensures))

pub returns-in_err-with_index-in-Append : goal.returns-in_err-with_index-in-Append
returns-in_err-with_index-in-Append g c =
    does_is (step_append_means (evals c.args.self.now.by.now.room) c.args.path c.args.s.now c.in-Append.is) (does_none _ _ c.from_residual-in_err-with_index-in-Append.ensures.1)

pub returns-in_ok-with_index-in-Append : goal.returns-in_ok-with_index-in-Append
returns-in_ok-with_index-in-Append g c =
    does_is (step_append_means (evals c.args.self.now.by.now.room) c.args.path c.args.s.now c.in-Append.is) (does_given _ _ c.in_ok-with_index-in-Append.ensures)

pub returns-in_err-clone-in-Property : goal.returns-in_err-clone-in-Property
returns-in_err-clone-in-Property g c =
    does_is (step_property_means (evals c.args.self.now.by.now.room) c.args.path c.args.s.now _ c.in-Property.is) (does_none _ _ c.from_residual-in_err-clone-in-Property.ensures.1)

pub returns-in_err-with_property-in-Property : goal.returns-in_err-with_property-in-Property
returns-in_err-with_property-in-Property g c =
    does_is (step_property_means (evals c.args.self.now.by.now.room) c.args.path c.args.s.now _ c.in-Property.is) (does_none _ _ c.from_residual-in_err-with_property-in-Property.ensures.1)

pub returns-in_ok-with_property-in-Property : goal.returns-in_ok-with_property-in-Property
returns-in_ok-with_property-in-Property g c =
    does_is (step_property_means (evals c.args.self.now.by.now.room) c.args.path c.args.s.now _ c.in-Property.is) (does_given _ _ (rw c.in_ok-clone-in-Property.ensures.cases at c.in_ok-with_property-in-Property.ensures))
