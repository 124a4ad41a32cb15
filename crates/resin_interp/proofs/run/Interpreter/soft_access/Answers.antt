use Rattle.std.proofs.Common.{sym, ap}
use Rattle.resin_eval_calls.proofs.meaning_lemmas.Composition.{does_next, does_exit, does_loosely}
use Rattle.resin_eval_calls.proofs.eval_nested_lemmas.Arms.{does_looked}
use Rattle.resin_interp.proofs.Arms.{does_unlooked}
use Rattle.resin_eval_calls.proofs.eval_nested_lemmas.Exits.{does_is}
use Rattle.resin_interp.proofs.Shapes.{soft_index_means, soft_property_means}
use Rattle.resin_eval_calls.specs.Under.meaning_forms.Programs.{evals}
use Rattle.resin_interp.proofs.run.Interpreter.soft_access.Goals as goal

pub returns-in_err-v-in-Index : goal.returns-in_err-v-in-Index
returns-in_err-v-in-Index g c =
    does_is (soft_index_means (evals c.args.self.now.by.now.room) c.args.a.now _ _ c.in-Index.is) (does_exit _ _ _ c.from_residual.ensures.1 (does_is (ap (evals c.args.self.now.by.now.room).soft (sym c.get.ensures)) c.in_err-v-in-Index.ensures))

pub returns-in_err-k-in-Index : goal.returns-in_err-k-in-Index
returns-in_err-k-in-Index g c =
    does_is (soft_index_means (evals c.args.self.now.by.now.room) c.args.a.now _ _ c.in-Index.is) (does_next _ _ (does_is (ap (evals c.args.self.now.by.now.room).soft (sym c.get.ensures)) c.in_ok-v-in-Index.ensures) (does_exit _ _ _ c.from_residual-in_err-k-in-Index.ensures.1 (does_is (ap (evals c.args.self.now.by.now.room).expr (sym c.get-in-Index.ensures)) c.in_err-k-in-Index.ensures.does)))

pub returns-in_ok-k-in-Index : goal.returns-in_ok-k-in-Index
returns-in_ok-k-in-Index g c =
    does_is (soft_index_means (evals c.args.self.now.by.now.room) c.args.a.now _ _ c.in-Index.is) (does_next _ _ (does_is (ap (evals c.args.self.now.by.now.room).soft (sym c.get.ensures)) c.in_ok-v-in-Index.ensures) (does_next _ _ (does_is (ap (evals c.args.self.now.by.now.room).expr (sym c.get-in-Index.ensures)) c.in_ok-k-in-Index.ensures.does) (does_loosely _ _ _ _ c.index_of.ensures.acts)))

pub returns-in_err-v-in-Property : goal.returns-in_err-v-in-Property
returns-in_err-v-in-Property g c =
    does_is (soft_property_means (evals c.args.self.now.by.now.room) c.args.a.now _ _ c.in-Property.is) (does_exit _ _ _ c.from_residual-in_err-v-in-Property.ensures.1 (does_is (ap (evals c.args.self.now.by.now.room).soft (sym c.get-in-Property.ensures)) c.in_err-v-in-Property.ensures))

pub returns-in_err-property_of-in-Property : goal.returns-in_err-property_of-in-Property
returns-in_err-property_of-in-Property g c =
    does_is (soft_property_means (evals c.args.self.now.by.now.room) c.args.a.now _ _ c.in-Property.is) (does_next _ _ (does_is (ap (evals c.args.self.now.by.now.room).soft (sym c.get-in-Property.ensures)) c.in_ok-v-in-Property.ensures) (does_unlooked _ _ c.from_residual-in_err-property_of-in-Property.ensures.1))

pub returns-in_ok-property_of-in-Property : goal.returns-in_ok-property_of-in-Property
returns-in_ok-property_of-in-Property g c =
    does_is (soft_property_means (evals c.args.self.now.by.now.room) c.args.a.now _ _ c.in-Property.is) (does_next _ _ (does_is (ap (evals c.args.self.now.by.now.room).soft (sym c.get-in-Property.ensures)) c.in_ok-v-in-Property.ensures) (does_looked _ _ (rw (c.as_slice.ensures) at c.in_ok-property_of-in-Property.ensures)))
