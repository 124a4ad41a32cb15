use Rattle.std.proofs.Common.{sym, ap}
use Rattle.resin_eval_calls.proofs.meaning_lemmas.Composition.{does_next, does_exit}
use Rattle.resin_eval_calls.proofs.eval_nested_lemmas.Exits.{does_is}
use Rattle.resin_interp.proofs.Shapes.{unary_means, combine_means, compare_means, instance_means}
use Rattle.resin_eval_calls.specs.Under.meaning_forms.Programs.{evals}
use Rattle.resin_interp.proofs.run.Interpreter.operation.Goals as goal

pub returns-in_err-x-in-Unary : goal.returns-in_err-x-in-Unary
returns-in_err-x-in-Unary g c =
    does_is (unary_means (evals c.args.self.now.by.now.room) c.args.o.now _ _ c.in-Unary.is) (does_exit _ _ _ c.from_residual.ensures.1 (does_is (ap (evals c.args.self.now.by.now.room).expr (sym c.get.ensures)) c.in_err-x-in-Unary.ensures.does))

pub returns-in_ok-x-in-Unary : goal.returns-in_ok-x-in-Unary
returns-in_ok-x-in-Unary g c =
    does_is (unary_means (evals c.args.self.now.by.now.room) c.args.o.now _ _ c.in-Unary.is) (does_next _ _ (does_is (ap (evals c.args.self.now.by.now.room).expr (sym c.get.ensures)) c.in_ok-x-in-Unary.ensures.does) (c.unary.ensures))

pub returns-in_err-x-in-Combine : goal.returns-in_err-x-in-Combine
returns-in_err-x-in-Combine g c =
    does_is (combine_means (evals c.args.self.now.by.now.room) c.args.o.now _ _ _ c.in-Combine.is) (does_exit _ _ _ c.from_residual-in_err-x-in-Combine.ensures.1 (does_is (ap (evals c.args.self.now.by.now.room).expr (sym c.get-in-Combine.ensures)) c.in_err-x-in-Combine.ensures.does))

pub returns-in_err-y-in-Combine : goal.returns-in_err-y-in-Combine
returns-in_err-y-in-Combine g c =
    does_is (combine_means (evals c.args.self.now.by.now.room) c.args.o.now _ _ _ c.in-Combine.is) (does_next _ _ (does_is (ap (evals c.args.self.now.by.now.room).expr (sym c.get-in-Combine.ensures)) c.in_ok-x-in-Combine.ensures.does) (does_exit _ _ _ c.from_residual-in_err-y-in-Combine.ensures.1 (does_is (ap (evals c.args.self.now.by.now.room).expr (sym c.get-in-Combine-2.ensures)) c.in_err-y-in-Combine.ensures.does)))

pub returns-in_ok-y-in-Combine : goal.returns-in_ok-y-in-Combine
returns-in_ok-y-in-Combine g c =
    does_is (combine_means (evals c.args.self.now.by.now.room) c.args.o.now _ _ _ c.in-Combine.is) (does_next _ _ (does_is (ap (evals c.args.self.now.by.now.room).expr (sym c.get-in-Combine.ensures)) c.in_ok-x-in-Combine.ensures.does) (does_next _ _ (does_is (ap (evals c.args.self.now.by.now.room).expr (sym c.get-in-Combine-2.ensures)) c.in_ok-y-in-Combine.ensures.does) (c.combined.ensures)))

pub returns-in_err-x-in-Compare : goal.returns-in_err-x-in-Compare
returns-in_err-x-in-Compare g c =
    does_is (compare_means (evals c.args.self.now.by.now.room) c.args.o.now _ _ _ c.in-Compare.is) (does_exit _ _ _ c.from_residual-in_err-x-in-Compare.ensures.1 (does_is (ap (evals c.args.self.now.by.now.room).expr (sym c.get-in-Compare.ensures)) c.in_err-x-in-Compare.ensures.does))

pub returns-in_err-y-in-Compare : goal.returns-in_err-y-in-Compare
returns-in_err-y-in-Compare g c =
    does_is (compare_means (evals c.args.self.now.by.now.room) c.args.o.now _ _ _ c.in-Compare.is) (does_next _ _ (does_is (ap (evals c.args.self.now.by.now.room).expr (sym c.get-in-Compare.ensures)) c.in_ok-x-in-Compare.ensures.does) (does_exit _ _ _ c.from_residual-in_err-y-in-Compare.ensures.1 (does_is (ap (evals c.args.self.now.by.now.room).expr (sym c.get-in-Compare-2.ensures)) c.in_err-y-in-Compare.ensures.does)))

pub returns-in_ok-y-in-Compare : goal.returns-in_ok-y-in-Compare
returns-in_ok-y-in-Compare g c =
    does_is (compare_means (evals c.args.self.now.by.now.room) c.args.o.now _ _ _ c.in-Compare.is) (does_next _ _ (does_is (ap (evals c.args.self.now.by.now.room).expr (sym c.get-in-Compare.ensures)) c.in_ok-x-in-Compare.ensures.does) (does_next _ _ (does_is (ap (evals c.args.self.now.by.now.room).expr (sym c.get-in-Compare-2.ensures)) c.in_ok-y-in-Compare.ensures.does) (c.compared.ensures _ _ _)))

pub returns-in_err-x-in-InstanceOf : goal.returns-in_err-x-in-InstanceOf
returns-in_err-x-in-InstanceOf g c =
    does_is (instance_means (evals c.args.self.now.by.now.room) c.args.o.now _ _ c.in-InstanceOf.is) (does_exit _ _ _ c.from_residual-in_err-x-in-InstanceOf.ensures.1 (does_is (ap (evals c.args.self.now.by.now.room).expr (sym c.get-in-InstanceOf.ensures)) c.in_err-x-in-InstanceOf.ensures.does))

pub returns-in_ok-x-in-InstanceOf : goal.returns-in_ok-x-in-InstanceOf
returns-in_ok-x-in-InstanceOf g c =
    does_is (instance_means (evals c.args.self.now.by.now.room) c.args.o.now _ _ c.in-InstanceOf.is) (does_next _ _ (does_is (ap (evals c.args.self.now.by.now.room).expr (sym c.get-in-InstanceOf.ensures)) c.in_ok-x-in-InstanceOf.ensures.does) ((rw (c.as_slice.ensures) at c.instance_of.ensures) _ _ _))
