use Rattle.std.proofs.Common.{sym, ap}
use Rattle.resin_eval_calls.proofs.meaning_lemmas.Composition.{does_act}
use Rattle.resin_eval_calls.proofs.eval_nested_lemmas.Arms.{does_given, does_none}
use Rattle.resin_eval_calls.proofs.eval_nested_lemmas.Exits.{does_is}
use Rattle.resin_eval_calls.proofs.eval_nested_lemmas.Leaf_means.{literal_means, variable_means}
use Rattle.resin_interp.proofs.Shapes.{array_means, join_means, access_means, operation_means, test_means, assignment_means, call_means}
use Rattle.resin_eval_calls.specs.Under.meaning_forms.Programs.{evals}
use Rattle.resin_eval_calls.specs.Under.meaning_forms.Expressions.{array_form, interpolated}
use Rattle.resin_interp.proofs.run.Interpreter.expression.Goals as goal

pub returns-in_err-literal_value-in-Literal : goal.returns-in_err-literal_value-in-Literal
returns-in_err-literal_value-in-Literal g c =
    does_is (literal_means (evals c.args.self.now.by.now.room) c.args.e.now _ c.in-Literal.is) (does_none _ _ c.from_residual.ensures.1)

pub returns-in_ok-literal_value-in-Literal : goal.returns-in_ok-literal_value-in-Literal
returns-in_ok-literal_value-in-Literal g c =
    does_is (literal_means (evals c.args.self.now.by.now.room) c.args.e.now _ c.in-Literal.is) (does_given _ _ c.in_ok-literal_value-in-Literal.ensures)

pub returns-in-Variable : goal.returns-in-Variable
returns-in-Variable g c =
    does_is (variable_means (evals c.args.self.now.by.now.room) c.args.e.now _ c.in-Variable.is) (does_act _ _ _ _ (rw (c.as_slice.ensures) at c.read.ensures.acts))

pub returns-in-Array : goal.returns-in-Array
returns-in-Array g c =
    does_is (array_means (evals c.args.self.now.by.now.room) c.args.e.now _ c.in-Array.is) (does_is (ap (array_form (evals c.args.self.now.by.now.room)) (sym c.as_slice-in-Array.ensures)) c.array.ensures)

pub returns-in-Join : goal.returns-in-Join
returns-in-Join g c =
    does_is (join_means (evals c.args.self.now.by.now.room) c.args.e.now _ c.in-Join.is) (does_is (ap (interpolated (evals c.args.self.now.by.now.room)) (sym c.as_slice-in-Join.ensures)) c.interpolation.ensures)

pub returns-in-Access : goal.returns-in-Access
returns-in-Access g c =
    does_is (access_means (evals c.args.self.now.by.now.room) c.args.e.now _ c.in-Access.is) (c.access.ensures)

pub returns-in-Operation : goal.returns-in-Operation
returns-in-Operation g c =
    does_is (operation_means (evals c.args.self.now.by.now.room) c.args.e.now _ c.in-Operation.is) (c.operation.ensures)

pub returns-in-Test : goal.returns-in-Test
returns-in-Test g c =
    does_is (test_means (evals c.args.self.now.by.now.room) c.args.e.now _ c.in-Test.is) (c.test.ensures)

pub returns-in-Assignment : goal.returns-in-Assignment
returns-in-Assignment g c =
    does_is (assignment_means (evals c.args.self.now.by.now.room) c.args.e.now _ c.in-Assignment.is) (c.assignment.ensures)

pub returns-in-Call : goal.returns-in-Call
returns-in-Call g c =
    does_is (call_means (evals c.args.self.now.by.now.room) c.args.e.now _ c.in-Call.is) (c.called.ensures)
