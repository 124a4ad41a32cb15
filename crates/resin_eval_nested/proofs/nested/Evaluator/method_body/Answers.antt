use Rattle.resin_step_objects.specs.Under.meaning_forms.Invoke.{bind, method_body}
use Rattle.resin_step_objects.specs.Under.meaning_forms.Programs.{evals}
use Rattle.resin_step_objects.specs.Under.heap.declared.prelude.PreludeMethod.{PreludeMethod}
use Rattle.resin_eval_nested.proofs.Exits.{does_is}
use Rattle.resin_step_objects.proofs.meaning_lemmas.Composition.{does_act, does_exit, does_next}
use Rattle.resin_step_objects.specs.Under.meaning.Programs.{◌>>=◌}
use Rattle.std.proofs.Common.{Option, ap, sym}
use Rattle.resin_eval_nested.proofs.nested.Evaluator.method_body.Goals as goal

pub returns-in_err-assign : goal.returns-in_err-assign
returns-in_err-assign g c =
    does_exit _ _ _ c.from_residual.ensures.1 (does_act _ _ _ _ c.in_err-assign.ensures.acts)

pub returns-in_err-bind-in-Some : goal.returns-in_err-bind-in-Some
returns-in_err-bind-in-Some g c =
    does_next _ _ (does_act _ _ _ _ c.in_ok-assign.ensures.acts) (does_is (ap (λ (o : Option PreludeMethod). bind c.args.f.now.parameters c.args.args >>= λ _. method_body (evals c.args.self.now.room) o c.args.f.now c.args.this) (sym (rw c.in-Some.is at c.at.ensures))) (does_exit _ _ _ c.from_residual-in_err-bind-in-Some.ensures.1 ((rw (c.as_slice.ensures, c.get.ensures) at c.in_err-bind-in-Some.ensures) _ _ _)))

pub returns-in_ok-bind-in-Some : goal.returns-in_ok-bind-in-Some
returns-in_ok-bind-in-Some g c =
    does_next _ _ (does_act _ _ _ _ c.in_ok-assign.ensures.acts) (does_is (ap (λ (o : Option PreludeMethod). bind c.args.f.now.parameters c.args.args >>= λ _. method_body (evals c.args.self.now.room) o c.args.f.now c.args.this) (sym (rw c.in-Some.is at c.at.ensures))) (does_next _ _ ((rw (c.as_slice.ensures, c.get.ensures) at c.in_ok-bind-in-Some.ensures) _ _ _) ((c.own_body.ensures) _ _ _)))

pub returns-in-None : goal.returns-in-None
returns-in-None g c =
    does_next _ _ (does_act _ _ _ _ c.in_ok-assign.ensures.acts) (does_is (ap (λ (o : Option PreludeMethod). bind c.args.f.now.parameters c.args.args >>= λ _. method_body (evals c.args.self.now.room) o c.args.f.now c.args.this) (sym (rw c.in-None.is at c.at.ensures))) c.script_body.ensures)
