use Rattle.resin_eval_channels.specs.Under.meaning_forms.Calls.{constructed}
use Rattle.resin_eval_channels.specs.Under.meaning_forms.Programs.{evals}
use Rattle.resin_eval_channels.proofs.eval_nested_lemmas.Exits.{does_is}
use Rattle.resin_eval_channels.specs.Under.step_objects.Methods.{seen_method}
use Rattle.resin_eval_channels.specs.Under.step_objects.declared.invoke.Method.{Method}
use Rattle.resin_eval_channels.proofs.meaning_lemmas.Composition.{does_exit, does_give, does_next}
use Rattle.std.proofs.Common.{Option, ap}
use Rattle.std.specs.Option.{option_map}
use Rattle.resin_eval_calls.proofs.calls.Caller.construct.Goals as goal

pub returns-in_err-_null-in-Some : goal.returns-in_err-_null-in-Some
returns-in_err-_null-in-Some g c =
    does_is (ap (λ (x : Option Method). constructed (evals c.args.self.now.by.now.room) c.args.o c.args.args (option_map seen_method x)) c.in-Some.is) (does_exit _ _ _ c.from_residual.ensures.1 (c.in_err-_null-in-Some.ensures))

pub returns-in_ok-_null-in-Some : goal.returns-in_ok-_null-in-Some
returns-in_ok-_null-in-Some g c =
    does_is (ap (λ (x : Option Method). constructed (evals c.args.self.now.by.now.room) c.args.o c.args.args (option_map seen_method x)) c.in-Some.is) (does_next _ _ (c.in_ok-_null-in-Some.ensures) (does_give _ _))

pub returns-in-None : goal.returns-in-None
returns-in-None g c =
    does_is (ap (λ (x : Option Method). constructed (evals c.args.self.now.by.now.room) c.args.o c.args.args (option_map seen_method x)) c.in-None.is) (does_give _ _)
