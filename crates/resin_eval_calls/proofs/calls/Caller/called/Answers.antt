use Rattle.resin_eval_channels.specs.Under.meaning_forms.Calls.{call_form}
use Rattle.resin_eval_channels.specs.Under.meaning_forms.Programs.{evals}
use Rattle.resin_eval_channels.proofs.eval_nested_lemmas.Exits.{does_is}
use Rattle.std.proofs.Common.{ap}
use Rattle.resin_eval_calls.proofs.calls.Caller.called.Goals as goal

pub returns-in-Function : goal.returns-in-Function
returns-in-Function g c =
    does_is (ap (call_form (evals c.args.self.now.by.now.room)) c.in-Function.is) c.function_call.ensures

pub returns-in-Method : goal.returns-in-Method
returns-in-Method g c =
    does_is (ap (call_form (evals c.args.self.now.by.now.room)) c.in-Method.is) c.method_call.ensures

pub returns-in-Parent : goal.returns-in-Parent
returns-in-Parent g c =
    does_is (ap (call_form (evals c.args.self.now.by.now.room)) c.in-Parent.is) c.parent_call.ensures

pub returns-in-New : goal.returns-in-New
returns-in-New g c =
    does_is (ap (call_form (evals c.args.self.now.by.now.room)) c.in-New.is) c.new_call.ensures

pub returns-in-Import : goal.returns-in-Import
returns-in-Import g c =
    does_is (ap (call_form (evals c.args.self.now.by.now.room)) c.in-Import.is) c.import_call.ensures
