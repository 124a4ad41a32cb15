use Rattle.resin_eval_channels.specs.Under.meaning_forms.Calls.{ask_function_filters}
use Rattle.resin_eval_channels.specs.Under.meaning_forms.Programs.{evals}
use Rattle.resin_eval_channels.specs.Under.meaning.Runs.{Leads}
use Rattle.resin_eval_channels.specs.Under.value.Seen.{tree_of}
use Rattle.std.proofs.Common.{drop, map}
use Rattle.resin_eval_channels.specs.Under.eval_nested.Running.{at}
use Rattle.resin_eval_calls.proofs.calls.Caller.ask_function_filters.Given as goal

abbrev pub invariant-loop-f : goal.invariant-loop-f
invariant-loop-f g l = Leads (ask_function_filters (evals l.self.by.now.room) l.name l.chain (map tree_of l.fn.args)) (at g.F.Files g.T.Tables l.fn.run) (ask_function_filters (evals l.self.by.now.room) l.name (drop l.f-index l.chain) (map tree_of l.args)) (at g.F.Files g.T.Tables l.run)
