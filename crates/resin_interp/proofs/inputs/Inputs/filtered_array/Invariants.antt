use Rattle.resin_eval_calls.specs.Under.meaning_forms.Inputs.{filtered_input, filtered_entries}
use Rattle.resin_eval_calls.specs.Under.meaning_forms.Programs.{evals}
use Rattle.resin_eval_calls.specs.Under.meaning.Runs.{Leads}
use Rattle.std.proofs.Common.{drop}
use Rattle.resin_eval_calls.specs.Under.eval_nested.Running.{at}
use Rattle.resin_interp.proofs.inputs.Inputs.filtered_array.Given as goal

abbrev pub invariant-loop-i : goal.invariant-loop-i
invariant-loop-i g l = Leads (filtered_entries (filtered_input (evals l.self.by.now.room) l.name) l.a.entries l.a) (at g.F.Files g.T.Tables l.fn.run) (filtered_entries (filtered_input (evals l.self.by.now.room) l.name) (drop l.i l.a.entries) l.all) (at g.F.Files g.T.Tables l.run)
