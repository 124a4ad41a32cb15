use Rattle.resin_eval_calls.specs.Under.meaning_forms.Inputs.{filtered_text, filtered_entries}
use Rattle.resin_eval_calls.specs.Under.meaning_forms.Programs.{evals}
use Rattle.resin_eval_calls.specs.Under.meaning.Runs.{Leads}
use Rattle.std.proofs.Common.{drop}
use Rattle.resin_eval_calls.specs.Under.eval_nested.Running.{at}
use Rattle.resin_interp.proofs.inputs.Inputs.filtered_texts.Given as goal

abbrev pub invariant-loop-i : goal.invariant-loop-i
invariant-loop-i g l = Leads (filtered_entries (λ k t. filtered_text (evals l.self.by.now.room) l.context t) l.a.entries l.a) (at g.F.Files g.T.Tables l.fn.run) (filtered_entries (λ k t. filtered_text (evals l.self.by.now.room) l.context t) (drop l.i l.a.entries) l.all) (at g.F.Files g.T.Tables l.run)
