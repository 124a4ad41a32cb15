use Rattle.std.proofs.Common.{drop}
use Rattle.resin_eval_calls.specs.Under.meaning.Runs.{Leads}
use Rattle.resin_eval_calls.specs.Under.value.Changes.{empty}
use Rattle.resin_eval_calls.specs.Under.meaning_forms.Programs.{evals}
use Rattle.resin_eval_calls.specs.Under.meaning_forms.Expressions.{items}
use Rattle.resin_eval_calls.specs.Under.eval_nested.Running.{at}
use Rattle.resin_interp.proofs.run.Interpreter.items.Given as goal

abbrev pub invariant-loop-i : goal.invariant-loop-i
invariant-loop-i g l = Leads (items (evals l.self.by.now.room) empty l.is) (at g.F.Files g.T.Tables l.fn.run) (items (evals l.self.by.now.room) l.a (drop l.i-index l.is)) (at g.F.Files g.T.Tables l.run)
