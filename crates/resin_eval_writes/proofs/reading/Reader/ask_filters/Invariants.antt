use Rattle.resin_eval_nested.specs.Under.meaning_forms.Programs.{evals}
use Rattle.resin_eval_nested.specs.Under.meaning_forms.Reading.{filter_by}
use Rattle.resin_eval_nested.specs.Under.meaning.LeavingWrites.{ask_filters}
use Rattle.resin_eval_nested.specs.Under.meaning.Runs.{Leads}
use Rattle.std.proofs.Common.{drop}
use Rattle.resin_eval_nested.specs.Running.{at}
use Rattle.resin_eval_writes.proofs.reading.Reader.ask_filters.Given as goal

abbrev pub invariant-loop-f : goal.invariant-loop-f
invariant-loop-f g l = Leads (ask_filters (filter_by (evals l.self.by.now.room) l.method l.context) 0 l.channel l.chain l.fn.text) (at g.F.Files g.T.Tables l.fn.run) (ask_filters (filter_by (evals l.self.by.now.room) l.method l.context) 0 l.channel (drop l.f-index l.chain) l.data) (at g.F.Files g.T.Tables l.run)
