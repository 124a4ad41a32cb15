use Rattle.resin_eval_calls.specs.Under.meaning_forms.Invoke.{block}
use Rattle.resin_eval_calls.specs.Under.meaning_forms.Programs.{evals}
use Rattle.resin_eval_calls.specs.Under.meaning_forms.Sources.{statement_in}
use Rattle.resin_eval_calls.specs.Under.meaning.Runs.{Leads}
use Rattle.resin_eval_calls.specs.Under.eval_nested.Running.{at}
use Rattle.resin_interp.proofs.Rooms.{rank}
use Rattle.std.proofs.Common.{◌+◌, ◌*◌, min, drop}
use Rattle.std.specs.List.{filter_map}
use Rattle.resin_interp.proofs.run.+walk.Given as goal

abbrev pub decreases-evaluation : goal.decreases-evaluation
decreases-evaluation g a = 5 * a.room + min 4 (rank a.what)

abbrev pub decreases-run_file : goal.decreases-run_file
decreases-run_file g a = 5 * a.room + 3

abbrev pub decreases-run_items : goal.decreases-run_items
decreases-run_items g a = 5 * a.room + 2

abbrev pub decreases-run_statement : goal.decreases-run_statement
decreases-run_statement g a = 5 * a.room + 1

-- what is left to run comes to what all statements come to
abbrev pub invariant-run_items-loop-item : goal.invariant-run_items-loop-item
invariant-run_items-loop-item g l = Leads (block (evals l.room) (filter_map statement_in l.items)) (at g.F.Files g.T.Tables l.fn.run) (block (evals l.room) (filter_map statement_in (drop l.item-index l.items))) (at g.F.Files g.T.Tables l.run)
