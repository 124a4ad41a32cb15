-- Runs made of what a caller has.
use Rattle.resin_eval_calls.specs.Under.base.declared.calls.Calls.{Calls}
use Rattle.resin_eval_calls.specs.Under.machine.State.{State}
use Rattle.resin_eval_calls.specs.Under.eval_nested.declared.run.Run.{Run}

-- a run that stands on these
abbrev pub lent : {F T : Type 0} → State → F → T → Calls → Run F T
lent m files tables calls = record { machine = m; files = files; tables = tables; calls = calls }
