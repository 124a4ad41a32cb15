-- What a run of the code has to do with a program, by the value that it stands on.
use Rattle.std.specs.Prelude.{Result}
use Rattle.resin_step_objects.specs.Under.base.declared.files.Files as Files
use Rattle.resin_step_objects.specs.Under.base.declared.tables.Tables as Tables
use Rattle.resin_step_objects.specs.Under.machine.declared.stop.Stop.{Stop}
use Rattle.resin_step_objects.specs.Under.meaning.Programs.{Prog}
use Rattle.resin_step_objects.specs.Under.meaning.Runs.{World, Does, seen, files_seen, world}
use Rattle.resin_eval_nested.specs.declared.run.Run.{Run}

-- the world that a run stands on: its machine, what its keepers tell, and its calls
abbrev pub at : {F T : Type 0} → Files.Ghosts F → Tables.Ghosts T → Run F T → World
at files tables r =
    world r.machine (files_seen (files.stored r.files) (files.faults r.files) (files.answers r.files))
    (seen (tables.stored r.tables) (tables.faults r.tables) (tables.answers r.tables)) r.calls

-- the run went from u to v and ended with r, as the program does
abbrev pub Performs : {F T A : Type 0} → Files.Ghosts F → Tables.Ghosts T → Prog A → Run F T → Result A Stop → Run F T → Type 0
Performs files tables p u r v = Does p (at files tables u) r (at files tables v)
