-- The first part of a program that goes through a list.
use Rattle.std.specs.Prelude.{Result, Ok, Err}
use Rattle.resin_step_functions.specs.Under.store.Files.{LabelledFiles}
use Rattle.resin_step_functions.specs.Under.base.TableStore.{TableStore}
use Rattle.resin_step_functions.specs.Under.base.declared.calls.Calls.{Calls}
use Rattle.resin_step_functions.specs.Under.machine.declared.stop.Stop.{Stop}
use Rattle.resin_step_functions.specs.Under.machine.State.{State}
use Rattle.resin_step_functions.specs.Under.meaning.Programs.{Prog}
use Rattle.resin_step_functions.specs.Under.meaning.Runs.{Does, Leads, Seen, world}

-- the code did the first part of p, and the rest of p is left; or it stopped in that part, as p does
abbrev pub Begins : {A B : Type 0} → Prog A → Prog A → State → Result B Stop → State → Type 0
Begins p rest m (Ok v) m' = (f : Seen LabelledFiles) (t : Seen TableStore) (c : Calls) → Leads p (world m f t c) rest (world m' f t c)
Begins p rest m (Err s) m' = (f : Seen LabelledFiles) (t : Seen TableStore) (c : Calls) → Does p (world m f t c) (Err s) (world m' f t c)
