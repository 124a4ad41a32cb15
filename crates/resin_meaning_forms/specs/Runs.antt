-- A run of the code that works on the state alone.
use Rattle.std.specs.Prelude.{Result, Ok, Err}
use Rattle.resin_meaning_tables.specs.Under.store.Files.{LabelledFiles}
use Rattle.resin_meaning_tables.specs.Under.base.TableStore.{TableStore}
use Rattle.resin_meaning_tables.specs.Under.base.declared.calls.Calls.{Calls}
use Rattle.resin_target.specs.Under.machine.declared.stop.Stop.{Stop}
use Rattle.resin_target.specs.Under.machine.State.{State}
use Rattle.resin_meaning_tables.specs.Under.meaning.Programs.{Prog}
use Rattle.resin_meaning_tables.specs.Under.meaning.Runs.{Does, Seen, world}

-- the code did what the program does, and no keeper call, whatever the keepers are
abbrev pub Runs : {A : Type 0} → Prog A → State → Result A Stop → State → Type 0
Runs p m r m' = (f : Seen LabelledFiles) (t : Seen TableStore) (c : Calls) → Does p (world m f t c) r (world m' f t c)

-- an end whose value is seen otherwise
abbrev pub on_ok : {A B : Type 0} → (A → B) → Result A Stop → Result B Stop
on_ok f (Ok v) = Ok (f v)
on_ok f (Err s) = Err s
