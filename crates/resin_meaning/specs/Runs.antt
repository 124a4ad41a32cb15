-- What a run of the code has to do with a program.
use Rattle.std.specs.Prelude.{◌≡◌, ◌≢◌, ℕ, ◌+◌, ◌≤◌, ◌<◌, List, [], ◌∷◌, ◌++◌, length}
use Rattle.std.specs.Prelude.{Bool, true, false, not, Option, Some, Result, Ok, Err, ◌⊎◌, if◌then◌else◌}
use Rattle.std.specs.Option.{option_map}
use Rattle.resin_base.specs.Causes.{Counted, TellsMore, is_listed}
use Rattle.resin_base.specs.FileStore.{FileStore}
use Rattle.resin_base.specs.TableStore.{TableStore}
use Rattle.resin_base.specs.Numbering.{AreNumbered}
use Rattle.resin_base.specs.declared.calls.Calls.{Calls}
use Rattle.resin_machine.specs.declared.stop.Stop.{Stop}
use Rattle.resin_machine.specs.declared.stop.Stop.TheVariants.{Thrown, Exit, Fault, Keeper, Memory}
use Rattle.resin_machine.specs.State.{State}
use Rattle.resin_machine.specs.Keeping.{Keeps, Tied}
use Rattle.resin_meaning.specs.Programs.{Whole, KeeperCall, Moment, Out, Prog}
use Rattle.resin_store.specs.Files.{LabelledFiles, lift_files}

-- a keeper: what it holds, where it tells that; how often it failed; which of its calls failed, where it tells that
pub record Seen (S : Type 0) : Type 0 where
  pub stored : Option S
  pub faults : ℕ
  pub answers : Option (List Bool)

abbrev pub seen : {S : Type 0} → Option S → ℕ → Option (List Bool) → Seen S
seen stored faults answers = record { stored = stored; faults = faults; answers = answers }

-- a keeper of files, whose shadow texts tell the policies of what it holds
abbrev pub files_seen : Option FileStore → ℕ → Option (List Bool) → Seen LabelledFiles
files_seen stored faults answers = seen (option_map lift_files stored) faults answers

-- the machine, the keepers and the numbered calls, as the code has them
pub record World : Type 0 where
  pub state : State
  pub files : Seen LabelledFiles
  pub tables : Seen TableStore
  pub calls : Calls

abbrev pub world : State → Seen LabelledFiles → Seen TableStore → Calls → World
world state files tables calls = record { state = state; files = files; tables = tables; calls = calls }

-- both keepers tell what they hold, and this is the whole of it
pub record IsAt (at : Whole) (w : World) : Type 0 where
  pub state : at.state ≡ w.state
  pub files : Some at.store.files ≡ w.files.stored
  pub tables : Some at.store.tables ≡ w.tables.stored
  pub made : at.made ≡ w.calls.made

-- the call is on the tables, or on the files
abbrev pub is_on : Bool → KeeperCall → Bool
is_on tables call = if call.on_tables then tables else not tables

-- which of these calls on the tables, or on the files, failed, where so many calls were made before them
abbrev pub failures : Bool → List ℕ → ℕ → List KeeperCall → List Bool
failures tables failing made [] = []
failures tables failing made (call ∷ calls) =
    if is_on tables call
    then is_listed failing (made + 1) ∷ failures tables failing (made + 1) calls
    else failures tables failing (made + 1) calls

-- what every part of a run does: it makes calls, which are counted, and told where answers are told; ticks never rise; and what each step
-- keeps is kept
pub record Goes (w w' : World) : Type 0 where
  pub calls : List KeeperCall
  pub made : w'.calls.made ≡ w.calls.made + length calls
  pub files : AreNumbered w.calls → TellsMore w.files.answers w'.files.answers (failures false w'.calls.failed w.calls.made calls)
  pub tables : AreNumbered w.calls → TellsMore w.tables.answers w'.tables.answers (failures true w'.calls.failed w.calls.made calls)
  pub ticks : w'.state.ticks ≤ w.state.ticks
  pub keeps : Keeps w.state w'.state

-- no call failed
pub record NoneFailed (w w' : World) : Type 0 where
  pub failed : w'.calls.failed ≡ w.calls.failed
  pub files : w'.files.faults ≡ w.files.faults
  pub tables : w'.tables.faults ≡ w.tables.faults

-- the last call failed, and no other, and the count of faults of one keeper rose, the other being as it was
pub record LastFailed (w w' : World) : Type 0 where
  pub failed : w'.calls.failed ≡ w.calls.failed ++ w'.calls.made ∷ []
  pub made : w.calls.made < w'.calls.made
  pub rose :
      (Counted w.files.faults w'.files.faults × (w'.tables.faults ≡ w.tables.faults))
      ⊎ ((w'.files.faults ≡ w.files.faults) × Counted w.tables.faults w'.tables.faults)

-- a keeper stop comes exactly where the last call failed, and with any other end no call failed
abbrev pub Blames : {A : Type 0} → Result A Stop → World → World → Type 0
Blames (Ok v) w w' = NoneFailed w w'
Blames (Err (Thrown o)) w w' = NoneFailed w w'
Blames (Err Exit) w w' = NoneFailed w w'
Blames (Err (Fault f line)) w w' = NoneFailed w w'
Blames (Err Keeper) w w' = LastFailed w w'
Blames (Err Memory) w w' = NoneFailed w w'

-- a list of failing calls says of the calls made so far what the list in the code says
abbrev pub Agrees : List ℕ → World → Type 0
Agrees failing w = (k : ℕ) → k ≤ w.calls.made → is_listed failing k ≡ is_listed w.calls.failed k

-- the moment is one of these
abbrev pub Reached : Moment → List Moment → Type 0
Reached at [] = ⊥
Reached at (m ∷ ms) = (at ≡ m) ⊎ Reached at ms

-- the world stands at one of these moments, after these calls
pub record IsAmong (moments : List Moment) (w : World) (calls : List KeeperCall) : Type 0 where
  pub at : Moment
  pub reached : Reached at moments
  pub journal : at.journal ≡ w.state.stage.journal
  pub files : Some at.store.files ≡ w.files.stored
  pub tables : Some at.store.tables ≡ w.tables.stored
  pub so_far : at.calls ≡ calls

-- the end, the world and the calls are those of the program; after want of memory the world stands at one of the program's moments
pub record Meets {A : Type 0} (o : Out A) (r : Result A Stop) (w : World) (calls : List KeeperCall) : Type 0 where
  pub same : r ≢ Err Memory → (o.end ≡ r) × IsAt o.whole w × (o.calls ≡ calls)
  pub front : r ≡ Err Memory → IsAmong o.moments w calls

-- the code went from w to w' and ended with r, as the program does: where both keepers tell what they hold, and whatever calls are taken to fail,
-- as long as those made so far are the ones that failed
pub record Done {A : Type 0} (p : Prog A) (w : World) (r : Result A Stop) (w' : World) : Type 0 where
  pub goes : Goes w w'
  pub blames : Blames r w w'
  pub ties : r ≢ Err Memory → Tied w.state → Tied w'.state
  pub means : AreNumbered w.calls → (at : Whole) → IsAt at w → (failing : List ℕ) → Agrees failing w' → Meets (p failing at) r w' goes.calls

-- the same, shut to searches
pub data Does {A : Type 0} (p : Prog A) (w : World) (r : Result A Stop) (w' : World) : Type 0 where
  does : Done p w r w' → Does p w r w'

abbrev pub done : {A : Type 0} {p : Prog A} {w : World} {r : Result A Stop} {w' : World} → Does p w r w' → Done p w r w'
done (does d) = d

-- so far p went from u to v, and q is left of it: what q does from v is what p does from u
pub record Leads {A : Type 0} (p : Prog A) (u : World) (q : Prog A) (v : World) : Type 0 where
  pub goes_on : (r : Result A Stop) (w : World) → Does q v r w → Does p u r w
