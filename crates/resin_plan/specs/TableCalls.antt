-- Numbered keeper calls on tables: what each asks, and what a keeper makes of it (the meanings of the calls stand in resin_base).
use Rattle.std.specs.Prelude.{◌≡◌, ℕ, ◌≤◌, ◌<◌, Bool, List, Option, Result, Ok, Err, ◌⊎◌}
use Rattle.resin_base.specs.Causes.{last_count, HasCause, TellsMore, outcome}
use Rattle.resin_base.specs.Contents.{Told}
use Rattle.resin_base.specs.Numbering.{Lists, IsAsked}
use Rattle.resin_base.specs.TableStore.{TableStore, Creates, ShowsColumns, ShowsRows, Inserts, Updates, Deletes}
use Rattle.resin_base.specs.declared.calls.Calls.{Calls}
use Rattle.resin_base.specs.declared.cell.Cell.{Cell}
use Rattle.resin_base.specs.declared.cell.Column.{Column}
use Rattle.resin_base.specs.declared.cell.Row.{Row}
use Rattle.resin_base.specs.declared.faults.KeepFault.{KeepFault}
use Rattle.resin_base.specs.declared.faults.KeepFault.TheVariants as fault
use Rattle.resin_sql.specs.declared.fault.SqlStop.{SqlStop}
use Rattle.resin_sql.specs.declared.fault.SqlStop.TheVariants.{Refused, Keeper, Spent, Memory}

-- a keeper call, by the table's name
pub data TableCall : Type 0 where
  -- make the table, with these columns
  MakeTable : List ℕ → List Column → TableCall
  -- its columns
  AskColumns : List ℕ → TableCall
  -- its rows
  AskRows : List ℕ → TableCall
  -- put a row of these cells last
  AddRow : List ℕ → List Cell → TableCall
  -- set the cells of the row of a number
  SetRow : List ℕ → ℕ → List Cell → TableCall
  -- take out the row of a number
  TakeRow : List ℕ → ℕ → TableCall

-- what a keeper answers that doesn't fail
abbrev pub Answer : TableCall → Type 0
Answer (MakeTable name columns) = Bool
Answer (AskColumns name) = Option (List Column)
Answer (AskRows name) = List Row
Answer (AddRow name cells) = Option ℕ
Answer (SetRow name number cells) = Bool
Answer (TakeRow name number) = Bool

-- what the call does to tables that are told, and how its answer comes from them
abbrev pub Changes : (call : TableCall) → TableStore → Result (Answer call) KeepFault → TableStore → Type 0
Changes (MakeTable name columns) s r t = Creates s name columns r t
Changes (AskColumns name) s r t = ShowsColumns s name r t
Changes (AskRows name) s r t = ShowsRows s name r t
Changes (AddRow name cells) s r t = Inserts s name cells r t
Changes (SetRow name number cells) s r t = Updates s name number cells r t
Changes (TakeRow name number) s r t = Deletes s name number r t

-- A keeper of tables and the numbered calls: what it holds, where it tells that; how often it failed; which of its calls failed, where it
-- tells that; how many calls were made, and which are listed as failed.
pub record Keeping : Type 0 where
  pub stored : Option TableStore
  pub faults : ℕ
  pub answers : Option (List Bool)
  pub calls : Calls

abbrev pub keeping : Option TableStore → ℕ → Option (List Bool) → Calls → Keeping
keeping stored faults answers calls = record { stored = stored; faults = faults; answers = answers; calls = calls }

-- From u one numbered call was made, and led to v. This is what came of it: an answer, which follows from the tables; a failure, which is
-- listed and changed no table; or no memory, and then it isn't counted.
pub record IsCalled (call : TableCall) (u : Keeping) (r : Result (Answer call) KeepFault) (v : Keeping) : Type 0 where
  pub numbered : u.calls.made < last_count
  pub contents : Told u.stored v.stored (λ s t. Changes call s r t)
  pub cause : HasCause u.faults v.faults r
  pub told : TellsMore u.answers v.answers (outcome r)
  pub listed : Lists u.calls r v.calls

-- a call as the code makes it: it stops by Keeper exactly where the keeper failed, and by Spent, without a call, where no number is left
abbrev pub CallsBy : (call : TableCall) → Keeping → Result (Answer call) SqlStop → Keeping → Type 0
CallsBy call u (Ok answer) v = IsCalled call u (Ok answer) v
CallsBy call u (Err Keeper) v = IsCalled call u (Err fault.Failed) v
CallsBy call u (Err Spent) v = (last_count ≤ u.calls.made) × (v ≡ u)
CallsBy call u (Err Memory) v = (v ≡ u) ⊎ IsCalled call u (Err fault.Memory) v
CallsBy call u (Err (Refused x)) v = ⊥

-- the same, shut to searches
pub data Makes (call : TableCall) (u : Keeping) (r : Result (Answer call) SqlStop) (v : Keeping) : Type 0 where
  makes : CallsBy call u r v → Makes call u r v

-- the number of the next call is listed; there may be none left, or no memory
abbrev pub Asks : Calls → Result (Unit {0}) SqlStop → Calls → Type 0
Asks c (Ok u) c' = (c.made < last_count) × IsAsked c c'
Asks c (Err s) c' = (((s ≡ Spent) × (last_count ≤ c.made)) ⊎ (s ≡ Memory)) × (c' ≡ c)

-- how a keeper's answer ends a call
abbrev pub ended : {A : Type 0} → Result A KeepFault → Result A SqlStop
ended (Ok v) = Ok v
ended (Err fault.Failed) = Err Keeper
ended (Err fault.Memory) = Err Memory
