-- Whom the end of a run blames, in few words: what follows from the run itself (Plans.antt), whatever the plan was.
use Rattle.std.specs.Prelude.{◌≡◌, ◌≤◌, ◌<◌, [], ◌∷◌, ◌++◌, Result, Ok, Err}
use Rattle.resin_base.specs.Causes.{last_count, Counted}
use Rattle.resin_sql.specs.declared.fault.SqlStop.{SqlStop}
use Rattle.resin_sql.specs.declared.fault.SqlStop.TheVariants.{Refused, Keeper, Spent, Memory}
use Rattle.resin_plan.specs.declared.answer.SqlAnswer.{SqlAnswer}
use Rattle.resin_plan.specs.TableCalls.{Keeping}

-- no call failed, and the keeper's count of faults is as it was
pub record NoneFailed (u w : Keeping) : Type 0 where
  pub failed : w.calls.failed ≡ u.calls.failed
  pub faults : w.faults ≡ u.faults
  pub made : u.calls.made ≤ w.calls.made

-- the last call failed, it is the one new entry of the list, and the keeper's count of faults rose
pub record LastFailed (u w : Keeping) : Type 0 where
  pub failed : w.calls.failed ≡ u.calls.failed ++ w.calls.made ∷ []
  pub faults : Counted u.faults w.faults
  pub made : u.calls.made < w.calls.made

-- Keeper exactly where the last call failed; Spent only where no number is left
abbrev pub Blames : Result SqlAnswer SqlStop → Keeping → Keeping → Type 0
Blames (Ok answer) u w = NoneFailed u w
Blames (Err (Refused x)) u w = NoneFailed u w
Blames (Err Keeper) u w = LastFailed u w
Blames (Err Spent) u w = NoneFailed u w × (last_count ≤ w.calls.made)
Blames (Err Memory) u w = NoneFailed u w
