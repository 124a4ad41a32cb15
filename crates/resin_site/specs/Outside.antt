-- The outside of a request: its keepers and the numbered calls on them, as they tell it (this project).
use Rattle.std.specs.Prelude.{ℕ, List, Option, Result}
use Rattle.std.specs.declared.alloc.AllocError.{AllocError}
use Rattle.resin_request.specs.Under.base.declared.calls.Calls.{Calls}
use Rattle.resin_request.specs.Under.base.declared.files.Files as Files
use Rattle.resin_request.specs.Under.base.declared.tables.Tables as Tables
use Rattle.resin_request.specs.Under.http.declared.request.Request.{Request}
use Rattle.resin_request.specs.Under.meaning.Programs.{KeeperCall}
use Rattle.resin_site.specs.declared.outcome.Outcome.{Outcome}
use Rattle.resin_site.specs.Keeping.{Store, Later, Tells, Faults, Blames, Answers, answers, faults, store_of}
use Rattle.resin_site.specs.Serving.{Served}

-- what the keepers hold, which of their calls failed and how often each failed, as they tell it; and the calls so far
pub record Outside : Type 0 where
  pub store : Option Store
  pub answers : Answers
  pub faults : Faults
  pub calls : Calls

abbrev pub outside : {F T : Type 0} → Files.Ghosts F → Tables.Ghosts T → F → T → Calls → Outside
outside of_files of_tables files tables calls = record {
  store = store_of (of_files.stored files) (of_tables.stored tables);
  answers = answers (of_files.answers files) (of_tables.answers tables);
  faults = faults (of_files.faults files) (of_tables.faults tables);
  calls = calls;
}

-- the keepers' own answers are those of these calls
abbrev pub TellsCalls : Outside → Outside → List KeeperCall → Type 0
TellsCalls old new made = Tells made old.answers new.answers old.calls.made new.calls.made new.calls.failed

-- Whatever numbers follow those of the calls that failed: where the keepers tell what they hold, the request was served as it means.
abbrev pub IsServed : ℕ → ℕ → Request → Outside → Result Outcome AllocError → Outside → Type 0
IsServed fuel number r old result new =
    (K : List ℕ) → Later new.calls.made new.calls.failed K
    → Served fuel K old.store old.calls.made number r (TellsCalls old new) result new.store new.calls.made

-- at most the last call failed; then its number is listed, and the count of a keeper's faults rose
abbrev pub BlamesKeeper : Outside → Outside → Type 0
BlamesKeeper old new = Blames old.calls.made old.calls.failed old.faults new.calls.made new.calls.failed new.faults
