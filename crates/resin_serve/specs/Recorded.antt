-- What the log of a recorded run is (this project).
use Rattle.std.specs.Prelude.{ℕ, ◌+◌, List, [], ◌∷◌, length}
use Rattle.resin_site.specs.Keeping.{St}
use Rattle.resin_site.specs.Under.journal.Events.{EventList}
use Rattle.resin_audit.specs.Under.journal_file.Files.{file_of}
use Rattle.resin_audit.specs.declared.verdict.Verdict.TheVariants.{Yes}
use Rattle.resin_audit.specs.Verdicts.{Says, events_in}
use Rattle.resin_serve.specs.declared.logging.Logging.TheVariants.{Journals}
use Rattle.resin_serve.specs.Meaning.{Meaning, Owed, reply}
use Rattle.resin_serve.specs.Asked.{meaning}
use Rattle.resin_serve.specs.Ran.{World, Grew, Through}

-- the journals of answers, in order
abbrev pub journals_of : Meaning → List ℕ → St → ℕ → List Owed → List EventList
journals_of R K s number [] = []
journals_of R K s number (a ∷ xs) = (reply R K s number a).is.journal ∷ journals_of R K (reply R K s number a).after (number + 1) xs

-- the log gained the journal file of these journals, and an audit of that file says Yes, with the number of them and of their events
pub record IsRecorded (js : List EventList) (old new : World) : Type 0 where
  pub log : Grew old.log new.log (file_of js)
  pub audited : Says (file_of js) (Yes (length js) (events_in js))

-- a whole recorded run leaves in the log the journal file of its answers, of which an audit says Yes
abbrev pub RecordsPass : Type 0
RecordsPass = (fuel : ℕ) (K : List ℕ) (s : St) (xs : List Owed) (old new : World)
    → Through (meaning Journals fuel) K s 1 xs old new → IsRecorded (journals_of (meaning Journals fuel) K s 1 xs) old new
