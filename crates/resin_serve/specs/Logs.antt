-- What an answer puts into the log (this project).
use Rattle.std.specs.Prelude.{ℕ, List, ⊤}
use Rattle.resin_site.specs.Under.journal.Events.{EventList}
use Rattle.resin_site.specs.Under.journal.Lines.{log_of}
use Rattle.resin_audit.specs.Under.journal_file.Files.{journal_text}
use Rattle.resin_audit.specs.Under.journal_file.Limits.{Each, IsNumber, CanBeTold}
use Rattle.resin_serve.specs.declared.logging.Logging.{Logging}
use Rattle.resin_serve.specs.declared.logging.Logging.TheVariants.{Denials, Journals}

-- what the answer of this number with this journal puts into the log: the lines of its denials, or its part of the journal file
abbrev pub logged : Logging → ℕ → EventList → List ℕ
logged Denials number j = log_of number j
logged Journals number j = journal_text number j

-- the log can tell it: lines of denials tell anything, a journal file numbers within its limits and classes by names
abbrev pub CanTell : Logging → ℕ → EventList → Type 0
CanTell Denials number j = ⊤
CanTell Journals number j = IsNumber number × Each CanBeTold j
