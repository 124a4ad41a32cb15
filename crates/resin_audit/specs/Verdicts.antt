-- What an audit answers on a text (this project): whether it is a journal file, and whether its journals obey the access law.
use Rattle.std.specs.Prelude.{◌≡◌, ℕ, ◌+◌, ◌<◌, ◌≤◌, List, [], ◌∷◌, ◌++◌, length, take, Result, Ok, Err}
use Rattle.std.specs.List.{flat_map}
use Rattle.resin_journal.specs.Events.{EventList}
use Rattle.resin_journal.specs.Access.{ObeysAccessLaw}
use Rattle.resin_journal_file.specs.Limits.{Each, IsFileOf, IsFile}
use Rattle.resin_audit.specs.declared.verdict.Verdict.{Verdict}
use Rattle.resin_audit.specs.declared.verdict.Verdict.TheVariants.{Yes, Form, Law}

-- how many events the journals have together
abbrev pub events_in : List EventList → ℕ
events_in [] = 0
events_in (j ∷ js) = length j + events_in js

-- the longest front of a text that is a file, so its longest run of whole items that is one, ends at this offset
pub record EndsFile (text : List ℕ) (at : ℕ) : Type 0 where
  pub within : at ≤ length text
  pub is_file : IsFile (take at text)
  pub longest : (n : ℕ) → at < n → n ≤ length text → IsFile (take n text) → ⊥

-- the first k events of a journal break the access law, and no fewer do
pub record BreaksAt (k : ℕ) (j : EventList) : Type 0 where
  pub within : k ≤ length j
  pub breaks : ObeysAccessLaw (take k j) → ⊥
  pub fewer : (n : ℕ) → n < k → ObeysAccessLaw (take n j)

-- The text is the file of journals that obey the access law, with so many answers and events.
pub record IsYes (text : List ℕ) (requests events : ℕ) : Type 0 where
  pub journals : List EventList
  pub file : IsFileOf text journals
  pub obey : Each ObeysAccessLaw journals
  pub requests_are : requests ≡ length journals
  pub events_are : events ≡ events_in journals

-- The text is a file in which some journal breaks the law: the first such journal, and its first event with which it does.
pub record IsBroken (text : List ℕ) (request event : ℕ) : Type 0 where
  pub before : List EventList
  pub journal : EventList
  pub behind : List EventList
  pub file : IsFileOf text (before ++ journal ∷ behind)
  pub obey : Each ObeysAccessLaw before
  pub breaks : BreaksAt event journal
  pub request_is : request ≡ length before + 1

-- what the verdict on a text says of it
abbrev pub Says : List ℕ → Verdict → Type 0
Says text (Yes requests events) = IsYes text requests events
Says text (Form offset) = (IsFile text → ⊥) × EndsFile text offset
Says text (Law request event) = IsBroken text request event

-- a text has one verdict
abbrev pub HasOneVerdict : Type 0
HasOneVerdict = (text : List ℕ) (a b : Verdict) → Says text a → Says text b → a ≡ b
