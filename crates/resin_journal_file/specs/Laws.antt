-- What holds of every journal file.
use Rattle.std.specs.Prelude.{◌≡◌, ◌↔◌, ℕ, List, ◌++◌, Some}
use Rattle.resin_journal.specs.Events.{EventList}
use Rattle.resin_journal_file.specs.Limits.{IsFileOf}
use Rattle.resin_journal_file.specs.Reading.{Item, item_text, IsItem, item}

-- a text is the file of one list of journals at most: what a file says can't be read in two ways
abbrev pub SaysOneThing : Type 0
SaysOneThing = (text : List ℕ) (js ks : List EventList) → IsFileOf text js → IsFileOf text ks → js ≡ ks

-- what is read from the front of a text is the item that stands there, if it is one that a file can tell
abbrev pub ReadsItems : Type 0
ReadsItems = (xs : List ℕ) (i : Item) (rest : List ℕ) → (item xs ≡ Some (i, rest)) ↔ ((xs ≡ item_text i ++ rest) × IsItem i)
