-- Writes under way, and what every stage keeps: the access law of its journal.
use Rattle.std.specs.Prelude.{◌≡◌, ℕ, ◌<◌, nat_le, Bool, true, false, List, [], ◌∷◌, ◌++◌, map, IsTrue}
use Rattle.std.specs.List.{list_all}
use Rattle.resin_scope.specs.Under.lstr.Texts.{Text, policies_in_order}
use Rattle.resin_scope.specs.Under.journal.declared.event.Event.{Event}
use Rattle.resin_scope.specs.Under.journal.declared.event.Event.TheVariants.{Passed}
use Rattle.resin_scope.specs.Under.journal.Events.{EventList}
use Rattle.resin_scope.specs.Under.journal.Access.{write_of, events_of, is_among, are_distinct, ObeysAccessLaw, ClassesAreNames}

-- the journal obeys the access law, no event has a larger number than the last one drawn, and classes are told by names
pub record IsLawful (journal : EventList) (writes : ℕ) : Type 0 where
  pub law : ObeysAccessLaw journal
  pub drawn : IsTrue (list_all (λ e. nat_le (write_of e) writes) journal)
  pub named : ClassesAreNames journal

-- the last write that was drawn is under way, and these policies returned so far, in order
pub record IsOpen (w : ℕ) (passed : List ℕ) (journal : EventList) (writes : ℕ) : Type 0 where
  pub last : w ≡ writes
  pub positive : 0 < w
  pub events : events_of w journal ≡ map (Passed w) passed
  pub distinct : IsTrue (are_distinct passed)

-- the write under way may ask this policy: it wasn't asked before
pub record MayAsk (w p : ℕ) (journal : EventList) (writes : ℕ) : Type 0 where
  pub passed : List ℕ
  pub way : IsOpen w passed journal writes
  pub out : is_among p passed ≡ false

-- the write under way may send this text: exactly its policies returned, in order
abbrev pub MaySend : ℕ → Text → EventList → ℕ → Type 0
MaySend w t journal writes = IsOpen w (policies_in_order t) journal writes

-- a front of a journal that obeys the access law obeys it: since a journal only grows, it obeyed the law at every moment
abbrev pub FrontsObey : Type 0
FrontsObey = (j k : EventList) → ObeysAccessLaw (j ++ k) → ObeysAccessLaw j
