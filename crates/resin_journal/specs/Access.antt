-- The access law, as far as it speaks of the journal of a request alone: data leaves only through writes in which every policy that it carries
-- was asked and returned (RESIN's claim that data leaves only through checked boundaries, over this project's journal).
use Rattle.std.specs.Prelude.{ℕ, ◌<◌, ◌==◌, ◌&&◌, nat_lt, nat_le, nat_eq, not, Bool, true, false, List, [], ◌∷◌, filter, map, IsTrue, if◌then◌else◌}
use Rattle.std.specs.List.{list_all, list_any}
use Rattle.std.specs.Cmp.Lexicographic.{pointwise}
use Rattle.resin_scan.specs.Words.{IsName}
use Rattle.resin_lstr.specs.Texts.{policies_in_order}
use Rattle.resin_journal.specs.declared.event.Event.{Event}
use Rattle.resin_journal.specs.declared.event.Event.TheVariants.{Passed, Sent, Denied, FilterDenied}
use Rattle.resin_journal.specs.Channels.{is_leaving}
use Rattle.resin_journal.specs.Events.{EventList}

-- the number of an event's write, 0 outside the writes that leave
abbrev pub write_of : Event → ℕ
write_of (Passed w p) = w
write_of (Sent w c t) = w
write_of (Denied w c p class from to by) = w
write_of (FilterDenied w c f class len by) = w

-- an event with a number above 0 is a Passed, or is on a channel by which data leaves; one with the number 0 is a FilterDenied on another channel
abbrev pub is_placed : Event → Bool
is_placed (Passed w p) = nat_lt 0 w
is_placed (Sent w c t) = nat_lt 0 w && is_leaving c
is_placed (Denied w c p class from to by) = nat_lt 0 w && is_leaving c
is_placed (FilterDenied w c f class len by) = if w == 0 then not (is_leaving c) else is_leaving c

-- the events of one write, in order
abbrev pub events_of : ℕ → EventList → EventList
events_of w j = filter (λ e. write_of e == w) j

-- the policies that returned first of all
abbrev pub passed_first : EventList → List ℕ
passed_first (Passed w p ∷ es) = p ∷ passed_first es
passed_first es = []

-- what stands behind them
abbrev pub behind_passed : EventList → EventList
behind_passed (Passed w p ∷ es) = behind_passed es
behind_passed es = es

abbrev pub is_among : ℕ → List ℕ → Bool
is_among p ps = list_any (λ q. q == p) ps

-- no number stands twice
abbrev pub are_distinct : List ℕ → Bool
are_distinct [] = true
are_distinct (p ∷ ps) = not (is_among p ps) && are_distinct ps

-- how a write may end in which the policies ps returned: it stopped there; or another policy denied some bytes; or all that the data carries had
-- returned, in order and each once, and the data went out; or a filter denied it before any policy was asked
abbrev pub may_end : List ℕ → EventList → Bool
may_end ps [] = are_distinct ps
may_end ps (Denied w c p class from to by ∷ []) = are_distinct ps && not (is_among p ps) && nat_lt from to
may_end ps (Sent w c d ∷ []) = pointwise nat_eq ps (policies_in_order d)
may_end [] (FilterDenied w c f class len by ∷ []) = true
may_end ps es = false

-- these are the events of one write that leaves
abbrev pub is_one_write : EventList → Bool
is_one_write es = may_end (passed_first es) (behind_passed es)

-- each number is at most all those after it
abbrev pub never_fall : List ℕ → Bool
never_fall [] = true
never_fall (n ∷ ns) = list_all (nat_le n) ns && never_fall ns

-- the numbers of the writes that leave, event by event
abbrev pub writes_of : EventList → List ℕ
writes_of j = filter (λ w. nat_lt 0 w) (map write_of j)

-- the access law of a journal: each event has a number that fits it; the events of each write are those of a checked one; the first events of the
-- writes rise, and all events of one write stand before the first of the next
pub record ObeysAccessLaw (j : EventList) : Type 0 where
  pub placed : IsTrue (list_all is_placed j)
  pub checked : (w : ℕ) → 0 < w → IsTrue (is_one_write (events_of w j))
  pub in_order : IsTrue (never_fall (writes_of j))

-- the classes that an event tells are names
abbrev pub TellsNames : Event → Type 0
TellsNames (Denied w c p class from to by) = IsName class × IsName by
TellsNames (FilterDenied w c f class len by) = IsName class × IsName by
TellsNames e = Unit {0}

-- each class that the journal tells is a name
abbrev pub ClassesAreNames : EventList → Type 0
ClassesAreNames [] = Unit {0}
ClassesAreNames (e ∷ es) = TellsNames e × ClassesAreNames es
