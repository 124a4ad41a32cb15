-- The journal file: what the writes and filters of a run did, request by request, as text (this project).
use Rattle.std.specs.Prelude.{ℕ, ◌+◌, ◌-◌, List, [], ◌∷◌, ◌++◌, length, map, codes, decimal, if◌then◌else◌}
use Rattle.std.specs.List.{flat_map, join_with_byte}
use Rattle.resin_label.specs.Sets.{NumberSet, numbers, same}
use Rattle.resin_lstr.specs.Texts.{bytes_of, sets_of}
use Rattle.resin_lstr.specs.declared.text.Run.{Run}
use Rattle.resin_journal.specs.declared.event.Event.{Event}
use Rattle.resin_journal.specs.declared.event.Event.TheVariants.{Passed, Sent, Denied, FilterDenied}
use Rattle.resin_journal.specs.Channels.{channel_name}
use Rattle.resin_journal.specs.Events.{EventList}

-- a line: its fields, split by single blanks, and a newline
abbrev pub line : List (List ℕ) → List ℕ
line fields = join_with_byte 32 fields ++ 10 ∷ []

-- one more place with this set in front: it joins the run behind it where the sets are the same
abbrev pub with_place : NumberSet → List (ℕ × NumberSet) → List (ℕ × NumberSet)
with_place s [] = (1, s) ∷ []
with_place s (r ∷ rs) = if same s r.1 then (r.0 + 1, r.1) ∷ rs else (1, s) ∷ r ∷ rs

-- the runs of a list of sets: how many neighbouring places have the same set, and that set
abbrev pub runs_of : List NumberSet → List (ℕ × NumberSet)
runs_of [] = []
runs_of (s ∷ ss) = with_place s (runs_of ss)

-- the line of a run: its length, and the policies that its bytes carry, rising
abbrev pub run_line : ℕ × NumberSet → List ℕ
run_line r = line (decimal r.0 ∷ map decimal (numbers r.1))

-- an event in the file: a line, and behind that of a text which went out the lines of its runs, its bytes, and a newline
abbrev pub event_text : Event → List ℕ
event_text (Passed w p) = line (codes "passed" ∷ decimal w ∷ decimal p ∷ [])
event_text (Sent w c t) =
    line (codes "sent" ∷ decimal w ∷ channel_name c ∷ decimal (length t) ∷ decimal (length (runs_of (sets_of t))) ∷ [])
    ++ (flat_map run_line (runs_of (sets_of t)) ++ (bytes_of t ++ 10 ∷ []))
event_text (Denied w c p class from to by) =
    line (codes "denied" ∷ decimal w ∷ channel_name c ∷ decimal p ∷ class ∷ decimal from ∷ decimal to ∷ by ∷ [])
event_text (FilterDenied w c f class len by) =
    line (codes "filter" ∷ decimal w ∷ channel_name c ∷ decimal f ∷ class ∷ decimal len ∷ by ∷ [])

-- the line with which the journal of the answer with this number begins
abbrev pub request_line : ℕ → List ℕ
request_line q = line (codes "request" ∷ decimal q ∷ [])

-- the journal of the answer with this number
abbrev pub journal_text : ℕ → EventList → List ℕ
journal_text q j = request_line q ++ flat_map event_text j

-- the journals of answers, numbered from q on
abbrev pub file_from : ℕ → List EventList → List ℕ
file_from q [] = []
file_from q (j ∷ js) = journal_text q j ++ file_from (q + 1) js

-- the file of a run: its answers are numbered from 1 on
abbrev pub file_of : List EventList → List ℕ
file_of js = file_from 1 js

-- runs with ends as runs with lengths
abbrev pub lengths : ℕ → List Run → List (ℕ × NumberSet)
lengths from [] = []
lengths from (r ∷ rs) = (r.end - from, r.set) ∷ lengths r.end rs
