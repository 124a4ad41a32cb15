-- The log of a run has a line for each denial (this project).
use Rattle.std.specs.Prelude.{◌≡◌, ℕ, ◌+◌, Bool, true, false, List, [], ◌∷◌, ◌++◌, length, filter, unwrap_or}
use Rattle.std.specs.FinMap.{empty}
use Rattle.resin_site.specs.Keeping.{St, state}
use Rattle.resin_site.specs.Under.journal.declared.event.Event.{Event}
use Rattle.resin_site.specs.Under.journal.declared.event.Event.TheVariants.{Passed, Sent, Denied, FilterDenied}
use Rattle.resin_site.specs.Under.journal.Access.{TellsNames}
use Rattle.resin_site.specs.Under.journal.Events.{EventList}
use Rattle.resin_site.specs.Under.journal.Lines.{line_of}
use Rattle.resin_bench_site.specs.Site.{site_files, with_files}
use Rattle.resin_serve.specs.declared.logging.Logging.TheVariants.{Denials}
use Rattle.resin_serve.specs.declared.sample.Counted.{Counted}
use Rattle.resin_serve.specs.Asked.{meaning}
use Rattle.resin_serve.specs.Meaning.{Owed, order, bytes_of, AllObey}
use Rattle.resin_serve.specs.Ran.{part}
use Rattle.resin_serve.specs.Recorded.{journals_of}
use Rattle.resin_serve.specs.Samples.{held, lines_in, SampleComesTo}
use Rattle.resin_serve.specs.Words.{usual_fuel}

-- a policy or a filter denied
abbrev pub is_denial : Event → Bool
is_denial (Passed write policy) = false
is_denial (Sent write channel text) = false
is_denial (Denied write channel policy class from to by) = true
is_denial (FilterDenied write channel filter class len by) = true

-- how many denials a journal tells
abbrev pub denials_in : EventList → ℕ
denials_in j = length (filter is_denial j)

-- how many these journals tell together
abbrev pub denials_of : List EventList → ℕ
denials_of [] = 0
denials_of (j ∷ js) = denials_in j + denials_of js

-- the text has one newline, at its end
pub record IsLine (text : List ℕ) : Type 0 where
  pub words : List ℕ
  pub is : text ≡ words ++ 10 ∷ []
  pub plain : lines_in words ≡ 0

-- what a denial puts into the log is a line, where classes are told by names; other events put nothing there
abbrev pub EachIsALine : Type 0
EachIsALine =
    (number : ℕ) (e : Event) → ((is_denial e ≡ true) → TellsNames e → IsLine (unwrap_or (line_of number e) []))
    × (is_denial e ≡ false → unwrap_or (line_of number e) [] ≡ [])

-- a run each of whose answers obeys the access law has as many lines in its log as its answers have denials
abbrev pub LogTellsDenials : Type 0
LogTellsDenials =
    (fuel : ℕ) (K : List ℕ) (s : St) (number : ℕ) (xs : List Owed) → AllObey (meaning Denials fuel) K s number xs
    → lines_in (part 0 (bytes_of (meaning Denials fuel) K s number xs)) ≡ denials_of (journals_of (meaning Denials fuel) K s number xs)

-- what the sample tells as denied is the number of the denials of its answers
abbrev pub SampleTellsDenials : Type 0
SampleTellsDenials =
    (number : ℕ) (counted : Counted) (c : SampleComesTo number counted)
    → counted.denied ≡ denials_of (journals_of (meaning Denials usual_fuel) [] (state (held (with_files empty site_files)) 0) 1 (order [] c.records))
