-- The streams of connections, with how far each was read (this project).
use Rattle.std.specs.Prelude.{ℕ, List, Option, get_or}
use Rattle.resin_site.specs.Under.http.declared.marks.Mark.{Mark}
use Rattle.resin_site.specs.Under.http.declared.marks.Mark.TheVariants.{Head}
use Rattle.resin_site.specs.Under.http.Marks.{IsMark}
use Rattle.resin_trace.specs.Lines.{Waiting, at, stream_of}

-- nothing is known
abbrev pub start : Mark
start = Head 0

-- the mark of a connection
abbrev pub mark_at : List Mark → ℕ → Mark
mark_at marks conn = get_or marks conn start

-- each mark is right of the stream of its connection
abbrev pub AreMarks : List (Option Waiting) → List Mark → Type 0
AreMarks connections marks = (c : ℕ) → IsMark (stream_of (at connections c)) (mark_at marks c)
