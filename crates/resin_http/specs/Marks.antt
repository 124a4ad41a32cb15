-- How far the reading of a stream came that waits for more bytes, so that none of them is read again and again (this project).
use Rattle.std.specs.Prelude.{◌≡◌, ℕ, ◌≤◌, nat_lt, List, ◌++◌, length, take, if◌then◌else◌, Option, Some, None, Result, Ok, Err}
use Rattle.httparse.specs.Grammar.{RequestHead}
use Rattle.resin_http.specs.declared.request.Method.{Method}
use Rattle.resin_http.specs.declared.marks.Mark.{Mark}
use Rattle.resin_http.specs.declared.marks.Mark.TheVariants.{Head, Body}
use Rattle.resin_http.specs.declared.stream.Look.{Look}
use Rattle.resin_http.specs.declared.stream.Look.TheVariants.{Awaits, Asks}
use Rattle.resin_http.specs.Head.{head_of}
use Rattle.resin_http.specs.Fields.{Pair, pairs_of, taken}
use Rattle.resin_http.specs.Stream.{Answer, most_head, most_lines, head_end, line_count}
use Rattle.resin_http.specs.Steps.{Steps}

-- the end of a head, and the length of the body that it announces
abbrev pub Announced : Type 0
Announced = ℕ × ℕ

abbrev pub by_taken : ℕ → Result (Method × ℕ) ℕ → Option Announced
by_taken end (Err status) = None
by_taken end (Ok p) = Some (end, p.1)

abbrev pub by_parts : ℕ → List ℕ → List ℕ → List Pair → Option Announced
by_parts end method target fields = by_taken end (taken method target fields)

abbrev pub by_head : ℕ → Option RequestHead → Option Announced
by_head end None = None
by_head end (Some h) = by_parts end h.method h.target (pairs_of h)

abbrev pub by_end : List ℕ → Option ℕ → Option Announced
by_end s None = None
by_end s (Some end) = if nat_lt most_lines (line_count (take end s)) then None else by_head end (head_of (take end s))

-- where the head of the first request ends and how long its body is; none where no head stands whole, or it is refused
unfoldable pub announced : List ℕ → Option Announced
announced s = by_end s (head_end (take most_head s))

-- the mark is right of a stream: no blank line ends in the bytes that were searched, or the head that was read announces that body
abbrev pub IsMark : List ℕ → Mark → Type 0
IsMark s (Head searched) = (searched ≤ length s) × (head_end (take searched s) ≡ None)
IsMark s (Body end body) = announced s ≡ Some (end, body)

-- what a head says: that the body it announces isn't whole, or a step
abbrev pub Looks : Option (Answer × ℕ) → Option Announced → ℕ → Look → Type 0
Looks f a end (Awaits body) = (f ≡ None) × (a ≡ Some (end, body))
Looks f a end (Asks step) = Steps f step

-- a mark stays right when more bytes come
abbrev pub MarkStays : Type 0
MarkStays = (s more : List ℕ) (m : Mark) → IsMark s m → IsMark (s ++ more) m
