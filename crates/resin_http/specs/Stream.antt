-- The requests of a stream: what its front asks, and all that a whole stream asks (this project, over RFC 9112).
use Rattle.std.specs.Prelude.{◌≡◌, ℕ, zero, suc, ◌+◌, ◌<◌, ◌≤◌, true, nat_lt, nat_le, nat_eq, List, [], ◌∷◌, ◌++◌, length}
use Rattle.std.specs.Prelude.{take, drop, map, if◌then◌else◌, Option, Some, None, option_map, Result, Ok, Err, codes, sum_by}
use Rattle.std.specs.List.{starts_with}
use Rattle.httparse.specs.Grammar.{RequestHead}
use Rattle.resin_inputs.specs.Under.bytes.declared.header.Header.{Header}
use Rattle.resin_http.specs.declared.request.Method.{Method}
use Rattle.resin_http.specs.declared.request.Request.{Request}
use Rattle.resin_http.specs.Head.{head_of}
use Rattle.resin_http.specs.Fields.{Pair, pairs_of, header_of, taken, begins_with_slash, most_body}

-- what is owed an answer: a request, or that the stream is refused with a status
pub data Answer : Type 0 where
  asks : Request → Answer
  refuses : ℕ → Answer

-- the most bytes of a head, with its blank line
unfoldable pub most_head : ℕ
most_head = 16384

abbrev pub line_end : List ℕ
line_end = codes "\r\n"

abbrev pub head_mark : List ℕ
head_mark = codes "\r\n\r\n"

-- where the first CR LF CR LF ends
abbrev pub head_end : List ℕ → Option ℕ
head_end [] = None
head_end (b ∷ bs) = if starts_with nat_eq (b ∷ bs) head_mark then Some 4 else option_map suc (head_end bs)

-- how many lines end with CR LF
abbrev pub line_count : List ℕ → ℕ
line_count [] = 0
line_count (b ∷ bs) = (if starts_with nat_eq (b ∷ bs) line_end then 1 else 0) + line_count bs

-- the most lines that a head may have, its blank line counted too
abbrev pub most_lines : ℕ
most_lines = 66

abbrev pub request_of : Method → List ℕ → List Pair → List ℕ → Request
request_of m target fields body = record { method = m; target = target; fields = map header_of fields; body = body }

-- a taken head is answered once its body stands whole
abbrev pub on_taken : ℕ → List ℕ → List ℕ → List Pair → Result (Method × ℕ) ℕ → Option (Answer × ℕ)
on_taken end after target fields (Err status) = Some (refuses status, end)
on_taken end after target fields (Ok p) =
    if nat_le p.1 (length after) then Some (asks (request_of p.0 target fields (take p.1 after)), end + p.1) else None

-- what a head with these parts asks
abbrev pub on_parts : ℕ → List ℕ → List ℕ → List ℕ → List Pair → Option (Answer × ℕ)
on_parts end after method target fields = on_taken end after target fields (taken method target fields)

abbrev pub on_head : ℕ → List ℕ → Option RequestHead → Option (Answer × ℕ)
on_head end after None = Some (refuses 400, end)
on_head end after (Some h) = on_parts end after h.method h.target (pairs_of h)

-- the bytes up to end are a head, or no head
abbrev pub at_end : List ℕ → Option ℕ → Option (Answer × ℕ)
at_end s None = if nat_le most_head (length s) then Some (refuses 431, most_head) else None
at_end s (Some end) =
    if nat_lt most_lines (line_count (take end s)) then Some (refuses 431, end) else on_head end (drop end s) (head_of (take end s))

-- what the front of a stream asks, and the length of the front that decides it. None where it decides nothing yet.
-- 1. Refused with 431 where the first 16,384 bytes have no blank line, or more than 65 lines stand before it.
-- 2. Refused with 400 where the bytes up to the blank line are no head of at most 64 fields, or by `taken`.
-- 3. Refused with 501 and with 413 by `taken`.
-- 4. Else a request, whose body is the next `Content-Length` bytes.
unfoldable pub first : List ℕ → Option (Answer × ℕ)
first s = at_end s (head_end (take most_head s))

-- an answer, and those after it, unless it refuses
abbrev pub on_answer : Answer → List Answer → List Answer
on_answer (asks r) rest = asks r ∷ rest
on_answer (refuses status) rest = refuses status ∷ []

unfoldable pub answers_in : ℕ → List ℕ → List Answer
answers_in zero s = []
answers_in (suc n) s = elim (first s) [ None ↦ [] | Some p ↦ on_answer p.0 (answers_in n (drop p.1 s)) ]

-- all answers that a whole stream is owed, in order
abbrev pub answers : List ℕ → List Answer
answers s = answers_in (length s) s

-- the bytes of a request's target, field names and field values
abbrev pub head_bytes : Request → ℕ
head_bytes r = length r.target + sum_by (λ (f : Header). length f.name + length f.value) r.fields

-- the request is one that a stream can ask
pub record IsServable (r : Request) : Type 0 where
  pub slash : begins_with_slash r.target ≡ true
  pub head : head_bytes r ≤ 16384
  pub body : length r.body ≤ most_body

-- what decides an answer decides it whatever follows
abbrev pub StaysFirst : Type 0
StaysFirst = (s more : List ℕ) (p : Answer × ℕ) → first s ≡ Some p → first (s ++ more) ≡ Some p

-- an answer takes at least one byte, and at most the stream
abbrev pub TakesSome : Type 0
TakesSome = (s : List ℕ) (p : Answer × ℕ) → first s ≡ Some p → (0 < p.1) × (p.1 ≤ length s)

-- the length that is told with an answer is the end of the shortest front that decides it: that front does, and a shorter one decides nothing
abbrev pub EndsShortest : Type 0
EndsShortest = (s : List ℕ) (p : Answer × ℕ) → first s ≡ Some p → (first (take p.1 s) ≡ Some p) × ((n : ℕ) → n < p.1 → first (take n s) ≡ None)

-- the answers of a prefix of a stream are the first answers of the stream
abbrev pub AnswersGrow : Type 0
AnswersGrow = (s more : List ℕ) → (rest : List Answer) × (answers (s ++ more) ≡ answers s ++ rest)
