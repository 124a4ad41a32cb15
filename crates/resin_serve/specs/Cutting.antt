-- A stream that comes in pieces (this project).
use Rattle.std.specs.Prelude.{◌≡◌, ℕ, ◌==◌, List, [], ◌∷◌, ◌++◌, length, drop, if◌then◌else◌, ⊤}
use Rattle.std.specs.List.{flat_map}
use Rattle.resin_site.specs.Under.http.Stream.{Answer, answers}
use Rattle.resin_trace.specs.declared.event.TraceEvent.{TraceEvent}
use Rattle.resin_trace.specs.declared.event.TraceEvent.TheVariants.{Piece, End}
use Rattle.resin_trace.specs.Records.{Records}
use Rattle.resin_site.specs.Keeping.{St}
use Rattle.resin_serve.specs.Meaning.{Meaning, Owed, life, order, bytes_of, after_of, calls_of}
use Rattle.resin_serve.specs.Ran.{World}
use Rattle.resin_serve.specs.Whole_run.{RunOf}
use Rattle.resin_serve.specs.declared.give.Given.TheVariants.{Whole}
use Rattle.resin_serve.specs.Top.{events}

-- records of pieces on one connection, each piece with the place after its record
abbrev pub pieces_on : ℕ → List (List ℕ × ℕ) → List (TraceEvent × ℕ)
pieces_on c [] = []
pieces_on c (p ∷ ps) = (Piece c p.0, p.1) ∷ pieces_on c ps

-- their bytes, joined
abbrev pub joined : List (List ℕ × ℕ) → List ℕ
joined [] = []
joined (p ∷ ps) = p.0 ++ joined ps

-- what is asked, in order
abbrev pub all_asked : List Owed → List Answer
all_asked [] = []
all_asked (a ∷ xs) = a.asked ∷ all_asked xs

-- what is asked and on which connection, in order
abbrev pub all_told : List Owed → List (ℕ × Answer)
all_told [] = []
all_told (a ∷ xs) = (a.conn, a.asked) ∷ all_told xs

-- however the bytes that come next on a connection are cut into pieces, what is asked is what their join asks after the bytes that came before
abbrev pub AnyCutting : Type 0
AnyCutting = (seen : List TraceEvent) (c : ℕ) (pieces : List (List ℕ × ℕ))
    → all_asked (order seen (pieces_on c pieces)) ≡ drop (length (answers (life c seen))) (answers (life c seen ++ joined pieces))

-- what is asked, and on which connection, tells the bytes that are given, the state after them, and the keeper calls that are made
abbrev pub AskedTells : Type 0
AskedTells = (R : Meaning) (K : List ℕ) (s : St) (number : ℕ) (xs ys : List Owed) → all_told xs ≡ all_told ys
    → (bytes_of R K s number xs ≡ bytes_of R K s number ys)
    × (after_of R K s number xs ≡ after_of R K s number ys)
    × (calls_of R K s number xs ≡ calls_of R K s number ys)

-- the streams of a connection's lives in these records, after what its life so far brought: a life ends with the connection's `end`
abbrev pub lives_from : ℕ → List ℕ → List TraceEvent → List (List ℕ)
lives_from c s [] = s ∷ []
lives_from c s (Piece d bytes ∷ es) = lives_from c (if d == c then s ++ bytes else s) es
lives_from c s (End d ∷ es) = if d == c then s ∷ lives_from c [] es else lives_from c s es

abbrev pub lives : ℕ → List TraceEvent → List (List ℕ)
lives c es = lives_from c [] es

-- what is asked on a connection, in order
abbrev pub asked_on : ℕ → List Owed → List Answer
asked_on c [] = []
asked_on c (a ∷ xs) = if a.conn == c then a.asked ∷ asked_on c xs else asked_on c xs

-- what records ask on a connection is what the streams of its lives ask, one life after another
abbrev pub LivesTell : Type 0
LivesTell = (c : ℕ) (records : List (TraceEvent × ℕ)) → asked_on c (order [] records) ≡ flat_map answers (lives c (events records))

-- two traces ask the same on a connection whose lives have the same streams in both, however these are cut into pieces and mixed with others
abbrev pub SameLives : Type 0
SameLives = (trace trace' rest rest' : List ℕ) (xs ys : List (TraceEvent × ℕ)) → Records trace xs rest → Records trace' ys rest'
    → (c : ℕ) → lives c (events xs) ≡ lives c (events ys) → asked_on c (order [] xs) ≡ asked_on c (order [] ys)

-- two traces ask the same on the same connections, in the same order
abbrev pub AskSame : List (TraceEvent × ℕ) → List (TraceEvent × ℕ) → Type 0
AskSame xs ys = all_told (order [] xs) ≡ all_told (order [] ys)

-- the whole run of the one is the whole run of the other: over the same site, with the same fuel and failing calls, it gives the same bytes to the
-- sinks, makes the same keeper calls and leaves the same store
abbrev pub RunSame : List ℕ → List ℕ → Type 0
RunSame trace trace' = (R : Meaning) (K : List ℕ) (old new : World) → RunOf Whole (λ _. ⊤) R K trace old new → RunOf Whole (λ _. ⊤) R K trace' old new

-- two traces that ask the same on the same connections, in the same order, have the same runs
abbrev pub SameRuns : Type 0
SameRuns =
    (trace trace' rest rest' : List ℕ) (xs ys : List (TraceEvent × ℕ)) → Records trace xs rest → Records trace' ys rest'
    → AskSame xs ys → RunSame trace trace'

-- each record is on this connection
abbrev pub AreOn : ℕ → List TraceEvent → Type 0
AreOn c [] = ⊤
AreOn c (Piece d bytes ∷ es) = (d ≡ c) × AreOn c es
AreOn c (End d ∷ es) = (d ≡ c) × AreOn c es

-- two traces on one connection whose lives have the same streams ask the same, in the same order, however the streams are cut into pieces; so they
-- have the same runs
abbrev pub OneConnection : Type 0
OneConnection = (c : ℕ) (trace trace' rest rest' : List ℕ) (xs ys : List (TraceEvent × ℕ)) → Records trace xs rest → Records trace' ys rest'
    → AreOn c (events xs) → AreOn c (events ys) → lives c (events xs) ≡ lives c (events ys) → AskSame xs ys × RunSame trace trace'
