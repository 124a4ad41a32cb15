-- The meaning of a run (this project): what each stream is owed, in the order in which records complete it, and one request after another.
use Rattle.std.specs.Prelude.{ℕ, ◌+◌, ◌==◌, List, [], ◌∷◌, ◌++◌, length, drop, map, if◌then◌else◌, ⊤}
use Rattle.resin_site.specs.Under.meaning.Programs.{KeeperCall, Moment}
use Rattle.resin_site.specs.Keeping.{St}
use Rattle.resin_trace.specs.declared.event.TraceEvent.{TraceEvent}
use Rattle.resin_trace.specs.declared.event.TraceEvent.TheVariants.{Piece, End}
use Rattle.resin_site.specs.Under.http.Stream.{Answer, answers}
use Rattle.resin_site.specs.Laws.{Obeys}
use Rattle.resin_site.specs.Replies as site
use Rattle.resin_serve.specs.declared.logging.Logging.{Logging}
use Rattle.resin_serve.specs.Logs.{CanTell}

-- what an answer gives to the three sinks, with what its log tells, the reply of the site that it is, the state after it, and
-- the moments that it goes through: each with what the keepers hold then and the answer's keeper calls until then
pub record Reply : Type 0 where
  pub logging : Logging
  pub log : List ℕ
  pub mail : List ℕ
  pub out : List ℕ
  pub is : site.Reply
  pub after : St
  pub moments : List Moment

-- the numbers of the failing calls, the state, the number of the answer, the connection, what is asked
abbrev pub Meaning : Type 0
Meaning = List ℕ → St → ℕ → ℕ → Answer → Reply

-- an answer that is owed: on a connection, for what was asked there, and the place after the record that completes it
pub record Owed : Type 0 where
  pub conn : ℕ
  pub asked : Answer
  pub place : ℕ

-- the stream of a connection's life after one more record
abbrev pub grown : ℕ → List ℕ → TraceEvent → List ℕ
grown c s (Piece d bytes) = if d == c then s ++ bytes else s
grown c s (End d) = if d == c then [] else s

abbrev pub life_from : ℕ → List ℕ → List TraceEvent → List ℕ
life_from c s [] = s
life_from c s (e ∷ es) = life_from c (grown c s e) es

-- the stream of a connection's life after these records
unfoldable pub life : ℕ → List TraceEvent → List ℕ
life c es = life_from c [] es

-- the answers that a piece completes: those of the stream with it that weren't there before
unfoldable pub added : ℕ → ℕ → List ℕ → List ℕ → List Owed
added place c s bytes = map (λ a. record { conn = c; asked = a; place = place }) (drop (length (answers s)) (answers (s ++ bytes)))

abbrev pub fresh : List TraceEvent → TraceEvent × ℕ → List Owed
fresh seen (Piece c bytes, place) = added place c (life c seen) bytes
fresh seen (End c, place) = []

-- the answers of these records after those, in order
abbrev pub order : List TraceEvent → List (TraceEvent × ℕ) → List Owed
order seen [] = []
order seen (e ∷ es) = fresh seen e ++ order (seen ++ e.0 ∷ []) es

-- the bytes of an answer with the number of their sink: the log is 0, the mail 1, the output 2
abbrev pub tagged : Reply → List (ℕ × ℕ)
tagged r = map (λ b. (0, b)) r.log ++ map (λ b. (1, b)) r.mail ++ map (λ b. (2, b)) r.out

abbrev pub reply : Meaning → List ℕ → St → ℕ → Owed → Reply
reply R K s number a = R K s number a.conn a.asked

-- the bytes that the answers give in order, each numbered one more than the one before it
abbrev pub bytes_of : Meaning → List ℕ → St → ℕ → List Owed → List (ℕ × ℕ)
bytes_of R K s number [] = []
bytes_of R K s number (a ∷ xs) = tagged (reply R K s number a) ++ bytes_of R K (reply R K s number a).after (number + 1) xs

-- the state after them
abbrev pub after_of : Meaning → List ℕ → St → ℕ → List Owed → St
after_of R K s number [] = s
after_of R K s number (a ∷ xs) = after_of R K (reply R K s number a).after (number + 1) xs

-- the keeper calls that they make, in order
abbrev pub calls_of : Meaning → List ℕ → St → ℕ → List Owed → List KeeperCall
calls_of R K s number [] = []
calls_of R K s number (a ∷ xs) = (reply R K s number a).is.calls ++ calls_of R K (reply R K s number a).after (number + 1) xs

-- what holds of the answer of a run with this number: it obeys the access law, and its log can be told
pub record IsLawfulAnswer (number : ℕ) (r : Reply) : Type 0 where
  pub obeys : Obeys number r.is
  pub told : CanTell r.logging number r.is.journal

-- each of these answers of the run obeys the access law at its number
abbrev pub AllObey : Meaning → List ℕ → St → ℕ → List Owed → Type 0
AllObey R K s number [] = ⊤
AllObey R K s number (a ∷ xs) = IsLawfulAnswer number (reply R K s number a) × AllObey R K (reply R K s number a).after (number + 1) xs
