-- What went out is what the journal says was sent (the access law of an answer).
use Rattle.std.specs.Prelude.{◌≡◌, ℕ, List, [], ◌∷◌, Option, Some, None, decimal, ◌⊎◌, ⊤}
use Rattle.std.specs.List.{flat_map, filter_map}
use Rattle.resin_scope.specs.Under.bytes.declared.header.Header.{Header}
use Rattle.resin_scope.specs.Under.lstr.Texts.{Text, bytes_of}
use Rattle.resin_scope.specs.Under.journal.declared.event.Event.{Event}
use Rattle.resin_scope.specs.Under.journal.declared.event.Event.TheVariants.{Passed, Sent, Denied, FilterDenied}
use Rattle.resin_scope.specs.Under.journal.declared.channel.Channel.{Channel}
use Rattle.resin_scope.specs.Under.journal.declared.channel.Channel.TheVariants.{Http, Header as HeaderChannel, Email, File, Sql, Code, Input, Func}
use Rattle.resin_scope.specs.Under.journal.Events.{EventList}
use Rattle.resin_stage.specs.Lines.{mail_record, header_line}
use Rattle.resin_stage.specs.Stages.{Stage}

-- what was sent by a channel that the body, the headers or the mail take
pub data Sending : Type 0 where
  nothing : Sending
  page : Text → Sending
  line : Text → Sending
  letter : Text → Sending

abbrev pub sending_by : Channel → Text → Sending
sending_by Http t = page t
sending_by HeaderChannel t = line t
sending_by Email t = letter t
sending_by File t = nothing
sending_by Sql t = nothing
sending_by Code t = nothing
sending_by Input t = nothing
sending_by Func t = nothing

abbrev pub sending_of : Event → Sending
sending_of (Passed w p) = nothing
sending_of (Sent w c t) = sending_by c t
sending_of (Denied w c p class from to by) = nothing
sending_of (FilterDenied w c f class len by) = nothing

abbrev pub page_bytes : Sending → List ℕ
page_bytes nothing = []
page_bytes (page t) = bytes_of t
page_bytes (line t) = []
page_bytes (letter t) = []

abbrev pub letter_bytes : ℕ → Sending → List ℕ
letter_bytes request nothing = []
letter_bytes request (page t) = []
letter_bytes request (line t) = []
letter_bytes request (letter t) = mail_record request t

abbrev pub line_bytes : Sending → Option (List ℕ)
line_bytes nothing = None
line_bytes (page t) = None
line_bytes (line t) = Some (bytes_of t)
line_bytes (letter t) = None

-- the bodies sent, joined
abbrev pub sent_body : EventList → List ℕ
sent_body j = flat_map (λ e. page_bytes (sending_of e)) j

-- the records of the mail sent, joined
abbrev pub sent_mails : ℕ → EventList → List ℕ
sent_mails request j = flat_map (λ e. letter_bytes request (sending_of e)) j

-- what was sent on `header`, in order
abbrev pub sent_lines : EventList → List (List ℕ)
sent_lines j = filter_map (λ e. line_bytes (sending_of e)) j

-- the headers that were sent, in order: a status is sent on the same channel, but is no header line
abbrev pub sent_headers : EventList → List Header
sent_headers j = filter_map header_line (sent_lines j)

-- the first list is the second with some items left out
abbrev pub IsPartOf : {X : Type 0} → List X → List X → Type 0
IsPartOf [] ys = ⊤
IsPartOf (x ∷ xs) [] = ⊥
IsPartOf (x ∷ xs) (y ∷ ys) = ((x ≡ y) × IsPartOf xs ys) ⊎ IsPartOf (x ∷ xs) ys

-- the text is one of these
abbrev pub IsOneOf : List ℕ → List (List ℕ) → Type 0
IsOneOf x [] = ⊥
IsOneOf x (y ∷ ys) = (x ≡ y) ⊎ IsOneOf x ys

-- the body is what was sent on `http`, and the mail what was sent on `email`; each header was sent on `header`, and they stand in that order; the
-- status is the first one, that of a `Location` header, or was sent
pub record IsTied (request : ℕ) (s : Stage) : Type 0 where
  pub body : s.body ≡ sent_body s.journal
  pub mail : s.mail ≡ sent_mails request s.journal
  pub headers : IsPartOf s.headers (sent_headers s.journal)
  pub status : (s.status ≡ 200) ⊎ ((s.status ≡ 302) ⊎ IsOneOf (decimal s.status) (sent_lines s.journal))
