-- What leaves a request: its writes so far, and the answer under way (this project).
use Rattle.std.specs.Prelude.{ℕ, Bool, ◌+◌, List, [], ◌∷◌, ◌++◌, refl}
use Rattle.std.specs.Coded.{Coded, code_by, coded×, coded_ℕ, coded_list}
use Rattle.resin_scope.specs.Under.bytes.declared.header.Header.{Header}
use Rattle.resin_scope.specs.Under.lstr.Texts.{Text, text_code, bytes_of}
use Rattle.resin_scope.specs.Under.journal.declared.event.Event.{Event}
use Rattle.resin_scope.specs.Under.journal.declared.event.Event.TheVariants.{Sent}
use Rattle.resin_scope.specs.Under.journal.declared.channel.Channel.TheVariants.{Http, Header as HeaderChannel, Email}
use Rattle.resin_scope.specs.Under.journal.Events.{EventList, events_code}
use Rattle.resin_scope.specs.Pages.{headers_with, status_with, appended_to_innermost}
use Rattle.resin_stage.specs.Lines.{mail_record}

pub record Stage : Type 0 where
  -- what the writes and filters did so far
  pub journal : EventList
  -- the last write number that was drawn, 0 before the first
  pub writes : ℕ
  pub status : ℕ
  -- the headers that scripts set
  pub headers : List Header
  -- the body that went out
  pub body : List ℕ
  -- the records of the mail that went out
  pub mail : List ℕ
  -- the open output buffers, from the outermost to the innermost
  pub buffers : List Text

-- ---- how stages are told apart
abbrev header_code : Coded Header
header_code =
    code_by (List ℕ × List ℕ) (coded× (coded_list coded_ℕ) (coded_list coded_ℕ))
    (λ h. (h.name, h.value)) (λ p. record { name = p.0; value = p.1 }) (λ _. refl)

abbrev Parts : Type 0
Parts = EventList × (ℕ × (ℕ × (List Header × (List ℕ × (List ℕ × List Text)))))

abbrev pub stage_code : Coded Stage
stage_code =
    code_by Parts
    (coded× events_code (coded× coded_ℕ (coded× coded_ℕ (coded× (coded_list header_code)
    (coded× (coded_list coded_ℕ) (coded× (coded_list coded_ℕ) (coded_list text_code)))))))
    (λ s. (s.journal, (s.writes, (s.status, (s.headers, (s.body, (s.mail, s.buffers)))))))
    (λ p. record {
      journal = p.0;
      writes = p.1.0;
      status = p.1.1.0;
      headers = p.1.1.1.0;
      body = p.1.1.1.1.0;
      mail = p.1.1.1.1.1.0;
      buffers = p.1.1.1.1.1.1;
    })
    (λ _. refl)

-- nothing left yet: the status is 200
abbrev pub new_stage : Stage
new_stage = record { journal = []; writes = 0; status = 200; headers = []; body = []; mail = []; buffers = [] }

-- a write begins
abbrev pub drawn : Stage → Stage
drawn s = record s { writes = s.writes + 1 }

-- an event comes
abbrev pub noted : Event → Stage → Stage
noted e s = record s { journal = s.journal ++ e ∷ [] }

-- a text goes out with the body
abbrev pub sent_page : ℕ → Text → Stage → Stage
sent_page w t s = record s { journal = s.journal ++ Sent w Http t ∷ []; body = s.body ++ bytes_of t }

-- a header line goes out, with this name and value
abbrev pub sent_header : ℕ → Text → List ℕ → List ℕ → Bool → Stage → Stage
sent_header w t name value replace s = record s {
  journal = s.journal ++ Sent w HeaderChannel t ∷ [];
  headers = headers_with name value replace s.headers;
  status = status_with name s.status;
}

-- a status goes out, told by its decimal text
abbrev pub sent_status : ℕ → Text → ℕ → Stage → Stage
sent_status w t status s = record s { journal = s.journal ++ Sent w HeaderChannel t ∷ []; status = status }

-- a mail goes out, in the request of this number
abbrev pub sent_mail : ℕ → ℕ → Text → Stage → Stage
sent_mail request w t s = record s { journal = s.journal ++ Sent w Email t ∷ []; mail = s.mail ++ mail_record request t }

-- a buffer opens
abbrev pub opened : Stage → Stage
opened s = record s { buffers = s.buffers ++ [] ∷ [] }

-- the buffers without the innermost
abbrev pub outer_buffers : List Text → List Text
outer_buffers [] = []
outer_buffers (b ∷ []) = []
outer_buffers (b ∷ c ∷ bs) = b ∷ outer_buffers (c ∷ bs)

-- the innermost buffer closes
abbrev pub closed : Stage → Stage
closed s = record s { buffers = outer_buffers s.buffers }

-- a text goes into the innermost buffer
abbrev pub buffered : Text → Stage → Stage
buffered t s = record s { buffers = appended_to_innermost t s.buffers }
