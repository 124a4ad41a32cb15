-- The access law of an answer: data leaves only through checked writes, and the answer is what they sent (RESIN's claim, over this
-- project's journal).
use Rattle.std.specs.Prelude.{◌≡◌, ℕ, Bool, List, [], ◌++◌, decimal, ◌⊎◌, Option, Some, None}
use Rattle.resin_request.specs.Under.http.Response.{response}
use Rattle.resin_request.specs.Under.journal.Access.{ObeysAccessLaw, ClassesAreNames}
use Rattle.resin_request.specs.Under.stage.Ties.{sent_body, sent_mails, sent_headers, sent_lines, IsPartOf, IsOneOf}
use Rattle.resin_site.specs.declared.outcome.End.TheVariants.{Served}
use Rattle.resin_site.specs.declared.outcome.End.{End}
use Rattle.resin_site.specs.declared.outcome.Outcome.{Outcome}
use Rattle.resin_site.specs.Outcomes.{fixed_text, kind_at, refused, refusal_text}
use Rattle.resin_site.specs.Replies.{Reply}
use Rattle.resin_site.specs.Serving.{IsReply}

-- the response is the text of the status, the headers and the body, or, where only the head was asked for, of them without the body; a path tells the
-- type where no header does
pub record IsTextOfParts (o : Outcome) : Type 0 where
  pub path : List ℕ
  pub head_only : Bool
  pub text : o.response ≡ response o.status o.headers (kind_at o.end path) o.body head_only

-- The journal obeys the law of writes, and tells classes by names. The body is what was sent on `http`, and then the fixed text of the end.
-- The mail is what was sent on `email`, in the request of this number. Each header was sent on `header`, and they stand in that order. Where
-- the request was served, the status is the first one, that of a `Location` header, or was sent. The response says this status, these
-- headers and this body, and nothing else.
pub record IsLawful (request : ℕ) (o : Outcome) : Type 0 where
  pub writes : ObeysAccessLaw o.journal
  pub classes : ClassesAreNames o.journal
  pub body : o.body ≡ sent_body o.journal ++ fixed_text o.end
  pub mail : o.mail ≡ sent_mails request o.journal
  pub headers : IsPartOf o.headers (sent_headers o.journal)
  pub status : o.end ≡ Served → (o.status ≡ 200) ⊎ ((o.status ≡ 302) ⊎ IsOneOf (decimal o.status) (sent_lines o.journal))
  pub response : IsTextOfParts o

-- an outcome that this reply tells obeys the access law: all its parts are the reply's
pub record TellsLawful (request : ℕ) (r : Reply) : Type 0 where
  pub outcome : Outcome
  pub told : IsReply outcome r
  pub lawful : IsLawful request outcome

-- A refusal lets no data leave: nothing was written or mailed, no keeper was called, and its body is the fixed text of its status alone, of which
-- the response is made.
pub record IsRefusal (r : Reply) : Type 0 where
  pub journal : r.journal ≡ []
  pub log : r.log ≡ []
  pub mail : r.mail ≡ []
  pub calls : r.calls ≡ []
  pub headers : r.headers ≡ []
  pub body : r.body ≡ refused r.status
  pub response : r.response ≡ refusal_text r.status

abbrev pub ObeysIn : Option End → ℕ → Reply → Type 0
ObeysIn None request r = IsRefusal r
ObeysIn (Some end) request r = TellsLawful request r

-- a reply obeys the access law at this number: its outcome does, or the stream was refused, and no data left
abbrev pub Obeys : ℕ → Reply → Type 0
Obeys request r = ObeysIn r.end request r
