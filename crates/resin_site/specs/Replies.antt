-- What a request means (this project): how it ends, its answer, and what the keepers hold after it.
use Rattle.std.specs.Prelude.{ℕ, Bool, false, true, List, [], ◌∷◌, ◌++◌, Option, Some, None}
use Rattle.resin_request.specs.Under.bytes.declared.header.Header.{Header}
use Rattle.resin_request.specs.Under.http.declared.request.Method.{Method}
use Rattle.resin_request.specs.Under.http.declared.request.Method.TheVariants.{Get, Head, Post}
use Rattle.resin_request.specs.Under.http.declared.request.Request.{Request}
use Rattle.resin_request.specs.Under.http.Stream.{Answer, asks, refuses}
use Rattle.resin_request.specs.Under.http.Inputs.{inputs_of}
use Rattle.resin_request.specs.Under.journal.Events.{EventList}
use Rattle.resin_request.specs.Under.journal.Lines.{log_of}
use Rattle.resin_request.specs.Under.machine.State.{new_state}
use Rattle.resin_request.specs.Under.meaning.Programs.{Whole, KeeperCall, Moment, moment, Out}
use Rattle.resin_request.specs.declared.request.Finish.{Finish}
use Rattle.resin_request.specs.Paths.{path_of}
use Rattle.resin_request.specs.Requests.{request_program}
use Rattle.resin_site.specs.declared.outcome.End.{End}
use Rattle.resin_site.specs.declared.outcome.Outcome.{Outcome}
use Rattle.resin_site.specs.Keeping.{Store, St, state}
use Rattle.resin_site.specs.Outcomes.{outcome, refused, refusal_text}

-- an answer: how it ended (nothing where the stream was refused), the parts of its response, its mail, its journal and its log, the state after it,
-- the keeper calls that it made, and the moments that it went through
pub record Reply : Type 0 where
  pub end : Option End
  pub status : ℕ
  pub headers : List Header
  pub body : List ℕ
  pub response : List ℕ
  pub mail : List ℕ
  pub journal : EventList
  pub log : List ℕ
  pub after : St
  pub calls : List KeeperCall
  pub moments : List Moment

-- only the head of the response is wanted
abbrev pub is_head : Method → Bool
is_head Get = false
is_head Head = true
is_head Post = false

-- a request begins: with so much fuel, from what the keepers hold after so many calls, with this number for its mail and its log
abbrev pub begun : ℕ → Store → ℕ → ℕ → Whole
begun fuel store made number = record { state = new_state fuel number; store = store; made = made }

-- the first moment, those that the steps went through, and the last
abbrev pub all_moments : Whole → Out Finish → List Moment
all_moments at o = moment [] at ∷ (o.moments ++ moment o.calls o.whole ∷ [])

-- the reply of an outcome, in an answer of this number, whose steps did this
abbrev pub reply_with : ℕ → Outcome → Whole → Out Finish → Reply
reply_with number a at o = record {
  end = Some a.end;
  status = a.status;
  headers = a.headers;
  body = a.body;
  response = a.response;
  mail = a.mail;
  journal = a.journal;
  log = log_of number a.journal;
  after = state o.whole.store o.whole.made;
  calls = o.calls;
  moments = all_moments at o;
}

-- what the steps did for a path, told as a reply
abbrev pub reply_out : ℕ → List ℕ → Bool → Whole → Out Finish → Reply
reply_out number path head_only at o = reply_with number (outcome path head_only o.end o.whole.state) at o

-- the steps of a request, from its begin, where the calls that K lists fail
unfoldable pub steps : ℕ → List ℕ → Store → ℕ → ℕ → Request → Out Finish
steps fuel K store made number r = request_program (path_of r.target) (inputs_of r) K (begun fuel store made number)

-- the answer to a request, with so much fuel, where the calls that K lists fail, from what the keepers hold after so many calls. Its number is for
-- its mail and its log.
unfoldable pub request : ℕ → List ℕ → Store → ℕ → ℕ → Request → Reply
request fuel K store made number r =
    reply_out number (path_of r.target) (is_head r.method) (begun fuel store made number) (steps fuel K store made number r)

-- the answer to a refused stream, without a call
abbrev pub refusal : Store → ℕ → ℕ → Reply
refusal store made status = record {
  end = None;
  status = status;
  headers = [];
  body = refused status;
  response = refusal_text status;
  mail = [];
  journal = [];
  log = [];
  after = state store made;
  calls = [];
  moments = record { journal = []; store = store; calls = [] } ∷ [];
}

-- the answer to what a stream asks
abbrev pub answer : ℕ → List ℕ → Store → ℕ → ℕ → Answer → Reply
answer fuel K store made number (asks r) = request fuel K store made number r
answer fuel K store made number (refuses status) = refusal store made status
