-- The outcomes of requests, and the response of a refusal (this project).
use Rattle.std.specs.Prelude.{ℕ, Bool, false, List, [], ◌++◌, codes, decimal, Result, Ok, Err}
use Rattle.resin_request.specs.Under.http.Response.{response}
use Rattle.resin_request.specs.Under.scalar.Faults.{fault_name}
use Rattle.resin_request.specs.Under.stage.Stages.{Stage}
use Rattle.resin_request.specs.Under.machine.declared.stop.Stop.{Stop}
use Rattle.resin_request.specs.Under.machine.declared.stop.Stop.TheVariants.{Thrown, Memory}
use Rattle.resin_request.specs.Under.machine.declared.stop.Stop.TheVariants as stop
use Rattle.resin_request.specs.Under.machine.State.{State}
use Rattle.resin_request.specs.Under.machine.Leaving.{class_name_of}
use Rattle.resin_request.specs.declared.request.Finish.{Finish}
use Rattle.resin_request.specs.declared.request.Finish.TheVariants as finish
use Rattle.resin_request.specs.Paths.{kind_of, plain_kind}
use Rattle.resin_site.specs.declared.outcome.End.{End}
use Rattle.resin_site.specs.declared.outcome.End.TheVariants.{Served, NotFound, Uncaught, Fault, Keeper}
use Rattle.resin_site.specs.declared.outcome.Outcome.{Outcome}

-- how a request ends, by how its steps came to their end and the state that they left; no meaning ends by `exit` or for want of memory
abbrev pub end_of : Result Finish Stop → State → End
end_of (Ok finish.Answered) m = Served
end_of (Ok finish.Missing) m = NotFound
end_of (Err (Thrown o)) m = Uncaught (class_name_of o m)
end_of (Err stop.Exit) m = Served
end_of (Err (stop.Fault f line)) m = Fault f line
end_of (Err stop.Keeper) m = Keeper
end_of (Err Memory) m = Served

-- the status of a request that ends so, whose scripts set this one
abbrev pub status_of : End → ℕ → ℕ
status_of Served own = own
status_of NotFound own = 404
status_of (Uncaught class) own = 500
status_of (Fault f line) own = 500
status_of Keeper own = 503

-- the text that the end puts behind the body
abbrev pub fixed_text : End → List ℕ
fixed_text Served = []
fixed_text NotFound = codes "Not found\n"
fixed_text (Uncaught class) = codes "Uncaught " ++ class ++ codes "\n"
fixed_text (Fault f line) = codes "Script fault " ++ fault_name f ++ codes " at line " ++ decimal line ++ codes "\n"
fixed_text Keeper = codes "Keeper fault\n"

-- the type of the answer for a path, where no header tells it
abbrev pub kind_at : End → List ℕ → List ℕ
kind_at NotFound path = plain_kind
kind_at Served path = kind_of path
kind_at (Uncaught class) path = kind_of path
kind_at (Fault f line) path = kind_of path
kind_at Keeper path = kind_of path

-- the outcome of a request that ends so, with what left: the body that went out and the fixed text, and the response that is made of the parts
abbrev pub with_parts : List ℕ → Bool → End → Stage → Outcome
with_parts path head_only end s = record {
  end = end;
  status = status_of end s.status;
  headers = s.headers;
  body = s.body ++ fixed_text end;
  response = response (status_of end s.status) s.headers (kind_at end path) (s.body ++ fixed_text end) head_only;
  mail = s.mail;
  journal = s.journal;
}

-- the outcome of a request for a path, by how its steps came to their end and the state that they left
abbrev pub outcome : List ℕ → Bool → Result Finish Stop → State → Outcome
outcome path head_only end m = with_parts path head_only (end_of end m) m.stage

-- the body of a refusal
abbrev pub refused : ℕ → List ℕ
refused status = codes "Request refused: " ++ decimal status ++ codes "\n"

-- the response of a refusal, whose body is always kept
abbrev pub refusal_text : ℕ → List ℕ
refusal_text status = response status [] plain_kind (refused status) false
