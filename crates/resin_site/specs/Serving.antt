-- What serving a request leaves.
use Rattle.std.specs.Prelude.{◌≡◌, ℕ, ◌+◌, List, [], ◌∷◌, ◌++◌, length, Option, Some, None, Result, Ok, Err, ⊤}
use Rattle.std.specs.declared.alloc.AllocError.{AllocError}
use Rattle.resin_request.specs.Under.http.declared.request.Request.{Request}
use Rattle.resin_request.specs.Under.meaning.Programs.{KeeperCall, Moment}
use Rattle.resin_request.specs.Under.meaning.Runs.{Reached}
use Rattle.resin_site.specs.declared.outcome.End.{End}
use Rattle.resin_site.specs.declared.outcome.End.TheVariants.{Served as Done, NotFound, Uncaught, Fault, Keeper}
use Rattle.resin_site.specs.declared.outcome.Outcome.{Outcome}
use Rattle.resin_site.specs.Keeping.{Store, WhereTold}
use Rattle.resin_site.specs.Replies.{Reply, request}

-- the outcome is what the reply says
pub record IsReply (o : Outcome) (r : Reply) : Type 0 where
  pub end : Some o.end ≡ r.end
  pub status : o.status ≡ r.status
  pub headers : o.headers ≡ r.headers
  pub body : o.body ≡ r.body
  pub response : o.response ≡ r.response
  pub mail : o.mail ≡ r.mail
  pub journal : o.journal ≡ r.journal

-- the whole request was served: the outcome, what the keepers hold, the number of calls and the calls are the reply's
pub record WholeReply (Called : List KeeperCall → Type 0) (o : Outcome) (r : Reply) (new : Option Store) (made : ℕ) : Type 0 where
  pub says : IsReply o r
  pub made_is : made ≡ r.after.made
  pub store_is : new ≡ Some r.after.store
  pub called : Called r.calls

-- memory was wanting at one of its moments: the keepers hold what they held then, and the calls are those made until then
pub record PartReply (Called : List KeeperCall → Type 0) (before : ℕ) (r : Reply) (new : Option Store) (made : ℕ) : Type 0 where
  pub at : Moment
  pub reached : Reached at r.moments
  pub made_is : made ≡ before + length at.calls
  pub store_is : new ≡ Some at.store
  pub called : Called at.calls

abbrev pub ServedAs : (List KeeperCall → Type 0) → ℕ → Reply → Result Outcome AllocError → Option Store → ℕ → Type 0
ServedAs Called before r (Ok o) new made = WholeReply Called o r new made
ServedAs Called before r (Err e) new made = PartReply Called before r new made

-- where the keepers tell what they hold, the request was served as it means
abbrev pub Served : ℕ → List ℕ → Option Store → ℕ → ℕ → Request → (List KeeperCall → Type 0) → Result Outcome AllocError → Option Store → ℕ → Type 0
Served fuel K old before number r Called result new made =
    WhereTold old (λ s. ServedAs Called before (request fuel K s before number r) result new made)

-- a keeper's failure ends a request: exactly then the number of its last call is listed
abbrev pub EndLists : End → ℕ → List ℕ → List ℕ → Type 0
EndLists Done made failed failed' = failed' ≡ failed
EndLists NotFound made failed failed' = failed' ≡ failed
EndLists (Uncaught class) made failed failed' = failed' ≡ failed
EndLists (Fault f line) made failed failed' = failed' ≡ failed
EndLists Keeper made failed failed' = failed' ≡ failed ++ made ∷ []

abbrev pub Ends : Result Outcome AllocError → ℕ → List ℕ → List ℕ → Type 0
Ends (Ok o) made failed failed' = EndLists o.end made failed failed'
Ends (Err e) made failed failed' = ⊤
