-- Isolation of sessions (this project): what a request does depends on its own session and on what all share, and it changes no other session.
use Rattle.std.specs.Prelude.{◌≡◌, ℕ, true, false, List, Option}
use Rattle.std.specs.FinMap.{get}
use Rattle.resin_request.specs.Under.http.Inputs.{inputs_of}
use Rattle.resin_request.specs.Under.http.declared.request.Request.{Request}
use Rattle.resin_request.specs.Under.meaning_forms.Sessions.{is_of_other}
use Rattle.resin_request.specs.Sessions.{session_of}
use Rattle.resin_site.specs.Framing.{SayTheSame}
use Rattle.resin_site.specs.Keeping.{Store}
use Rattle.resin_site.specs.Replies.{Reply, request}

-- two stores agree on all tables, and on all files but those of other sessions than this one
pub record AgreeFor (own : Option (List ℕ)) (s t : Store) : Type 0 where
  pub tables : s.tables ≡ t.tables
  pub files : (path : List ℕ) → is_of_other own path ≡ false → get s.files path ≡ get t.files path

-- every other session is kept as it was
abbrev pub KeepsOthers : Option (List ℕ) → Store → Store → Type 0
KeepsOthers own s s' = (path : List ℕ) → is_of_other own path ≡ true → get s'.files path ≡ get s.files path

-- what a request does from two stores that agree for it: the replies say the same after as many calls, the new stores agree in the same way,
-- and each keeps every other session
pub record Isolates (own : Option (List ℕ)) (s t : Store) (r r' : Reply) : Type 0 where
  pub same : SayTheSame r r'
  pub made : r.after.made ≡ r'.after.made
  pub agree : AgreeFor own r.after.store r'.after.store
  pub kept : KeepsOthers own s r.after.store
  pub kept_too : KeepsOthers own t r'.after.store

-- a request with so much fuel, this number and so many calls before it is isolated from the sessions of others, whatever calls fail
abbrev pub IsIsolated : ℕ → ℕ → ℕ → Request → Type 0
IsIsolated fuel made number r =
    (K : List ℕ) (s t : Store) → AgreeFor (session_of (inputs_of r)) s t
    → Isolates (session_of (inputs_of r)) s t (request fuel K s made number r) (request fuel K t made number r)
