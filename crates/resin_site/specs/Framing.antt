-- The frame of an answer (this project): it means the same from every store that agrees on the names that its keeper calls touch, and it leaves every
-- name that they don't change as it was.
use Rattle.std.specs.Prelude.{◌≡◌, ℕ, ◌+◌, ◌≤◌, ◌<◌, List, length, Some}
use Rattle.resin_request.specs.Under.base.Causes.{last_count}
use Rattle.resin_request.specs.Under.frame.Frames.{AgreeOn, KeepsTheRest, FailAlike}
use Rattle.resin_request.specs.Under.http.declared.request.Request.{Request}
use Rattle.resin_request.specs.Under.journal.Lines.{log_of}
use Rattle.resin_request.specs.Under.scalar.declared.faults.ScriptFault.TheVariants.{FuelSpent}
use Rattle.resin_request.specs.Under.stage.Ties.{sent_mails}
use Rattle.resin_site.specs.declared.outcome.End.TheVariants.{Fault}
use Rattle.resin_site.specs.Keeping.{Store}
use Rattle.resin_site.specs.Replies.{Reply, request}

-- two replies say the same: they end alike, with equal answers, mail, journals and logs, after equal calls
pub record SayTheSame (r r' : Reply) : Type 0 where
  pub end : r.end ≡ r'.end
  pub status : r.status ≡ r'.status
  pub headers : r.headers ≡ r'.headers
  pub body : r.body ≡ r'.body
  pub response : r.response ≡ r'.response
  pub mail : r.mail ≡ r'.mail
  pub journal : r.journal ≡ r'.journal
  pub log : r.log ≡ r'.log
  pub calls : r.calls ≡ r'.calls

-- the second reply is the first, had its answer this number: only mail and log tell it
pub record SayTheSameAs (number : ℕ) (r r' : Reply) : Type 0 where
  pub end : r.end ≡ r'.end
  pub status : r.status ≡ r'.status
  pub headers : r.headers ≡ r'.headers
  pub body : r.body ≡ r'.body
  pub response : r.response ≡ r'.response
  pub mail : r'.mail ≡ sent_mails number r.journal
  pub journal : r.journal ≡ r'.journal
  pub log : r'.log ≡ log_of number r.journal
  pub calls : r.calls ≡ r'.calls

-- An answer after so many calls needed no number of a keeper call beyond the last: its calls have numbers, and where they took the last one, it
-- didn't end for want of fuel, as a call without a number does.
pub record NeedsNoMore (made : ℕ) (r : Reply) : Type 0 where
  pub most : made + length r.calls ≤ last_count
  pub spare : (line : ℕ) → r.end ≡ Some (Fault FuelSpent line) → made + length r.calls < last_count

-- What a request means from two stores that agree on what it touches: the replies say the same, the new stores agree on it too, and each store keeps
-- every name that the calls don't change.
pub record KeepsToFrame (s t : Store) (r r' : Reply) : Type 0 where
  pub same : SayTheSame r r'
  pub agree : AgreeOn r.calls r.after.store r'.after.store
  pub kept : KeepsTheRest r.calls s r.after.store
  pub kept_too : KeepsTheRest r.calls t r'.after.store

-- A request with so much fuel, this number and so many calls before it keeps to its frame: whatever calls fail, and from whatever store after however
-- many calls, where the same of its calls fail, counted from its first one, and they have numbers.
abbrev pub IsFramed : ℕ → ℕ → ℕ → Request → Type 0
IsFramed fuel made number r =
    (K K' : List ℕ) (s t : Store) (made' : ℕ)
    → AgreeOn (request fuel K s made number r).calls s t
    → FailAlike K made K' made' (length (request fuel K s made number r).calls)
    → NeedsNoMore made (request fuel K s made number r)
    → made' + length (request fuel K s made number r).calls ≤ last_count
    → KeepsToFrame s t (request fuel K s made number r) (request fuel K' t made' number r)
