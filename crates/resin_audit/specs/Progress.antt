-- What the items of a file say, as far as they are read, and what one more item does.
use Rattle.std.specs.Prelude.{◌≡◌, ◌≢◌, ℕ, ◌+◌, ◌==◌, List, Option, Some, None, Result, Ok, Err}
use Rattle.resin_audit.specs.declared.items.Told.{Told}
use Rattle.resin_audit.specs.declared.items.Item.{Item}
use Rattle.resin_audit.specs.declared.items.Item.TheVariants.{Request, Happened}
use Rattle.resin_audit.specs.declared.progress.Progress.{Progress}
use Rattle.resin_audit.specs.declared.stop.Stop.{Stop}
use Rattle.resin_audit.specs.declared.stop.Stop.TheVariants.{Form, Memory}
use Rattle.resin_audit.specs.declared.verdict.Verdict.{Verdict}
use Rattle.resin_audit.specs.declared.verdict.Verdict.TheVariants.{Yes, Law}
use Rattle.resin_audit.specs.Following.{Last, nothing_yet, behind}

abbrev pub none_yet : Progress
none_yet = record { requests = 0; events = 0; here = 0; law = nothing_yet; broken = None }

-- the journal of an answer begins
abbrev pub begun : ℕ → Progress → Progress
begun q s = record { requests = q; events = s.events; here = 0; law = nothing_yet; broken = s.broken }

-- it may be this answer's
abbrev pub Begins : ℕ → Progress → Result (Unit {0}) Stop → Progress → Type 0
Begins q s (Ok done) new = (q ≡ s.requests + 1) × (new ≡ begun q s)
Begins q s (Err Form) new = q ≢ s.requests + 1
Begins q s (Err Memory) new = Unit {0}

-- an event of the last journal: where no journal broke the law yet, it is asked
abbrev pub noted : Option (ℕ × ℕ) → Option Last → Progress → Progress → Type 0
noted (Some b) after s new = (new.broken ≡ Some b)
noted None (Some l) s new = (new.law ≡ l) × (new.broken ≡ None)
noted None None s new = new.broken ≡ Some (s.requests, s.here + 1)

pub record IsNoted (e : Told) (s new : Progress) : Type 0 where
  pub begun : s.requests ≢ 0
  pub requests : new.requests ≡ s.requests
  pub events : new.events ≡ s.events + 1
  pub here : new.here ≡ s.here + 1
  pub law : noted s.broken (behind e s.law) s new

abbrev pub Notes : Told → Progress → Result (Unit {0}) Stop → Progress → Type 0
Notes e s (Ok done) new = IsNoted e s new
Notes e s (Err Form) new = s.requests ≡ 0
Notes e s (Err Memory) new = Unit {0}

-- one more item, which may go on with the file
abbrev pub Adds : Item → Progress → Result (Unit {0}) Stop → Progress → Type 0
Adds (Request q) s r new = Begins q s r new
Adds (Happened e) s r new = Notes e s r new

-- the item in front was read, and what is left is behind it; or there is none, or it can't go on with the file
abbrev pub Goes : Option (Item × List ℕ) → Progress → Result (Unit {0}) Stop → Progress → List ℕ → Type 0
Goes out s (Err Memory) new rest = Unit {0}
Goes (Some p) s (Ok done) new rest = Adds p.0 s (Ok done) new × (p.1 ≡ rest)
Goes (Some p) s (Err Form) new rest = Adds p.0 s (Err Form) new
Goes None s (Ok done) new rest = ⊥
Goes None s (Err Form) new rest = Unit {0}

abbrev pub verdict_of : Progress → Verdict
verdict_of s = from s.broken
  where
    from : Option (ℕ × ℕ) → Verdict
    from None = Yes s.requests s.events
    from (Some b) = Law b.0 b.1
