-- How a request ends, by how its steps do.
use Rattle.std.proofs.Common.{◌≡◌, ◌≢◌, ℕ, Bool, List, [], ◌∷◌, ◌++◌, Result, Ok, Err, refl, sym, ap, ◌∙◌, subst, ◌⊎◌, inl, inr}
use Rattle.resin_request.specs.Under.machine.declared.stop.Stop.{Stop}
use Rattle.resin_request.specs.Under.machine.declared.stop.Stop.TheVariants.{Thrown, Memory}
use Rattle.resin_request.specs.Under.machine.declared.stop.Stop.TheVariants as stop
use Rattle.resin_request.specs.Under.machine.State.{State}
use Rattle.resin_request.specs.Under.meaning.Runs.{World}
use Rattle.resin_request.specs.Under.meaning.Runs as runs
use Rattle.resin_request.specs.declared.request.Finish.{Finish}
use Rattle.resin_request.specs.declared.request.Finish.TheVariants as finish
use Rattle.resin_site.specs.declared.outcome.End.TheVariants.{Served, NotFound, Uncaught, Fault, Keeper}
use Rattle.resin_site.specs.declared.outcome.Outcome.{Outcome}
use Rattle.resin_site.specs.Outcomes.{outcome}
use Rattle.resin_site.specs.Serving.{EndLists}

-- want of memory, or another end
pub memory_or : {A : Type 0} (r : Result A Stop) → (r ≡ Err Memory) ⊎ (r ≢ Err Memory)
memory_or (Ok v) = inr (λ e. cc)
memory_or (Err (Thrown o)) = inr (λ e. cc)
memory_or (Err stop.Exit) = inr (λ e. cc)
memory_or (Err (stop.Fault f line)) = inr (λ e. cc)
memory_or (Err stop.Keeper) = inr (λ e. cc)
memory_or (Err Memory) = inl refl

-- exactly where a keeper failed the number of the last call is listed
pub ends : (r : Result Finish Stop) (m : State) (path : List ℕ) (head_only : Bool) (o : Outcome) (u w : World) → r ≢ Err Memory → o ≡ outcome path head_only r m → runs.Blames r u w
    → EndLists o.end w.calls.made u.calls.failed w.calls.failed
ends r m path head_only o u w ne e b = subst (λ (x : Outcome). EndLists x.end w.calls.made u.calls.failed w.calls.failed) (sym e) (cases r ne b)
  where
    cases : (r : Result Finish Stop) → r ≢ Err Memory → runs.Blames r u w → EndLists (outcome path head_only r m).end w.calls.made u.calls.failed w.calls.failed
    cases (Ok finish.Answered) ne b = b.failed
    cases (Ok finish.Missing) ne b = b.failed
    cases (Err (Thrown o)) ne b = b.failed
    cases (Err stop.Exit) ne b = b.failed
    cases (Err (stop.Fault f line)) ne b = b.failed
    cases (Err stop.Keeper) ne b = b.failed
    cases (Err Memory) ne b = absurd (ne refl)
