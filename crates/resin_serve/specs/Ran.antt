-- How far a run came (this project).
use Rattle.std.specs.Prelude.{◌≡◌, ◌≢◌, ℕ, ◌+◌, ◌==◌, List, [], ◌∷◌, ◌++◌, length, if◌then◌else◌, Option, Some, None, ⊤, ◌⊎◌}
use Rattle.resin_serve.specs.declared.give.Given.{Given}
use Rattle.resin_serve.specs.declared.give.Given.TheVariants.{Whole, Fault, Memory}
use Rattle.resin_site.specs.Under.meaning.Programs.{KeeperCall, Moment}
use Rattle.resin_site.specs.Under.meaning.Runs.{Reached}
use Rattle.resin_site.specs.Keeping.{Store, St, WhereTold, Answers, Tells}
use Rattle.resin_serve.specs.Meaning.{Meaning, Owed, tagged, reply, bytes_of, after_of, calls_of, AllObey}

-- told contents grew by these bytes
abbrev pub Grew : Option (List ℕ) → Option (List ℕ) → List ℕ → Type 0
Grew None new more = ⊤
Grew (Some xs) None more = ⊥
Grew (Some xs) (Some ys) more = ys ≡ xs ++ more

-- the bytes of one sink
abbrev pub part : ℕ → List (ℕ × ℕ) → List ℕ
part k [] = []
part k (x ∷ xs) = if x.0 == k then x.1 ∷ part k xs else part k xs

-- what the outside holds, where it is told; which of the keepers' calls failed, where each tells it; and how many keeper calls were made
pub record World : Type 0 where
  pub log : Option (List ℕ)
  pub mail : Option (List ℕ)
  pub out : Option (List ℕ)
  pub store : Option Store
  pub told : Answers
  pub made : ℕ

abbrev pub world : Option (List ℕ) → Option (List ℕ) → Option (List ℕ) → Option Store → Answers → ℕ → World
world log mail out store told made = record { log = log; mail = mail; out = out; store = store; told = told; made = made }

-- the three sinks gained these bytes
pub record Gained (old new : World) (got : List (ℕ × ℕ)) : Type 0 where
  pub log : Grew old.log new.log (part 0 got)
  pub mail : Grew old.mail new.mail (part 1 got)
  pub out : Grew old.out new.out (part 2 got)

-- what the keepers hold is told, and is this state
abbrev pub IsState : World → St → Type 0
IsState w s = (w.made ≡ s.made) × (w.store ≡ Some s.store)

-- These calls of the meaning were made: they are counted, and where a keeper tells its answers, those of the calls on it came behind the ones so
-- far, in order, and are failures exactly for the calls whose numbers K lists.
abbrev pub Called : List ℕ → List KeeperCall → World → World → Type 0
Called K calls old new = Tells calls old.told new.told old.made new.made K

-- How a run ends follows, in four records. In each of them `lawful` says that every answer that gave a byte obeys the access law, and `called` that
-- the keeper calls that were made are those that the meaning makes until then.

-- a run from a state over answers that stopped while an answer's bytes were given: a front of them was, and some weren't
pub record Giving (Q : Owed → Type 0) (R : Meaning) (K : List ℕ) (s : St) (number : ℕ) (xs : List Owed) (old new : World) : Type 0 where
  pub done : List Owed
  pub now : Owed
  pub later : List Owed
  pub got : List (ℕ × ℕ)
  pub lost : List (ℕ × ℕ)
  pub is : xs ≡ done ++ now ∷ later
  pub near : Q now
  pub split : tagged (reply R K (after_of R K s number done) (number + length done) now) ≡ got ++ lost
  pub some : lost ≢ []
  pub lawful : AllObey R K s number (done ++ now ∷ [])
  pub gained : Gained old new (bytes_of R K s number done ++ got)
  pub called : Called K (calls_of R K s number (done ++ now ∷ [])) old new
  pub state : IsState new (after_of R K s number (done ++ now ∷ []))

-- .. or before an answer
pub record Before (R : Meaning) (K : List ℕ) (s : St) (number : ℕ) (xs : List Owed) (old new : World) : Type 0 where
  pub done : List Owed
  pub later : List Owed
  pub is : xs ≡ done ++ later
  pub lawful : AllObey R K s number done
  pub gained : Gained old new (bytes_of R K s number done)
  pub called : Called K (calls_of R K s number done) old new
  pub state : IsState new (after_of R K s number done)

-- .. or amid an answer: at one of its moments, with what the keepers held then, and after the keeper calls that it had made until then
pub record Amid (R : Meaning) (K : List ℕ) (s : St) (number : ℕ) (xs : List Owed) (old new : World) : Type 0 where
  pub done : List Owed
  pub now : Owed
  pub later : List Owed
  pub at : Moment
  pub is : xs ≡ done ++ now ∷ later
  pub lawful : AllObey R K s number done
  pub gained : Gained old new (bytes_of R K s number done)
  pub reached : Reached at (reply R K (after_of R K s number done) (number + length done) now).moments
  pub made : new.made ≡ (after_of R K s number done).made + length at.calls
  pub called : Called K (calls_of R K s number done ++ at.calls) old new
  pub state : new.store ≡ Some at.store

-- the whole run
pub record Through (R : Meaning) (K : List ℕ) (s : St) (number : ℕ) (xs : List Owed) (old new : World) : Type 0 where
  pub lawful : AllObey R K s number xs
  pub gained : Gained old new (bytes_of R K s number xs)
  pub called : Called K (calls_of R K s number xs) old new
  pub state : IsState new (after_of R K s number xs)

abbrev pub RanFrom : Given → (Owed → Type 0) → Meaning → List ℕ → St → ℕ → List Owed → World → World → Type 0
RanFrom Whole Q R K s number xs old new = Through R K s number xs old new
RanFrom Fault Q R K s number xs old new = Giving Q R K s number xs old new
RanFrom Memory Q R K s number xs old new = Giving (λ _. ⊤) R K s number xs old new ⊎ (Before R K s number xs old new ⊎ Amid R K s number xs old new)

-- the run came so far, where the keepers tell what they hold
unfoldable pub Ran : Given → (Owed → Type 0) → Meaning → List ℕ → ℕ → List Owed → World → World → Type 0
Ran g Q R K number xs old new = WhereTold old.store (λ s. RanFrom g Q R K (record { store = s; made = old.made }) number xs old new)
