-- What the loops over `give` leave, and their causes (this project).
use Rattle.std.specs.Prelude.{◌≡◌, ◌≢◌, ℕ, ◌<◌, List, [], ◌++◌, length, take, map, Option, ◌⊎◌}
use Rattle.resin_site.specs.Under.base.Causes.{Rose}
use Rattle.resin_serve.specs.declared.give.Given.{Given}
use Rattle.resin_serve.specs.declared.give.Given.TheVariants.{Whole, Fault, Memory}
use Rattle.resin_serve.specs.Ran.{Grew, Gained, World}

abbrev pub Came : Given → ℕ → ℕ → Type 0
Came Whole n all = n ≡ all
Came Fault n all = n < all
Came Memory n all = n < all

-- a front of the text was given, and all of it exactly where giving came to its end
pub record Gave (g : Given) (text : List ℕ) (old new : Option (List ℕ)) : Type 0 where
  pub count : ℕ
  pub came : Came g count (length text)
  pub grew : Grew old new (take count text)

abbrev pub Lost : Given → List (ℕ × ℕ) → Type 0
Lost Whole lost = lost ≡ []
Lost Fault lost = lost ≢ []
Lost Memory lost = lost ≢ []

-- the bytes of three texts with the number of their sink, in the order in which they are given
abbrev pub three : List ℕ → List ℕ → List ℕ → List (ℕ × ℕ)
three log mail out = map (λ b. (0, b)) log ++ map (λ b. (1, b)) mail ++ map (λ b. (2, b)) out

-- a front of the bytes of all three was given
pub record GaveAll (g : Given) (all : List (ℕ × ℕ)) (old new : World) : Type 0 where
  pub got : List (ℕ × ℕ)
  pub lost : List (ℕ × ℕ)
  pub split : all ≡ got ++ lost
  pub lost_is : Lost g lost
  pub gained : Gained old new got

-- a sink's faults and stalls
pub record Counts : Type 0 where
  pub faults : ℕ
  pub stalls : ℕ

abbrev pub counts : ℕ → ℕ → Counts
counts faults stalls = record { faults = faults; stalls = stalls }

abbrev pub RoseIn : Counts → Counts → Type 0
RoseIn old new = Rose old.faults new.faults ⊎ Rose old.stalls new.stalls

-- a fault of giving comes only where a count rose, and else the counts stay
abbrev pub Caused : Given → Counts → Counts → Type 0
Caused Whole old new = new ≡ old
Caused Fault old new = RoseIn old new
Caused Memory old new = new ≡ old

-- the counts of the three sinks
pub record Sinks : Type 0 where
  pub log : Counts
  pub mail : Counts
  pub out : Counts

abbrev pub sinks : Counts → Counts → Counts → Sinks
sinks log mail out = record { log = log; mail = mail; out = out }

-- the same of the three sinks together
abbrev pub CausedIn : Given → Sinks → Sinks → Type 0
CausedIn Whole old new = new ≡ old
CausedIn Fault old new = RoseIn old.log new.log ⊎ (RoseIn old.mail new.mail ⊎ RoseIn old.out new.out)
CausedIn Memory old new = new ≡ old
