-- Two neighbouring answers of a run, in either order (this project).
use Rattle.std.specs.Prelude.{◌≡◌, ℕ, ◌+◌, ◌<◌, false, List, ◌∷◌, ◌++◌, length}
use Rattle.resin_site.specs.Under.base.Causes.{is_listed}
use Rattle.resin_site.specs.Under.frame.Frames.{Spare}
use Rattle.resin_site.specs.Under.stage.Ties.{sent_mails}
use Rattle.resin_site.specs.Framing.{SayTheSameAs, NeedsNoMore}
use Rattle.resin_site.specs.Keeping.{St}
use Rattle.resin_serve.specs.declared.logging.Logging.{Logging}
use Rattle.resin_serve.specs.Asked.{meaning}
use Rattle.resin_serve.specs.Logs.{logged}
use Rattle.resin_serve.specs.Meaning.{Meaning, Reply, Owed, tagged, reply, bytes_of, after_of, calls_of}

-- Two answers, the first after so many calls, leave each other alone: neither changes a name that the other touches, none of their calls fails, and
-- neither needed a number of a keeper call beyond the last.
pub record AreApart (K : List ℕ) (made : ℕ) (a b : Reply) : Type 0 where
  pub spare : Spare a.is.calls b.is.calls
  pub spared : Spare b.is.calls a.is.calls
  pub succeed : (i : ℕ) → i < length (a.is.calls ++ b.is.calls) → is_listed K (made + i + 1) ≡ false
  pub first : NeedsNoMore made a.is
  pub second : NeedsNoMore (made + length a.is.calls) b.is

-- An answer is given with another number: it says the same, its record in the output is the same, and only its mail and its log,
-- which its journal tells, show the number.
pub record IsSameAnswer (number : ℕ) (a a' : Reply) : Type 0 where
  pub says : SayTheSameAs number a.is a'.is
  pub out : a.out ≡ a'.out
  pub mail : a'.mail ≡ sent_mails number a.is.journal
  pub log : a'.log ≡ logged a.logging number a.is.journal

-- in the other order the answers are the same but for their numbers, and the state after both is the same
pub record Exchanged (number : ℕ) (a b b' a' : Reply) : Type 0 where
  pub first : IsSameAnswer (number + 1) a a'
  pub second : IsSameAnswer number b b'
  pub after : b.after ≡ a'.after

-- two answers that come one behind the other, from whatever state, and leave each other alone, may come in either order
abbrev pub Exchanges : Meaning → Type 0
Exchanges R =
    (K : List ℕ) (s : St) (number : ℕ) (x y : Owed)
    → AreApart K s.made (reply R K s number x) (reply R K (reply R K s number x).after (number + 1) y)
    → Exchanged number (reply R K s number x) (reply R K (reply R K s number x).after (number + 1) y)
    (reply R K s number y) (reply R K (reply R K s number y).after (number + 1) x)

-- A run over all these answers is one over `done`, then two that give these replies, and then one over `later` from this state, with the numbers
-- that follow.
pub record IsRunOf (R : Meaning) (K : List ℕ) (s : St) (number : ℕ) (all done : List Owed) (a b : Reply) (behind : St)
    (later : List Owed) : Type 0 where
  pub bytes : bytes_of R K s number all ≡ bytes_of R K s number done ++ tagged a ++ tagged b ++ bytes_of R K behind (number + length done + 2) later
  pub calls : calls_of R K s number all ≡ calls_of R K s number done ++ a.is.calls ++ b.is.calls
      ++ calls_of R K behind (number + length done + 2) later
  pub after : after_of R K s number all ≡ after_of R K behind (number + length done + 2) later

-- Two runs in which two neighbours, behind `done`, come in either order, where a and b are their replies in the one and b' and a' in the other: only
-- the two differ, by their numbers. What is given before and behind them, the keeper calls there, and the state after all are the same.
pub record RunsAlike (R : Meaning) (K : List ℕ) (s : St) (number : ℕ) (done later : List Owed) (x y : Owed) (a b b' a' : Reply) : Type 0 where
  pub pair : Exchanged (number + length done) a b b' a'
  pub one : IsRunOf R K s number (done ++ x ∷ y ∷ later) done a b b.after later
  pub other : IsRunOf R K s number (done ++ y ∷ x ∷ later) done b' a' b.after later
  pub after : after_of R K s number (done ++ x ∷ y ∷ later) ≡ after_of R K s number (done ++ y ∷ x ∷ later)

-- two neighbours of a run that leave each other alone may come in either order, and all else of the run stays the same
abbrev pub ExchangesInRuns : Meaning → Type 0
ExchangesInRuns R =
    (K : List ℕ) (s : St) (number : ℕ) (done later : List Owed) (x y : Owed)
    → let at = after_of R K s number done in
    let n = number + length done in
    let a = reply R K at n x in
    let b = reply R K a.after (n + 1) y in
    let b' = reply R K at n y in
    let a' = reply R K b'.after (n + 1) x in
    AreApart K at.made a b → RunsAlike R K s number done later x y a b b' a'

-- so it is in each run of a site, of whatever fuel, and whatever its log tells
abbrev pub ExchangedRuns : Type 0
ExchangedRuns = (logging : Logging) (fuel : ℕ) → ExchangesInRuns (meaning logging fuel)
