-- What programs touch: a program does the same from every store that agrees with its own on the names of its keeper calls, whatever the number of
-- the request, and leaves every other name as it was (this project).
use Rattle.std.specs.Prelude.{◌≡◌, ℕ, ◌+◌, ◌≤◌, ◌<◌, Bool, true, false, List, [], ◌∷◌, length, Option, None, Err, ◌⊎◌, ⊤}
use Rattle.std.specs.FinMap.{get}
use Rattle.resin_meaning_forms.specs.Under.base.Causes.{is_listed, last_count}
use Rattle.resin_meaning_forms.specs.Under.scalar.declared.faults.ScriptFault.TheVariants.{FuelSpent}
use Rattle.resin_meaning_forms.specs.Under.machine.declared.stop.Stop.TheVariants.{Fault}
use Rattle.resin_meaning_forms.specs.Under.machine.State.{State}
use Rattle.resin_meaning_forms.specs.Under.meaning.Programs.{Store, Whole, KeeperCall, Out, Prog}
use Rattle.resin_meaning_forms.specs.Under.stage.Ties.{sent_mails}
use Rattle.resin_meaning_forms.specs.Under.tree.declared.declaration.Program.{Program}
use Rattle.resin_meaning_forms.specs.Programs.{program}
use Rattle.resin_meaning_forms.specs.Sessions.{is_of_other}

-- ---- names

-- two stores have the same table, or the same file, at a name, or both have none
abbrev pub SameAt : Bool → List ℕ → Store → Store → Type 0
SameAt true name s t = get s.tables name ≡ get t.tables name
SameAt false name s t = get s.files name ≡ get t.files name

-- two stores agree on the names that these calls touch
abbrev pub AgreeOn : List KeeperCall → Store → Store → Type 0
AgreeOn [] s t = ⊤
AgreeOn (c ∷ cs) s t = SameAt c.on_tables c.name s t × AgreeOn cs s t

-- a call may change what stands at a name
pub record MayChange (c : KeeperCall) (tables : Bool) (name : List ℕ) : Type 0 where
  pub changes : c.changes ≡ true
  pub kind : c.on_tables ≡ tables
  pub names : c.name ≡ name

-- one of these calls may
abbrev pub IsChanged : List KeeperCall → Bool → List ℕ → Type 0
IsChanged [] tables name = ⊥
IsChanged (c ∷ cs) tables name = MayChange c tables name ⊎ IsChanged cs tables name

-- every name that these calls don't change stands as it did
abbrev pub KeepsTheRest : List KeeperCall → Store → Store → Type 0
KeepsTheRest cs s s' = (tables : Bool) (name : List ℕ) → (IsChanged cs tables name → ⊥) → SameAt tables name s s'

-- no name that the second calls touch is changed by one of the first
abbrev pub Spare : List KeeperCall → List KeeperCall → Type 0
Spare cs [] = ⊤
Spare cs (d ∷ ds) = (IsChanged cs d.on_tables d.name → ⊥) × Spare cs ds

-- where the first two stores have the same, the other two have the same
abbrev pub KeepAgreeing : Store → Store → Store → Store → Type 0
KeepAgreeing s t s' t' = (tables : Bool) (name : List ℕ) → SameAt tables name s t → SameAt tables name s' t'

-- a call names no session of another visitor
abbrev pub IsOfOwn : Option (List ℕ) → KeeperCall → Type 0
IsOfOwn own c = c.on_tables ≡ false → is_of_other own c.name ≡ false

abbrev pub AreOfOwn : Option (List ℕ) → List KeeperCall → Type 0
AreOfOwn own [] = ⊤
AreOfOwn own (c ∷ cs) = IsOfOwn own c × AreOfOwn own cs

-- ---- failing calls and their numbers

-- of so many calls, counted from these numbers on, the same fail
abbrev pub FailAlike : List ℕ → ℕ → List ℕ → ℕ → ℕ → Type 0
FailAlike K made K' made' n = (i : ℕ) → i < n → is_listed K (made + i + 1) ≡ is_listed K' (made' + i + 1)

-- A run needed no number of a keeper call beyond the last: its calls have numbers, and where they took the last one, it didn't end for want of fuel,
-- as a call without a number does.
pub record HasNumbers {A : Type 0} (before : ℕ) (o : Out A) : Type 0 where
  pub most : before + length o.calls ≤ last_count
  pub spare : (line : ℕ) → o.end ≡ Err (Fault FuelSpent line) → before + length o.calls < last_count

-- two runs have the same numbers for their calls, or each has as many as the first needs
abbrev pub HaveNumbers : {A : Type 0} → ℕ → ℕ → Out A → Type 0
HaveNumbers made made' o = (made' ≡ made) ⊎ (HasNumbers made o × (made' + length o.calls ≤ last_count))

-- ---- the number of the request

-- a state, had the request this number: the number stands in the mail that was sent so far, and nowhere else
abbrev pub renumbered : ℕ → State → State
renumbered number m = record m { request = number; stage = record m.stage { mail = sent_mails number m.stage.journal } }

-- ---- frames

-- A second run begins near a first one, whose end is o: in the same state but for the request's number, with a store that agrees on what the first
-- touches, where the same calls fail, and with numbers enough.
pub record Near {A : Type 0} (number : ℕ) (failing failing' : List ℕ) (at at' : Whole) (o : Out A) : Type 0 where
  pub state : at'.state ≡ renumbered number at.state
  pub agree : AgreeOn o.calls at.store at'.store
  pub fail : FailAlike failing at.made failing' at'.made (length o.calls)
  pub numbers : HaveNumbers at.made at'.made o

-- It ends alike: in the same way and state but for the number, after the same calls, and where the stores that were there had the same, those that
-- are left have the same.
pub record Alike {A : Type 0} (number : ℕ) (s t : Store) (o o' : Out A) : Type 0 where
  pub end : o'.end ≡ o.end
  pub state : o'.whole.state ≡ renumbered number o.whole.state
  pub calls : o'.calls ≡ o.calls
  pub stores : KeepAgreeing s t o.whole.store o'.whole.store

-- A program is framed: its calls are counted, and name no session of another visitor; it keeps every name that they don't change; and a run that
-- begins near another ends alike.
pub record IsFramed {A : Type 0} (own : Option (List ℕ)) (p : Prog A) : Type 0 where
  pub counts : (failing : List ℕ) (at : Whole) → (p failing at).whole.made ≡ at.made + length (p failing at).calls
  pub names : (failing : List ℕ) (at : Whole) → AreOfOwn own (p failing at).calls
  pub keeps : (failing : List ℕ) (at : Whole) → KeepsTheRest (p failing at).calls at.store (p failing at).whole.store
  pub frames :
      (number : ℕ) (failing failing' : List ℕ) (at at' : Whole) → Near number failing failing' at at' (p failing at)
      → Alike number at.store at'.store (p failing at) (p failing' at')

-- what scripts do is framed, and no script can name the path of a session
abbrev pub ScriptsAreFramed : Type 0
ScriptsAreFramed = (p : Program) → IsFramed None (program p)
