-- What the keepers hold over the calls of a run, and which of the calls fail (this project).
use Rattle.std.specs.Prelude.{◌≡◌, ℕ, ◌+◌, ◌<◌, false, true, List, [], ◌∷◌, ◌++◌, length, All, Bool, Option, Some, None, ⊤, ◌⊎◌}
use Rattle.resin_request.specs.Under.base.Causes.{Counted, TellsMore}
use Rattle.resin_request.specs.Under.base.FileStore.{FileStore}
use Rattle.resin_request.specs.Under.base.TableStore.{TableStore}
use Rattle.resin_request.specs.Under.meaning.Programs.{KeeperCall}
use Rattle.resin_request.specs.Under.meaning.Programs as programs
use Rattle.resin_request.specs.Under.meaning.Runs.{failures}
use Rattle.resin_request.specs.Under.store.Files.{lift_files, plain_files}

-- what the keepers hold
abbrev pub Store : Type 0
Store = programs.Store

-- what the keepers hold, and how many calls were made on them
pub record St : Type 0 where
  pub store : Store
  pub made : ℕ

abbrev pub state : Store → ℕ → St
state store made = record { store = store; made = made }

-- both keepers tell what they hold; the shadow texts tell the policies of what the keeper of files holds
abbrev pub store_of : Option FileStore → Option TableStore → Option Store
store_of None tables = None
store_of (Some files) None = None
store_of (Some files) (Some tables) = Some (record { files = lift_files files; tables = tables })

-- the keepers hold exactly what is plain of such a store
abbrev pub TellsWhatIsHeld : Type 0
TellsWhatIsHeld =
    (files : Option FileStore) (tables : Option TableStore) (s : Store) → store_of files tables ≡ Some s
    → (files ≡ Some (plain_files s.files)) × (tables ≡ Some s.tables)

-- a fact of what the keepers hold, where it is told
abbrev pub WhereTold : Option Store → (Store → Type 0) → Type 0
WhereTold None P = ⊤
WhereTold (Some s) P = P s

-- the numbers of failing calls go on so: those listed so far, and then larger ones than that of any call made
pub record Later (made : ℕ) (failed K : List ℕ) : Type 0 where
  pub more : List ℕ
  pub is : K ≡ failed ++ more
  pub above : All (λ k. made < k) more

-- however the numbers go on from the new calls, they go on so from the old ones
abbrev pub Passes : ℕ → List ℕ → ℕ → List ℕ → Type 0
Passes made failed made' failed' = (K : List ℕ) → Later made' failed' K → Later made failed K

-- the counts of faults of both keepers
pub record Faults : Type 0 where
  pub files : ℕ
  pub tables : ℕ

abbrev pub faults : ℕ → ℕ → Faults
faults files tables = record { files = files; tables = tables }

-- at most the last call failed: no number was listed and no count of faults changed, or the last call's number was, and a count rose
abbrev pub Blames : ℕ → List ℕ → Faults → ℕ → List ℕ → Faults → Type 0
Blames made failed old made' failed' new =
    ((failed' ≡ failed) × (new ≡ old))
    ⊎ ((failed' ≡ failed ++ made' ∷ []) × (made < made') × (Counted old.files new.files ⊎ Counted old.tables new.tables))

-- which of their calls failed, where each keeper tells it
pub record Answers : Type 0 where
  pub files : Option (List Bool)
  pub tables : Option (List Bool)

abbrev pub answers : Option (List Bool) → Option (List Bool) → Answers
answers files tables = record { files = files; tables = tables }

-- these calls were made: they are counted, and the answers that a keeper tells grew by those of the calls on it, true exactly for the calls that
-- are listed as failing
pub record Tells (calls : List KeeperCall) (old new : Answers) (before now : ℕ) (failed : List ℕ) : Type 0 where
  pub made : now ≡ before + length calls
  pub files : TellsMore old.files new.files (failures false failed before calls)
  pub tables : TellsMore old.tables new.tables (failures true failed before calls)
