-- The keeper calls of a run: their numbers, what the keepers tell of them, and their causes (this project).
use Rattle.std.specs.Prelude.{◌≡◌, ℕ, ◌+◌, ◌<◌, ◌≤◌, Bool, List, [], ◌∷◌, ◌++◌, length, Option, if◌then◌else◌}
use Rattle.resin_site.specs.Under.base.Causes.{TellsMore, last_count}

-- a call: whether it was on the tables, else on the files, and whether it failed
pub record Call : Type 0 where
  pub on_tables : Bool
  pub failed : Bool

-- the numbers of the calls that failed, where so many calls were made before them
abbrev pub failed_after : ℕ → List Call → List ℕ
failed_after made [] = []
failed_after made (c ∷ cs) = if c.failed then (made + 1) ∷ failed_after (made + 1) cs else failed_after (made + 1) cs

-- which of the calls on the files failed, and which of those on the tables
abbrev pub of_files : List Call → List Bool
of_files [] = []
of_files (c ∷ cs) = if c.on_tables then of_files cs else c.failed ∷ of_files cs

abbrev pub of_tables : List Call → List Bool
of_tables [] = []
of_tables (c ∷ cs) = if c.on_tables then c.failed ∷ of_tables cs else of_tables cs

-- the calls of a run so far, the numbers of those that failed, what each keeper tells of its answers, and its count of faults
pub record Keepers : Type 0 where
  pub made : ℕ
  pub failed : List ℕ
  pub file_answers : Option (List Bool)
  pub file_faults : ℕ
  pub table_answers : Option (List Bool)
  pub table_faults : ℕ

abbrev pub keepers : ℕ → List ℕ → Option (List Bool) → ℕ → Option (List Bool) → ℕ → Keepers
keepers made failed file_answers file_faults table_answers table_faults = record {
  made = made;
  failed = failed;
  file_answers = file_answers;
  file_faults = file_faults;
  table_answers = table_answers;
  table_faults = table_faults;
}

-- the two counts of faults never fall, and short of their last values they rose together by at least so many faults
abbrev pub RoseBy : Keepers → Keepers → ℕ → Type 0
RoseBy old new count =
    (old.file_faults ≤ new.file_faults) × (old.table_faults ≤ new.table_faults)
    × (new.file_faults < last_count → new.table_faults < last_count
    → (old.file_faults + old.table_faults) + count ≤ new.file_faults + new.table_faults)

-- calls were made, in order, and they are numbered, listed where they failed, and told
pub record Kept (old new : Keepers) : Type 0 where
  pub calls : List Call
  pub made : new.made ≡ old.made + length calls
  pub failed : new.failed ≡ old.failed ++ failed_after old.made calls
  pub files : TellsMore old.file_answers new.file_answers (of_files calls)
  pub tables : TellsMore old.table_answers new.table_answers (of_tables calls)
  pub rose : RoseBy old new (length (failed_after old.made calls))
