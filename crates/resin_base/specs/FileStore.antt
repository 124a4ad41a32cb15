-- What a keeper of files holds: a map from path to entry (this project).
use Rattle.std.specs.Prelude.{◌≡◌, ℕ, Bool, List, Option, Result, IfOk, MatchResult}
use Rattle.std.specs.FinMap.{FinMap, get, insert, remove, contains_key}
use Rattle.resin_base.specs.Contents.{byte_order}
use Rattle.resin_base.specs.declared.faults.KeepFault.{KeepFault}
use Rattle.resin_base.specs.declared.files.Entry.{Entry}

-- a map from path to entry
abbrev pub FileStore : Type 0
FileStore = FinMap byte_order Entry

-- the entry of these bytes and this shadow text
abbrev pub entry_of : List ℕ → List ℕ → Entry
entry_of bytes shadow = record { bytes = bytes; shadow = shadow }

-- the store with the entry at the path
abbrev pub with_entry : FileStore → List ℕ → List ℕ → List ℕ → FileStore
with_entry s path bytes shadow = insert s path (entry_of bytes shadow)

-- the answer is the entry at the path, and nothing changes
abbrev pub Reads : FileStore → List ℕ → Result (Option Entry) KeepFault → FileStore → Type 0
Reads s path r t = (t ≡ s) × IfOk r (λ found. found ≡ get s path)

-- the entry stands at the path, bytes and shadow at once, or nothing changed
abbrev pub Writes : FileStore → List ℕ → List ℕ → List ℕ → Result Unit KeepFault → FileStore → Type 0
Writes s path bytes shadow r t = MatchResult r (λ _. t ≡ with_entry s path bytes shadow) (λ _. t ≡ s)

-- the path has no entry, and the answer is whether it had one, or nothing changed
abbrev pub Removes : FileStore → List ℕ → Result Bool KeepFault → FileStore → Type 0
Removes s path r t = MatchResult r (λ was. (was ≡ contains_key s path) × (t ≡ remove s path)) (λ _. t ≡ s)

-- the answer is whether the path has an entry, and nothing changes
abbrev pub Tests : FileStore → List ℕ → Result Bool KeepFault → FileStore → Type 0
Tests s path r t = (t ≡ s) × IfOk r (λ was. was ≡ contains_key s path)
