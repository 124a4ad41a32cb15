-- What a source's and a sink's call moves, where the object tells its contents (this project).
use Rattle.std.specs.Prelude.{◌≡◌, ℕ, List, [], ◌++◌, take, drop, Result, Ok, Err}
use Rattle.resin_base.specs.declared.faults.Failed.{Failed}
use Rattle.resin_base.specs.declared.faults.KeepFault.{KeepFault}

-- the answered number of bytes went from the front of what was left to the front of the buffer, and the rest of both stayed;
-- 0 is answered exactly where nothing was left; a call that failed moved no byte
abbrev pub Takes : List ℕ → List ℕ → Result ℕ Failed → List ℕ → List ℕ → Type 0
Takes buffer filled (Ok count) left rest =
    (left ≡ take count filled ++ rest) × (drop count filled ≡ drop count buffer) × (count ≡ 0 → left ≡ []) × (left ≡ [] → count ≡ 0)
Takes buffer filled (Err fault) left rest = (rest ≡ left) × (filled ≡ buffer)

-- the answered number of bytes of the piece's front were appended; a call with another answer moved no byte
abbrev pub Gives : List ℕ → Result ℕ KeepFault → List ℕ → List ℕ → Type 0
Gives piece (Ok count) before now = now ≡ before ++ take count piece
Gives piece (Err fault) before now = now ≡ before
