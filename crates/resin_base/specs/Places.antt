-- Where an entry stands in a list that is kept as a map: the first at its key counts.
use Rattle.std.specs.Prelude.{◌≡◌, ℕ, ◌<◌, List, length, take, slice_index_or, None}
use Rattle.std.specs.FinMap.{find}
use Rattle.resin_base.specs.Contents.{byte_order}
use Rattle.resin_base.specs.declared.cell.Row.{Row}

-- the entry at the index is the first at the key
pub record IsPlace {X : Type 0} (key : List ℕ) (entries : List (List ℕ × X)) (at : ℕ) : Type 0 where
  pub within : at < length entries
  pub none : find byte_order key (take at entries) ≡ None
  pub here : (d : List ℕ × X) → (slice_index_or entries at d).0 ≡ key

-- the row at the index has the number
pub record IsRowPlace (rows : List Row) (number : ℕ) (at : ℕ) : Type 0 where
  pub within : at < length rows
  pub here : (d : Row) → (slice_index_or rows at d).number ≡ number
