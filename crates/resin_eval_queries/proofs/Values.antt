-- Values by what they are not.
use Rattle.std.proofs.Common.{◌≡◌, ℤ, List, ℕ, refl}
use Rattle.resin_eval_writes.specs.Under.base.declared.cell.Cell.{Cell}
use Rattle.resin_eval_writes.specs.Under.base.declared.cell.Cell.TheVariants as cell
use Rattle.resin_eval_writes.specs.Under.lstr.Texts.{Text as LabelledText}
use Rattle.resin_eval_writes.specs.Under.meaning_forms.Cells.{read_text, read_value}
use Rattle.resin_eval_writes.specs.Under.meaning_forms.Parts.{Evals}

pub read_as_text : (ev : Evals) (column : List ℕ) (v : Cell) (t : LabelledText) → ((n : ℤ) → v ≡ cell.Int n → ⊥) → read_value ev column v t ≡ read_text ev column t
read_as_text ev column cell.Null t isnt = refl
read_as_text ev column (cell.Text bytes) t isnt = refl
read_as_text ev column (cell.Int n) t isnt = absurd (isnt n refl)
