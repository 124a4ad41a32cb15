-- Items of totals once their cells were read.
use Rattle.std.specs.Prelude.{ℕ, List, map}
use Rattle.resin_eval_writes.specs.Under.base.declared.stored.StoredCell.{StoredCell}
use Rattle.resin_eval_writes.specs.Under.label.Sets.{NumberSet}
use Rattle.resin_eval_writes.specs.Under.meaning.Programs.{Prog, ◌>>=◌}
use Rattle.resin_eval_writes.specs.Under.meaning_forms.Keeping.{thaw_sets}
use Rattle.resin_eval_writes.specs.Under.meaning_forms.Merges.{fold_sets}
use Rattle.resin_eval_writes.specs.Under.meaning_forms.Parts.{Evals}
use Rattle.resin_eval_writes.specs.Under.meaning_forms.Totals.{item_or_fault, total_value}
use Rattle.resin_eval_writes.specs.Under.meaning_tables.Under.joint.declared.tree.TotalItem.{TotalItem}
use Rattle.resin_eval_writes.specs.Under.meaning_tables.Under.sql_more.Totals.{item_name}
use Rattle.resin_eval_writes.specs.Under.meaning_tables.Under.sql_more.Values.{item_value}
use Rattle.resin_eval_writes.specs.Under.value.Trees.{Tree}
use Rattle.resin_shadow.specs.Marks.{Marks}

-- an item over the sets that its cells carry: its value, with the one set that they fold to
abbrev pub item_of : Evals → TotalItem → ℕ → List StoredCell → List NumberSet → Prog Tree
item_of ev it chosen cells sets = do
  c ← item_or_fault (item_value it chosen (map (λ (v : StoredCell). v.value) cells))
  set ← fold_sets ev sets
  total_value ev (item_name it) set c

-- the same where the policy texts of the cells are known: objects are made for them first
abbrev pub item_by : Evals → TotalItem → ℕ → List StoredCell → Marks → Prog Tree
item_by ev it chosen cells w = thaw_sets w >>= item_of ev it chosen cells
