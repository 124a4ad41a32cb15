-- Why items are refused, one by one.
use Rattle.std.proofs.Common.{◌≡◌, ℕ, ◌+◌, ◌≤◌, ◌<◌, List, ◌∷◌, length, drop, get_or, Option, sym, ap, subst, ◌∙◌}
use Rattle.resin_base.specs.declared.cell.Column.{Column}
use Rattle.resin_sql.specs.declared.fault.SqlRefusal.{SqlRefusal}
use Rattle.resin_joint.specs.declared.tree.TotalItem.{TotalItem}
use Rattle.resin_rows.specs.Refusals.{earlier}
use Rattle.resin_rows.proofs.Causes.{earlier-none, earlier-assoc}
use Rattle.resin_rows.proofs.Lists.{front, nothing_left}
use Rattle.resin_sql_more.specs.Totals.{item_cause, items_cause}

module _ (columns : List Column) (its : List TotalItem) (i : ℕ) (acc all : Option SqlRefusal) (so_far : earlier acc (items_cause columns (drop i its)) ≡ all) where
  pub items_step : (it : TotalItem) (next : Option SqlRefusal) → i < length its → it ≡ get_or its i it → next ≡ earlier acc (item_cause columns it)
      → earlier next (items_cause columns (drop (i + 1) its)) ≡ all
  items_step it next lt at n =
      let h : earlier acc (items_cause columns (it ∷ drop (i + 1) its)) ≡ all = subst (λ (xs : List TotalItem). earlier acc (items_cause columns xs) ≡ all) (front its i it lt at) so_far in
      rw n (earlier-assoc acc (item_cause columns it) (items_cause columns (drop (i + 1) its)) ∙ h)

  pub items_done : length its ≤ i → acc ≡ all
  items_done le = sym (earlier-none acc) ∙ (sym (ap (λ (xs : List TotalItem). earlier acc (items_cause columns xs)) (nothing_left its i le)) ∙ so_far)
