-- Rows and items, one cell after the other.
use Rattle.std.proofs.Common.{◌≡◌, ℕ, ◌+◌, ◌<◌, ◌≤◌, Bool, true, false, nat_le, min, List, [], ◌∷◌, ◌++◌, ◌⊎◌, inl, inr, length, drop, get_or, refl, sym, ap, ◌∙◌, arith, subst, Result, Ok, Err, IsErrAnd, Some, None}
use Rattle.std.specs.Prelude.{IsTrue, is_none}
use Rattle.std.proofs.lemmas.Bool.Decides.{nat_tests}
use Rattle.resin_eval_writes.specs.Under.base.declared.stored.StoredCell.{StoredCell}
use Rattle.resin_eval_writes.specs.Under.lstr.Texts.{Text as LabelledText}
use Rattle.resin_eval_writes.specs.Under.meaning_tables.Under.sql.declared.fault.SqlRefusal.{SqlRefusal}
use Rattle.resin_eval_writes.specs.Under.meaning_tables.Under.sql_more.declared.answer.MoreAnswer.{MoreAnswer}
use Rattle.resin_eval_writes.specs.Under.meaning_tables.Under.sql_words.declared.literals.Literal.{Literal}
use Rattle.resin_eval_writes.specs.Under.meaning.Programs.{give, ◌>>=◌}
use Rattle.resin_shadow.specs.Marks.{Marks}
use Rattle.resin_eval_writes.specs.Under.meaning_forms.Cells.{entry_for, kept_literals, marks_of_cells, whole_marks}
use Rattle.resin_eval_writes.specs.Under.meaning_forms.Inputs.{as_tree}
use Rattle.resin_eval_writes.specs.Under.meaning_forms.Parts.{Evals, computed}
use Rattle.resin_eval_writes.specs.Under.meaning_forms.Under.array_fn.Filled.{added_at}
use Rattle.resin_eval_writes.specs.Under.value.Changes.{empty}
use Rattle.resin_eval_writes.specs.Under.meaning_forms.Queries.{more_answered, row_list, row_on, rows_on, totalled, with_cell}
use Rattle.resin_eval_writes.specs.Under.meaning_forms.Totals.{items_on, with_item}
use Rattle.resin_eval_writes.specs.Under.value.Arrays.{Array}
use Rattle.resin_eval_writes.specs.Under.value.Keys.{is_lawful, key_or_text, text_key}
use Rattle.resin_eval_writes.specs.Under.value.Under.bytes.Canonical.{canonical_integer}
use Rattle.resin_eval_writes.specs.Under.machine.declared.stop.Stop.{Stop}
use Rattle.resin_eval_writes.specs.Under.machine.declared.stop.Stop.TheVariants.{Memory}
use Rattle.resin_eval_writes.specs.Under.meaning.Runs.{World, Does, Leads}
use Rattle.resin_eval_writes.proofs.meaning_lemmas.Composition.{does_exit, does_give, does_next, does_unbegun_exit, front, leads_here, nothing_left}
use Rattle.resin_eval_writes.proofs.eval_nested_lemmas.Exits.{does_is}
use Rattle.resin_eval_writes.proofs.step_parts_lemmas.Steps.{does_lost_give}
use Rattle.resin_eval_writes.specs.Under.meaning_tables.Under.joint.declared.tree.TotalItem.{TotalItem}

pub row_step : (ev : Evals) (columns : List (List ℕ)) (cells : List StoredCell) (i : ℕ) (column : List ℕ) (cell : StoredCell) (a : Array) → i < length columns → i < length cells → column ≡ get_or columns i column → cell ≡ get_or cells i cell
    → row_on ev (drop i columns) (drop i cells) a ≡ (with_cell ev column cell a >>= row_on ev (drop (i + 1) columns) (drop (i + 1) cells))
row_step ev columns cells i column cell a h k e f =
    ap (λ (cs : List (List ℕ)). row_on ev cs (drop i cells) a) (front columns i column h e) ∙ ap (λ (cs : List StoredCell). row_on ev (column ∷ drop (i + 1) columns) cs a) (front cells i cell k f)

row_nil : (ev : Evals) (cells : List StoredCell) (a : Array) → row_on ev [] cells a ≡ give a
row_nil ev [] a = refl
row_nil ev (c ∷ cells) a = refl

row_none : (ev : Evals) (columns : List (List ℕ)) (a : Array) → row_on ev columns [] a ≡ give a
row_none ev [] a = refl
row_none ev (c ∷ columns) a = refl

pub row_end : (ev : Evals) (columns : List (List ℕ)) (cells : List StoredCell) (i : ℕ) (a : Array) → (length columns ≤ i) ⊎ (length cells ≤ i) → row_on ev (drop i columns) (drop i cells) a ≡ give a
row_end ev columns cells i a (inl h) = ap (λ (cs : List (List ℕ)). row_on ev cs (drop i cells) a) (nothing_left columns i h) ∙ row_nil ev (drop i cells) a
row_end ev columns cells i a (inr h) = ap (λ (cs : List StoredCell). row_on ev (drop i columns) cs a) (nothing_left cells i h) ∙ row_none ev (drop i columns) a

pub rows_step : (ev : Evals) (columns : List (List ℕ)) (rows : List (List StoredCell)) (i : ℕ) (cells : List StoredCell) (a : Array) → i < length rows → cells ≡ get_or rows i cells
    → rows_on ev columns (drop i rows) a ≡ (row_on ev columns cells empty >>= λ row. computed (added_at None (as_tree row) a) >>= rows_on ev columns (drop (i + 1) rows))
rows_step ev columns rows i cells a h e = ap (λ (rs : List (List StoredCell)). rows_on ev columns rs a) (front rows i cells h e)

pub rows_end : (ev : Evals) (columns : List (List ℕ)) (rows : List (List StoredCell)) (i : ℕ) (a : Array) → length rows ≤ i → rows_on ev columns (drop i rows) a ≡ give a
rows_end ev columns rows i a h = ap (λ (rs : List (List StoredCell)). rows_on ev columns rs a) (nothing_left rows i h)

-- a row over the same cells
pub same_row : (ev : Evals) (columns : List (List ℕ)) (xs ys : List StoredCell) → xs ≡ ys → row_on ev columns ys empty ≡ row_on ev columns xs empty
same_row ev columns xs ys e = ap (λ (cs : List StoredCell). row_on ev columns cs empty) (sym e)

pub marks_step : (cells : List StoredCell) (i : ℕ) (c : StoredCell) (so_far : Marks) → i < length cells → c ≡ get_or cells i c
    → marks_of_cells (drop i cells) so_far ≡ (whole_marks (entry_for c.value c.shadow) >>= λ w. marks_of_cells (drop (i + 1) cells) (so_far ++ w))
marks_step cells i c so_far h e = ap (λ (cs : List StoredCell). marks_of_cells cs so_far) (front cells i c h e)

pub marks_end : (cells : List StoredCell) (i : ℕ) (so_far : Marks) → length cells ≤ i → marks_of_cells (drop i cells) so_far ≡ give so_far
marks_end cells i so_far h = ap (λ (cs : List StoredCell). marks_of_cells cs so_far) (nothing_left cells i h)

pub item_step : (ev : Evals) (chosen : ℕ) (its : List TotalItem) (rows : List (List StoredCell)) (i : ℕ) (it : TotalItem) (cells : List StoredCell) (a : Array) → i < length its → i < length rows → it ≡ get_or its i it → cells ≡ get_or rows i cells
    → items_on ev chosen (drop i its) (drop i rows) a ≡ (with_item ev chosen it cells a >>= items_on ev chosen (drop (i + 1) its) (drop (i + 1) rows))
item_step ev chosen its rows i it cells a h k e f =
    ap (λ (xs : List TotalItem). items_on ev chosen xs (drop i rows) a) (front its i it h e) ∙ ap (λ (rs : List (List StoredCell)). items_on ev chosen (it ∷ drop (i + 1) its) rs a) (front rows i cells k f)

items_nil : (ev : Evals) (chosen : ℕ) (rows : List (List StoredCell)) (a : Array) → items_on ev chosen [] rows a ≡ give a
items_nil ev chosen [] a = refl
items_nil ev chosen (r ∷ rows) a = refl

items_none : (ev : Evals) (chosen : ℕ) (its : List TotalItem) (a : Array) → items_on ev chosen its [] a ≡ give a
items_none ev chosen [] a = refl
items_none ev chosen (it ∷ its) a = refl

pub items_end : (ev : Evals) (chosen : ℕ) (its : List TotalItem) (rows : List (List StoredCell)) (i : ℕ) (a : Array) → (length its ≤ i) ⊎ (length rows ≤ i) → items_on ev chosen (drop i its) (drop i rows) a ≡ give a
items_end ev chosen its rows i a (inl h) = ap (λ (xs : List TotalItem). items_on ev chosen xs (drop i rows) a) (nothing_left its i h) ∙ items_nil ev chosen (drop i rows) a
items_end ev chosen its rows i a (inr h) = ap (λ (rs : List (List StoredCell)). items_on ev chosen (drop i its) rs a) (nothing_left rows i h) ∙ items_none ev chosen (drop i its) a

-- ---- the same over equal lists

pub same_cell : (ev : Evals) (cell : StoredCell) (a : Array) {x y : List ℕ} → x ≡ y → with_cell ev y cell a ≡ with_cell ev x cell a
same_cell ev cell a e = λ i. with_cell ev (sym e i) cell a

pub same_item : (ev : Evals) (chosen : ℕ) (it : TotalItem) (a : Array) {xs ys : List StoredCell} → xs ≡ ys → with_item ev chosen it ys a ≡ with_item ev chosen it xs a
same_item ev chosen it a e = λ i. with_item ev chosen it (sym e i) a

pub same_items : (ev : Evals) (chosen : ℕ) {its js : List TotalItem} {rows rs : List (List StoredCell)} → its ≡ js → rows ≡ rs → items_on ev chosen js rs empty ≡ items_on ev chosen its rows empty
same_items ev chosen e f = λ i. items_on ev chosen (sym e i) (sym f i) empty

pub same_rows : (ev : Evals) {cs ds : List (List ℕ)} {rows rs : List (List StoredCell)} → cs ≡ ds → rows ≡ rs → row_list ev ds rs ≡ row_list ev cs rows
same_rows ev e f = λ i. row_list ev (sym e i) (sym f i)

pub same_total : (ev : Evals) (end : Result MoreAnswer SqlRefusal) {its js : List TotalItem} → its ≡ js → more_answered (totalled ev js) end ≡ more_answered (totalled ev its) end
same_total ev end e = λ i. more_answered (totalled ev (sym e i)) end

pub same_literals : (ev : Evals) (t : LabelledText) {xs ys : List Literal} → xs ≡ ys → kept_literals ev t ys [] ≡ kept_literals ev t xs []
same_literals ev t e = λ i. kept_literals ev t (sym e i) []

-- ---- want of memory before the first

pub row_lost : (ev : Evals) (columns : List (List ℕ)) (cells : List StoredCell) (a : Array) {w : World} (r : Result Array Stop) → IsErrAnd r (λ e. e ≡ Memory) → Does (row_on ev columns cells a) w r w
row_lost ev [] [] a r h = does_lost_give a r h
row_lost ev [] (c ∷ cells) a r h = does_lost_give a r h
row_lost ev (n ∷ columns) [] a r h = does_lost_give a r h
row_lost ev (n ∷ columns) (c ∷ cells) a r h = does_unbegun_exit _ _ r h

pub rows_lost : (ev : Evals) (columns : List (List ℕ)) (rows : List (List StoredCell)) (a : Array) {w : World} (r : Result Array Stop) → IsErrAnd r (λ e. e ≡ Memory) → Does (rows_on ev columns rows a) w r w
rows_lost ev columns [] a r h = does_lost_give a r h
rows_lost ev columns (cells ∷ rows) a r h = does_unbegun_exit _ _ r h

pub items_lost : (ev : Evals) (chosen : ℕ) (its : List TotalItem) (rows : List (List StoredCell)) (a : Array) {w : World} (r : Result Array Stop) → IsErrAnd r (λ e. e ≡ Memory) → Does (items_on ev chosen its rows a) w r w
items_lost ev chosen [] [] a r h = does_lost_give a r h
items_lost ev chosen [] (cells ∷ rows) a r h = does_lost_give a r h
items_lost ev chosen (it ∷ its) [] a r h = does_lost_give a r h
items_lost ev chosen (it ∷ its) (cells ∷ rows) a r h = does_unbegun_exit _ _ r h

-- ---- the end

-- the place at the end of both
pub ended_at : (a b i : ℕ) → min a b ≤ i → (a ≤ i) ⊎ (b ≤ i)
ended_at a b i h = by (nat_le a b) refl
  where
    by : (t : Bool) → nat_le a b ≡ t → (a ≤ i) ⊎ (b ≤ i)
    by true e = inl (let le : a ≤ b = grind (arith, nat_tests) in omega (arith, le, h))
    by false e = inr (let lt : b < a = grind (arith, nat_tests) in omega (arith, lt, h))

-- ---- keys

-- the key of a name may stand in an array
pub lawful_key : (b : List ℕ) → IsTrue (is_lawful (text_key b))
lawful_key b =
    elim (canonical_integer b) as (λ o. canonical_integer b ≡ o → IsTrue (is_lawful (key_or_text o b))) [
      | None ↦ λ e. ap is_none e
      | Some n ↦ λ e. refl
    ] refl

-- ---- items in a loop

pub items_start : (ev : Evals) (chosen : ℕ) (its : List TotalItem) (rows : List (List StoredCell)) (a : Array) (w : World) → a ≡ empty → Leads (items_on ev chosen its rows empty) w (items_on ev chosen its rows a) w
items_start ev chosen its rows a w e = subst (λ (x : Array). Leads (items_on ev chosen its rows empty) w (items_on ev chosen its rows x) w) (sym e) (leads_here (items_on ev chosen its rows empty) w)

pub items_exit : (ev : Evals) (chosen : ℕ) (its : List TotalItem) (rows : List (List StoredCell)) (i : ℕ) (it : TotalItem) (cells xs : List StoredCell) (a : Array) {u v : World} {s : Stop} (r : Result Array Stop) → i < length its → i < length rows → it ≡ get_or its i it → cells ≡ get_or rows i cells → xs ≡ cells
    → IsErrAnd r (λ e. e ≡ s) → Does (with_item ev chosen it xs a) u (Err s) v → Does (items_on ev chosen (drop i its) (drop i rows) a) u r v
items_exit ev chosen its rows i it cells xs a r h k e f q x d = does_is (item_step ev chosen its rows i it cells a h k e f) (does_exit _ _ r x (does_is (same_item ev chosen it a q) d))

pub items_next : (ev : Evals) (chosen : ℕ) (its : List TotalItem) (rows : List (List StoredCell)) (i : ℕ) (it : TotalItem) (cells xs : List StoredCell) (a b : Array) {u v w : World} {r : Result Array Stop} → i < length its → i < length rows → it ≡ get_or its i it → cells ≡ get_or rows i cells → xs ≡ cells
    → Does (with_item ev chosen it xs a) u (Ok b) v → Does (items_on ev chosen (drop (i + 1) its) (drop (i + 1) rows) b) v r w → Does (items_on ev chosen (drop i its) (drop i rows) a) u r w
items_next ev chosen its rows i it cells xs a b h k e f q d l = does_is (item_step ev chosen its rows i it cells a h k e f) (does_next _ _ (does_is (same_item ev chosen it a q) d) l)

pub items_done : (ev : Evals) (chosen : ℕ) (its : List TotalItem) (rows : List (List StoredCell)) (i : ℕ) (a : Array) (w : World) → (length its ≤ i) ⊎ (length rows ≤ i) → Does (items_on ev chosen (drop i its) (drop i rows) a) w (Ok a) w
items_done ev chosen its rows i a w h = does_is (items_end ev chosen its rows i a h) (does_give a w)
