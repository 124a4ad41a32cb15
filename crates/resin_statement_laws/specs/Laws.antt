-- Laws of statements over tables whose cells carry their policies.
use Rattle.std.specs.Prelude.{◌≡◌, ℕ, List, [], ◌∷◌, ⊤, Some, Result, IsTrue}
use Rattle.resin_base.specs.TableStore.{TableStore, EachWhole}
use Rattle.resin_base.specs.declared.cell.Kind.{Kind}
use Rattle.resin_store.specs.Cells.{LabelledCell, plain_cell, lift_cell}
use Rattle.resin_meaning_forms.specs.Under.meaning_tables.Under.rows.Cells.{fits}
use Rattle.resin_meaning_forms.specs.Under.meaning_tables.Under.sql.declared.fault.SqlStop.{SqlStop}
use Rattle.resin_meaning_forms.specs.Under.meaning_tables.Under.sql.declared.tree.Stmt.{Stmt}
use Rattle.resin_meaning_forms.specs.Under.meaning_tables.Under.plan.Plans.{Ends}
use Rattle.resin_meaning_forms.specs.Under.meaning_tables.Under.plan.Statements.{plan}
use Rattle.resin_meaning_forms.specs.Under.meaning_tables.Under.plan.declared.answer.SqlAnswer.{SqlAnswer}
use Rattle.resin_meaning_forms.specs.Under.meaning_tables.Under.plan.TableCalls.{Keeping}
use Rattle.resin_meaning_forms.specs.Under.meaning_tables.Under.joint.declared.tree.JoinStmt.{JoinStmt}
use Rattle.resin_meaning_forms.specs.Under.meaning_tables.Under.joint.declared.tree.TotalStmt.{TotalStmt}
use Rattle.resin_meaning_forms.specs.Under.meaning_tables.Under.sql_more.Joins.{join_plan}
use Rattle.resin_meaning_forms.specs.Under.meaning_tables.Under.sql_more.Plans.{Ends as MoreEnds}
use Rattle.resin_meaning_forms.specs.Under.meaning_tables.Under.sql_more.Totals.{total_plan}
use Rattle.resin_meaning_forms.specs.Under.meaning_tables.Under.sql_more.declared.answer.MoreAnswer.{MoreAnswer}
use Rattle.resin_frame.specs.LabelledTables.{lift_tables}
use Rattle.resin_statement_laws.specs.Calls.{Holds}
use Rattle.resin_statement_laws.specs.Effects.{all_stepped, plain_values, plain_end, effect}
use Rattle.resin_statement_laws.specs.Literals.{IsKept, IsLawful}
use Rattle.resin_statement_laws.specs.More.{plain_more_end, join_effect, total_effect, ComesTo}
use Rattle.resin_statement_laws.specs.Runs.{followed, EndsWith}

-- ---- the values of statements

-- a column that takes the value of a cell reads what a keeper holds of the cell as the cell that it is
abbrev pub IsReadable : LabelledCell → Type 0
IsReadable c = (kind : Kind) → IsTrue (fits kind (plain_cell c).value) → lift_cell kind (plain_cell c) ≡ c

abbrev pub AreReadable : List LabelledCell → Type 0
AreReadable [] = ⊤
AreReadable (c ∷ cells) = IsReadable c × AreReadable cells

-- a cell as the runtime keeps it, which is lawful, is read as the cell that it is
abbrev pub ReadsKept : Type 0
ReadsKept = (c : LabelledCell) → IsKept c → IsLawful c → IsReadable c

-- ---- statements

-- Following the plan of a statement leads to a store that is, with the policies of its cells, what the effect leaves, and it comes to the same
-- answer or refusal.
abbrev pub StatementsAreEffects : Type 0
StatementsAreEffects =
    (statement : Stmt) (vs : List LabelledCell) (s : TableStore) → EachWhole s → AreReadable vs
    → let o = followed (plan statement (plain_values vs)) s in let e = effect statement vs (lift_tables s) in
    Holds o.0 (all_stepped (lift_tables s) e.steps) × (o.1 ≡ plain_end e.end)

-- However a run of the plan ends, and whatever calls fail, where it leaves the keeper is, with the policies of the cells, a front of the effect; and
-- where it has an answer, or is refused, that is the effect's, and all of its steps were taken. What the keeper holds stays whole.
abbrev pub RunsAreEffects : Type 0
RunsAreEffects =
    (statement : Stmt) (vs : List LabelledCell) (u w : Keeping) (r : Result SqlAnswer SqlStop) (s : TableStore)
    → u.stored ≡ Some s → EachWhole s → AreReadable vs → Ends (plan statement (plain_values vs)) u r w
    → (t : TableStore) × (w.stored ≡ Some t) × EachWhole t × EndsWith (effect statement vs (lift_tables s)) (lift_tables s) r (lift_tables t)

-- ---- joins and totals

-- Following the plan of a join changes nothing, and comes to what is answered of the tables whose cells carry their policies.
abbrev pub JoinsAreEffects : Type 0
JoinsAreEffects =
    (s : JoinStmt) (vs : List LabelledCell) (left : ℕ) (tables : TableStore) → EachWhole tables
    → let o = followed (join_plan s (plain_values vs) left) tables in
    (o.0 ≡ tables) × (o.1 ≡ plain_more_end (join_effect s vs left (lift_tables tables)))

-- and so does that of a total
abbrev pub TotalsAreEffects : Type 0
TotalsAreEffects =
    (s : TotalStmt) (vs : List LabelledCell) (left : ℕ) (tables : TableStore) → EachWhole tables
    → let o = followed (total_plan s (plain_values vs) left) tables in
    (o.0 ≡ tables) × (o.1 ≡ plain_more_end (total_effect s vs left (lift_tables tables)))

-- However a run of these plans ends, and whatever calls fail, it changes nothing, and an answer or a refusal is this.
abbrev pub JoinRunsAreEffects : Type 0
JoinRunsAreEffects =
    (s : JoinStmt) (vs : List LabelledCell) (left : ℕ) (u w : Keeping) (r : Result MoreAnswer SqlStop) (tables : TableStore)
    → u.stored ≡ Some tables → EachWhole tables → MoreEnds (join_plan s (plain_values vs) left) u r w
    → (w.stored ≡ Some tables) × ComesTo (join_effect s vs left (lift_tables tables)) r

abbrev pub TotalRunsAreEffects : Type 0
TotalRunsAreEffects =
    (s : TotalStmt) (vs : List LabelledCell) (left : ℕ) (u w : Keeping) (r : Result MoreAnswer SqlStop) (tables : TableStore)
    → u.stored ≡ Some tables → EachWhole tables → MoreEnds (total_plan s (plain_values vs) left) u r w
    → (w.stored ≡ Some tables) × ComesTo (total_effect s vs left (lift_tables tables)) r
