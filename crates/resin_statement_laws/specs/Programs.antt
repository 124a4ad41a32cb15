-- What programs do to tables whose cells carry their policies, where they carry out statements: the meaning of a script does so for each `sql_query`.
use Rattle.std.specs.Prelude.{◌≡◌, ℕ, List, [], ◌∷◌, ⊤, Some, Result, Ok, Err}
use Rattle.resin_base.specs.Numbering.{AreNumbered}
use Rattle.resin_base.specs.TableStore.{TableStore, EachWhole}
use Rattle.resin_base.specs.declared.stored.StoredCell.{StoredCell}
use Rattle.resin_store.specs.Cells.{LabelledCell}
use Rattle.resin_store.specs.Files.{LabelledFiles}
use Rattle.resin_meaning_forms.specs.Cells.{kept_literals}
use Rattle.resin_meaning_forms.specs.Parts.{Evals}
use Rattle.resin_meaning_forms.specs.Under.lstr.Texts.{Text as LabelledText}
use Rattle.resin_meaning_forms.specs.Under.machine.declared.stop.Stop.{Stop}
use Rattle.resin_meaning_forms.specs.Under.meaning.Programs.{Whole, Moment, Out}
use Rattle.resin_meaning_forms.specs.Under.meaning.Runs.{World, Does}
use Rattle.resin_meaning_forms.specs.Under.meaning_tables.Plans.{carried_out, carried_with_ticks}
use Rattle.resin_meaning_forms.specs.Under.meaning_tables.Under.joint.declared.tree.JoinStmt.{JoinStmt}
use Rattle.resin_meaning_forms.specs.Under.meaning_tables.Under.joint.declared.tree.TotalStmt.{TotalStmt}
use Rattle.resin_meaning_forms.specs.Under.meaning_tables.Under.plan.Statements.{plan}
use Rattle.resin_meaning_forms.specs.Under.meaning_tables.Under.plan.declared.answer.SqlAnswer.{SqlAnswer}
use Rattle.resin_meaning_forms.specs.Under.meaning_tables.Under.sql.declared.fault.SqlRefusal.{SqlRefusal}
use Rattle.resin_meaning_forms.specs.Under.meaning_tables.Under.sql.declared.tree.Stmt.{Stmt}
use Rattle.resin_meaning_forms.specs.Under.meaning_tables.Under.sql_words.declared.literals.Literal.{Literal}
use Rattle.resin_meaning_forms.specs.Under.meaning_tables.Under.sql_more.Joins.{join_plan}
use Rattle.resin_meaning_forms.specs.Under.meaning_tables.Under.sql_more.Plans as end
use Rattle.resin_meaning_forms.specs.Under.meaning_tables.Under.sql_more.Totals.{total_plan}
use Rattle.resin_meaning_forms.specs.Under.meaning_tables.Under.sql_more.declared.answer.MoreAnswer.{MoreAnswer}
use Rattle.resin_frame.specs.LabelledTables.{LabelledTables, lift_tables}
use Rattle.resin_statement_laws.specs.Effects.{Step, all_stepped, plain_values, plain_end, effect}
use Rattle.resin_statement_laws.specs.Laws.{AreReadable}
use Rattle.resin_statement_laws.specs.Literals.{AreCellsOf, AreLawful}
use Rattle.resin_statement_laws.specs.More.{LabelledMoreEnd, plain_more_end, join_effect, total_effect}
use Rattle.resin_statement_laws.specs.Runs.{IsFront}

-- ---- what a program leaves that takes these steps and comes to this

-- where it has a value, it is this, and all the steps were taken; where it stopped, the first ones were
abbrev pub EndsBy : {A : Type 0} → List Step → A → LabelledTables → Result A Stop → LabelledTables → Type 0
EndsBy steps r before (Ok v) now = (v ≡ r) × (now ≡ all_stepped before steps)
EndsBy steps r before (Err s) now = IsFront before steps now

-- at each of these moments the first steps were taken, and the files were as they are
abbrev pub AllFronts : List Step → TableStore → LabelledFiles → List Moment → Type 0
AllFronts steps tables files [] = ⊤
AllFronts steps tables files (m ∷ moments) =
    IsFront (lift_tables tables) steps (lift_tables m.store.tables) × (m.store.files ≡ files) × AllFronts steps tables files moments

-- It leaves the state and the files as they were, and the tables whole; and so it goes at each moment at which want of memory may leave things.
pub record Carries {A : Type 0} (steps : List Step) (r : A) (at : Whole) (o : Out A) : Type 0 where
  pub ends : EndsBy steps r (lift_tables at.store.tables) o.end (lift_tables o.whole.store.tables)
  pub state : o.whole.state ≡ at.state
  pub files : o.whole.store.files ≡ at.store.files
  pub whole : EachWhole o.whole.store.tables
  pub moments : AllFronts steps at.store.tables at.store.files o.moments

-- ---- laws

-- whatever calls fail, the program of a statement takes the steps of its effect, and comes to the effect's answer or refusal
abbrev pub ProgramsCarry : Type 0
ProgramsCarry =
    (statement : Stmt) (vs : List LabelledCell) (failing : List ℕ) (at : Whole) → EachWhole at.store.tables → AreReadable vs
    → let e = effect statement vs (lift_tables at.store.tables) in
    Carries e.steps (plain_end e.end) at (carried_out (plan statement (plain_values vs)) failing at)

-- and so does every run that does as the program does, where both keepers tell what they hold
abbrev pub WorldsCarry : Type 0
WorldsCarry =
    (statement : Stmt) (vs : List LabelledCell) (w w' : World) (r : Result (Result SqlAnswer SqlRefusal) Stop)
    → (files : LabelledFiles) (s : TableStore) → Does (carried_out (plan statement (plain_values vs))) w r w' → AreNumbered w.calls
    → w.files.stored ≡ Some files → w.tables.stored ≡ Some s → EachWhole s → AreReadable vs
    → let e = effect statement vs (lift_tables s) in
    (t : TableStore) × (w'.tables.stored ≡ Some t) × (w'.files.stored ≡ Some files)
    × EndsBy e.steps (plain_end e.end) (lift_tables s) r (lift_tables t)

-- Where the literals of a text were kept, they are what is plain of their cells, which have on each byte the texts of that byte's policies; and any
-- statement with these values takes the steps of its effect with these cells, if they are lawful.
abbrev pub LiteralsCarry : Type 0
LiteralsCarry =
    (ev : Evals) (t : LabelledText) (literals : List Literal) (failing : List ℕ) (at : Whole) (held : List StoredCell)
    → (kept_literals ev t literals [] failing at).end ≡ Ok held
    → (vs : List LabelledCell) × AreCellsOf t literals vs
    × (AreLawful vs → (statement : Stmt) (failing : List ℕ) (at : Whole) → EachWhole at.store.tables
    → let e = effect statement vs (lift_tables at.store.tables) in
    Carries e.steps (plain_end e.end) at (carried_out (plan statement held) failing at))

-- an answer or a refusal is what the join or the total comes to
abbrev pub Comes : LabelledMoreEnd → Result (Result MoreAnswer SqlRefusal) Stop → Type 0
Comes e (Ok (Ok answer)) = end.Answers answer ≡ plain_more_end e
Comes e (Ok (Err x)) = end.Refuses x ≡ plain_more_end e
Comes e (Err s) = ⊤

-- the tables and the files stand at each of these moments as they are
abbrev pub AllSame : TableStore → LabelledFiles → List Moment → Type 0
AllSame tables files [] = ⊤
AllSame tables files (m ∷ moments) = (m.store.tables ≡ tables) × (m.store.files ≡ files) × AllSame tables files moments

-- a program of a join or a total leaves tables and files as they were, at each moment too
pub record Answers (e : LabelledMoreEnd) (at : Whole) (o : Out (Result MoreAnswer SqlRefusal)) : Type 0 where
  pub ends : Comes e o.end
  pub tables : o.whole.store.tables ≡ at.store.tables
  pub files : o.whole.store.files ≡ at.store.files
  pub moments : AllSame at.store.tables at.store.files o.moments

abbrev pub JoinProgramsAnswer : Type 0
JoinProgramsAnswer =
    (s : JoinStmt) (vs : List LabelledCell) (failing : List ℕ) (at : Whole) → EachWhole at.store.tables
    → Answers (join_effect s vs at.state.ticks (lift_tables at.store.tables)) at (carried_with_ticks (join_plan s (plain_values vs)) failing at)

-- and so does every run that does as such a program does, where both keepers tell what they hold
abbrev pub JoinWorldsAnswer : Type 0
JoinWorldsAnswer =
    (s : JoinStmt) (vs : List LabelledCell) (w w' : World) (r : Result (Result MoreAnswer SqlRefusal) Stop)
    → (files : LabelledFiles) (tables : TableStore) → Does (carried_with_ticks (join_plan s (plain_values vs))) w r w' → AreNumbered w.calls
    → w.files.stored ≡ Some files → w.tables.stored ≡ Some tables → EachWhole tables
    → (w'.tables.stored ≡ Some tables) × (w'.files.stored ≡ Some files) × Comes (join_effect s vs w.state.ticks (lift_tables tables)) r

abbrev pub TotalProgramsAnswer : Type 0
TotalProgramsAnswer =
    (s : TotalStmt) (vs : List LabelledCell) (failing : List ℕ) (at : Whole) → EachWhole at.store.tables
    → Answers (total_effect s vs at.state.ticks (lift_tables at.store.tables)) at (carried_with_ticks (total_plan s (plain_values vs)) failing at)

abbrev pub TotalWorldsAnswer : Type 0
TotalWorldsAnswer =
    (s : TotalStmt) (vs : List LabelledCell) (w w' : World) (r : Result (Result MoreAnswer SqlRefusal) Stop)
    → (files : LabelledFiles) (tables : TableStore) → Does (carried_with_ticks (total_plan s (plain_values vs))) w r w' → AreNumbered w.calls
    → w.files.stored ≡ Some files → w.tables.stored ≡ Some tables → EachWhole tables
    → (w'.tables.stored ≡ Some tables) × (w'.files.stored ≡ Some files) × Comes (total_effect s vs w.state.ticks (lift_tables tables)) r
