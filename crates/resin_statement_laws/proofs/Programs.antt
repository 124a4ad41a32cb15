-- Programs that carry out statements take the steps of their effects.
use Rattle.std.proofs.Common.{◌≡◌, ◌≢◌, inl, inr, ℕ, zero, suc, ◌+◌, nat_lt, Bool, true, false, cond, List, [], ◌∷◌, ◌++◌, length, map, take, Option, Some, Result, Ok, Err, refl, sym, ap, subst, ◌∙◌}
use Rattle.std.proofs.Math.Seq.{take-append-add}
use Rattle.std.proofs.lemmas.Bool.{false≢true}
use Rattle.resin_base.specs.Causes.{last_count, is_listed}
use Rattle.resin_base.specs.Numbering.{AreNumbered}
use Rattle.resin_base.specs.TableStore.{TableStore, EachWhole}
use Rattle.resin_store.specs.Files.{LabelledFiles}
use Rattle.resin_meaning_forms.specs.Under.machine.declared.stop.Stop.{Stop}
use Rattle.resin_meaning_forms.specs.Under.machine.declared.stop.Stop.TheVariants as stop
use Rattle.resin_meaning_forms.specs.Under.scalar.declared.faults.ScriptFault.TheVariants.{FuelSpent}
use Rattle.resin_meaning_forms.specs.Under.meaning.Programs.{Store, Whole, KeeperCall, Moment, moment, later, Out, Prog, then_by, on_value, ◌>>=◌, act, called, keep, on_tables, table_call}
use Rattle.resin_meaning_forms.specs.Under.meaning.Programs.{stop as stop_at}
use Rattle.resin_meaning_forms.specs.Under.meaning.Runs.{World, Reached, Meets, Does, done}
use Rattle.resin_meaning_forms.specs.Under.meaning_tables.Plans.{asked, carried_out, paid_for, carried_with_ticks}
use Rattle.resin_meaning_forms.specs.Under.meaning_tables.Under.plan.Plans.{Steps, Ask}
use Rattle.resin_meaning_forms.specs.Under.meaning_tables.Under.plan.Plans as p
use Rattle.resin_meaning_forms.specs.Under.meaning_tables.Under.plan.Statements.{plan}
use Rattle.resin_meaning_forms.specs.Under.meaning_tables.Under.plan.TableCalls.{TableCall, MakeTable, AskColumns, AskRows, AddRow, SetRow, TakeRow, Answer}
use Rattle.resin_meaning_forms.specs.Under.meaning_tables.Under.sql.declared.fault.SqlRefusal.{SqlRefusal}
use Rattle.resin_meaning_forms.specs.Under.meaning_tables.Under.sql_more.Joins.{join_plan}
use Rattle.resin_meaning_forms.specs.Under.meaning_tables.Under.sql_more.Plans as m
use Rattle.resin_meaning_forms.specs.Under.meaning_tables.Under.sql_more.Totals.{total_plan}
use Rattle.resin_meaning_forms.specs.Under.meaning_tables.Under.sql_more.declared.answer.MoreAnswer.{MoreAnswer}
use Rattle.resin_frame.specs.LabelledTables.{LabelledTables, lift_tables}
use Rattle.resin_statement_laws.specs.Effects.{Step, all_stepped, plain_values, plain_end, effect}
use Rattle.resin_statement_laws.specs.More.{LabelledMoreEnd, plain_more_end, join_effect, total_effect}
use Rattle.resin_statement_laws.specs.Programs.{EndsBy, AllFronts, Carries, ProgramsCarry, LiteralsCarry, WorldsCarry, Comes, AllSame, Answers, JoinProgramsAnswer, JoinWorldsAnswer, TotalProgramsAnswer, TotalWorldsAnswer}
use Rattle.resin_statement_laws.specs.Runs.{answer_of, left_by, IsFront}
use Rattle.resin_statement_laws.proofs.Following.{Follows, stepped_then}
use Rattle.resin_statement_laws.proofs.Kept.{all_readable}
use Rattle.resin_statement_laws.proofs.Literals.{keeps_literals}
use Rattle.resin_statement_laws.proofs.More.{join_with, total_with, same_tables}
use Rattle.resin_statement_laws.proofs.Runs.{whole_left}
use Rattle.resin_statement_laws.proofs.Statements.{with_effect}

-- ---- fronts

-- a front of the steps that are left, behind those that were taken
front_behind : (before mid now : LabelledTables) (steps taken left : List Step) → steps ≡ taken ++ left → mid ≡ all_stepped before taken → IsFront mid left now → IsFront before steps now
front_behind before mid now steps taken left split e f = (
  length taken + f.0,
  f.1 ∙ ap (λ t. all_stepped t (take f.0 left)) e ∙ sym (stepped_then before taken (take f.0 left))
      ∙ ap (all_stepped before) (sym (take-append-add taken left f.0) ∙ ap (take (length taken + f.0)) (sym split)),
)

front_here : (before : LabelledTables) (steps : List Step) → IsFront before steps before
front_here before steps = (0, refl)

all_behind : (s t : TableStore) (files : LabelledFiles) (steps taken left : List Step) (moments : List Moment) → steps ≡ taken ++ left
    → lift_tables t ≡ all_stepped (lift_tables s) taken → AllFronts left t files moments → AllFronts steps s files moments
all_behind s t files steps taken left [] split e f = tt
all_behind s t files steps taken left (x ∷ moments) split e f =
    (front_behind (lift_tables s) (lift_tables t) (lift_tables x.store.tables) steps taken left split e f.0, f.1, all_behind s t files steps taken left moments split e f.2)

all_later : (steps : List Step) (s : TableStore) (files : LabelledFiles) (calls : List KeeperCall) (moments : List Moment) → AllFronts steps s files moments
    → AllFronts steps s files (map (later calls) moments)
all_later steps s files calls [] f = tt
all_later steps s files calls (x ∷ moments) f = (f.0, f.1, all_later steps s files calls moments f.2)

-- ---- one call

-- the keeper call that a call of a plan is
kept_call : TableCall → KeeperCall
kept_call (MakeTable name columns) = table_call name true
kept_call (AskColumns name) = table_call name false
kept_call (AskRows name) = table_call name false
kept_call (AddRow name cells) = table_call name true
kept_call (SetRow name number cells) = table_call name true
kept_call (TakeRow name number) = table_call name true

abbrev change_of : (call : TableCall) → Store → Answer call × Store
change_of call = on_tables (λ s. (answer_of call s, left_by call s))

asked_is : (call : TableCall) → asked call ≡ keep (kept_call call) (change_of call)
unfolding kept_call
asked_is (MakeTable name columns) = refl
asked_is (AskColumns name) = refl
asked_is (AskRows name) = refl
asked_is (AddRow name cells) = refl
asked_is (SetRow name number cells) = refl
asked_is (TakeRow name number) = refl

abbrev after_answer : (call : TableCall) → Whole → Whole
after_answer call at = record { state = at.state; store = record { files = at.store.files; tables = left_by call at.store.tables }; made = at.made + 1 }

-- a plan is carried out so
abbrev CarriedSo : {A : Type 0} → Prog A → List Step → A → List ℕ → Whole → Type 0
CarriedSo prog steps r failing at = Carries steps r at (prog failing at)

-- a call, by what comes of it, and then the rest
call_carried : {A : Type 0} (kc : KeeperCall) (call : TableCall) (f : Answer call → Prog A) (steps taken left : List Step) (r : A) (failing : List ℕ) (at : Whole)
    → EachWhole at.store.tables → steps ≡ taken ++ left → lift_tables (left_by call at.store.tables) ≡ all_stepped (lift_tables at.store.tables) taken
    → ((answer : Answer call) → answer ≡ answer_of call at.store.tables → Carries left r (after_answer call at) (f answer failing (after_answer call at)))
    → CarriedSo (keep kc (change_of call) >>= f) steps r failing at
unfolding ◌>>=◌ then_by keep
call_carried {A = A} kc call f steps taken left r failing at whole split lifted rest = by (nat_lt at.made last_count) (is_listed failing (at.made + 1))
  where
    s : TableStore
    s = at.store.tables

    outcome : Bool → Bool → Out (Answer call)
    outcome room fails = cond room (called kc (change_of call at.store) fails at) (stop_at {A = Answer call} (stop.Fault FuelSpent at.state.line) failing at)

    whole_of : Out (Answer call) → Out A
    whole_of o =
        let o' = on_value f o.end failing o.whole in
        record {
          end = o'.end;
          whole = o'.whole;
          calls = o.calls ++ o'.calls;
          moments = moment [] at ∷ (o.moments ++ moment o.calls o.whole ∷ map (later o.calls) o'.moments);
        }

    here : IsFront (lift_tables at.store.tables) steps (lift_tables at.store.tables)
    here = front_here (lift_tables at.store.tables) steps

    by : (room fails : Bool) → Carries steps r at (whole_of (outcome room fails))
    by false fails = record {
      ends = here;
      state = refl;
      files = refl;
      whole = whole;
      moments = (here, refl, (here, refl, (here, refl, (here, refl, tt))));
    }
    by true true = record {
      ends = here;
      state = refl;
      files = refl;
      whole = whole;
      moments = (here, refl, (here, refl, (here, refl, (here, refl, (here, refl, tt)))));
    }
    by true false =
        let o' = rest (answer_of call at.store.tables) refl in
        let next : IsFront (lift_tables at.store.tables) steps (lift_tables (left_by call at.store.tables))
        = front_behind (lift_tables at.store.tables) (lift_tables (left_by call at.store.tables)) (lift_tables (left_by call at.store.tables)) steps taken left split lifted
        (front_here (lift_tables (left_by call at.store.tables)) left) in
        record {
          ends = ends_behind (f (answer_of call at.store.tables) failing (after_answer call at)).end o'.ends;
          state = o'.state;
          files = o'.files;
          whole = o'.whole;
          moments = (
            here,
            refl,
            (
              here,
              refl,
              (
                next,
                refl,
                (
                  next,
                  refl,
                  all_later steps at.store.tables at.store.files (kc ∷ []) (f (answer_of call at.store.tables) failing (after_answer call at)).moments
                      (all_behind at.store.tables (left_by call at.store.tables) at.store.files steps taken left (f (answer_of call at.store.tables) failing (after_answer call at)).moments split lifted o'.moments),
                ),
              ),
            ),
          );
        }
      where
        ends_behind : (e : Result A Stop) → EndsBy left r (lift_tables (left_by call at.store.tables)) e (lift_tables (f (answer_of call at.store.tables) failing (after_answer call at)).whole.store.tables)
            → EndsBy steps r (lift_tables at.store.tables) e (lift_tables (f (answer_of call at.store.tables) failing (after_answer call at)).whole.store.tables)
        ends_behind (Ok v) h =
            (h.0, h.1 ∙ ap (λ t. all_stepped t left) lifted ∙ sym (stepped_then (lift_tables at.store.tables) taken left) ∙ ap (all_stepped (lift_tables at.store.tables)) (sym split))
        ends_behind (Err x) h =
            front_behind (lift_tables at.store.tables) (lift_tables (left_by call at.store.tables)) (lift_tables (f (answer_of call at.store.tables) failing (after_answer call at)).whole.store.tables) steps taken left split lifted h

-- ---- a plan

pub carried : {A : Type 0} (q : Steps A) (steps : List Step) (r : A) (failing : List ℕ) (at : Whole) → EachWhole at.store.tables → Follows q at.store.tables steps r
    → CarriedSo (carried_out q) steps r failing at
carried (p.Done end) steps r failing at whole f = record {
  ends = (f.1, sym (ap (all_stepped (lift_tables at.store.tables)) f.0));
  state = refl;
  files = refl;
  whole = whole;
  moments = (front_here (lift_tables at.store.tables) steps, refl, tt);
}
carried (Ask call next) steps r failing at whole f =
    subst (λ prog. CarriedSo (prog >>= λ answer. carried_out (next answer)) steps r failing at) (sym (asked_is call))
    (call_carried (kept_call call) call (λ answer. carried_out (next answer)) steps f.0 f.1 r failing at whole f.2 f.3
    (λ answer e. subst (λ a. Carries f.1 r (after_answer call at) (carried_out (next a) failing (after_answer call at))) (sym e)
    (carried (next (answer_of call at.store.tables)) f.1 r failing (after_answer call at) (whole_left call at.store.tables whole) f.4)))

pub programs_carry : ProgramsCarry
programs_carry q vs failing at whole readable =
    let e = effect q vs (lift_tables at.store.tables) in
    carried (plan q (plain_values vs)) e.steps (plain_end e.end) failing at whole (with_effect q vs at.store.tables whole readable)

-- ---- literals, and then a statement

pub literals_carry : LiteralsCarry
literals_carry ev t literals failing at held ended =
    let k = keeps_literals ev t literals failing at held ended in (
      k.0,
      k.2,
      λ lawful statement failing at whole.
          let e = effect statement k.0 (lift_tables at.store.tables) in
          subst (λ cells. Carries e.steps (plain_end e.end) at (carried_out (plan statement cells) failing at)) k.1
          (programs_carry statement k.0 failing at whole (all_readable k.0 k.3 lawful)),
    )

-- ---- a run that does as the program does

all_reached : (steps : List Step) (s : TableStore) (files : LabelledFiles) (x : Moment) (moments : List Moment) → AllFronts steps s files moments → Reached x moments
    → IsFront (lift_tables s) steps (lift_tables x.store.tables) × (x.store.files ≡ files)
all_reached steps s files x [] f h = elim h [ ]
all_reached steps s files x (y ∷ moments) f (inl e) =
    subst (λ (z : Moment). IsFront (lift_tables s) steps (lift_tables z.store.tables) × (z.store.files ≡ files)) (sym e) (f.0, f.1)
all_reached steps s files x (y ∷ moments) f (inr h) = all_reached steps s files x moments f.2 h

abbrev wants_memory : {A : Type 0} → Result A Stop → Bool
wants_memory (Ok v) = false
wants_memory (Err (stop.Thrown o)) = false
wants_memory (Err stop.Exit) = false
wants_memory (Err (stop.Fault f line)) = false
wants_memory (Err stop.Keeper) = false
wants_memory (Err stop.Memory) = true

-- where a run leaves the keepers
abbrev Left : {A : Type 0} → List Step → A → LabelledFiles → TableStore → World → Result A Stop → Type 0
Left steps v files s w r = (t : TableStore) × (w.tables.stored ≡ Some t) × (w.files.stored ≡ Some files) × EndsBy steps v (lift_tables s) r (lift_tables t)

left_so : {A : Type 0} (prog : Prog A) (steps : List Step) (v : A) (files : LabelledFiles) (s : TableStore) (w w' : World) (r : Result A Stop) → Does prog w r w' → AreNumbered w.calls
    → w.files.stored ≡ Some files → w.tables.stored ≡ Some s → ((failing : List ℕ) (at : Whole) → at.store.tables ≡ s → at.store.files ≡ files → Carries steps v at (prog failing at))
    → Left steps v files s w' r
left_so {A = A} prog steps v files s w w' r d numbered told_files told c = by r refl
  where
    at : Whole
    at = record { state = w.state; store = record { files = files; tables = s }; made = w.calls.made }

    o : Out A
    o = prog w'.calls.failed at

    here : Carries steps v at (prog w'.calls.failed at)
    here = c w'.calls.failed at refl refl

    meets : Meets (prog w'.calls.failed at) r w' (done d).goes.calls
    meets = (done d).means numbered at (record { state = refl; files = sym told_files; tables = sym told; made = refl }) w'.calls.failed (λ k le. refl)

    settled : (r ≢ Err stop.Memory) → Left steps v files s w' r
    settled not =
        let same = meets.same not in (
          o.whole.store.tables,
          sym same.1.tables,
          sym same.1.files ∙ ap (λ (x : LabelledFiles). let y : Option LabelledFiles = Some x in y) here.files,
          subst (λ e. EndsBy steps v (lift_tables s) e (lift_tables o.whole.store.tables)) same.0 here.ends,
        )

    wanting : r ≡ Err stop.Memory → Left steps v files s w' r
    wanting e =
        let among = meets.front e in
        let f = all_reached steps s files among.at o.moments here.moments among.reached in (
          among.at.store.tables,
          sym among.tables,
          sym among.files ∙ ap (λ (x : LabelledFiles). let y : Option LabelledFiles = Some x in y) f.1,
          subst (λ y. EndsBy steps v (lift_tables s) y (lift_tables among.at.store.tables)) (sym e) f.0,
        )

    other : r ≡ r → wants_memory r ≡ false → Left steps v files s w' r
    other e f = settled (λ x. false≢true (sym f ∙ ap wants_memory x))

    by : (x : Result A Stop) → r ≡ x → Left steps v files s w' r
    by (Ok x) e = other refl (ap wants_memory e)
    by (Err (stop.Thrown x)) e = other refl (ap wants_memory e)
    by (Err stop.Exit) e = other refl (ap wants_memory e)
    by (Err (stop.Fault x line)) e = other refl (ap wants_memory e)
    by (Err stop.Keeper) e = other refl (ap wants_memory e)
    by (Err stop.Memory) e = wanting e

pub worlds_carry : WorldsCarry
worlds_carry q vs w w' r files s d numbered told_files told whole readable =
    let e = effect q vs (lift_tables s) in
    left_so (carried_out (plan q (plain_values vs))) e.steps (plain_end e.end) files s w w' r d numbered told_files told
    (λ failing at same other.
    carried (plan q (plain_values vs)) e.steps (plain_end e.end) failing at (subst EachWhole (sym same) whole)
    (subst (λ x. Follows (plan q (plain_values vs)) x e.steps (plain_end e.end)) (sym same) (with_effect q vs s whole readable)))

-- ---- joins and totals

no_front : (before now : LabelledTables) → IsFront before [] now → now ≡ before
no_front before now f = f.1 ∙ by f.0
  where
    by : (k : ℕ) → all_stepped before (take k []) ≡ before
    by zero = refl
    by (suc k) = refl

all_same : (s : TableStore) (files : LabelledFiles) (moments : List Moment) → AllFronts [] s files moments → AllSame s files moments
all_same s files [] f = tt
all_same s files (x ∷ moments) f = (same_tables s x.store.tables (no_front (lift_tables s) (lift_tables x.store.tables) f.0), f.1, all_same s files moments f.2)

same_append : (s : TableStore) (files : LabelledFiles) (xs ys : List Moment) → AllSame s files xs → AllSame s files ys → AllSame s files (xs ++ ys)
same_append s files [] ys f g = g
same_append s files (x ∷ xs) ys f g = (f.0, f.1, same_append s files xs ys f.2 g)

same_later : (s : TableStore) (files : LabelledFiles) (calls : List KeeperCall) (xs : List Moment) → AllSame s files xs → AllSame s files (map (later calls) xs)
same_later s files calls [] f = tt
same_later s files calls (x ∷ xs) f = (f.0, f.1, same_later s files calls xs f.2)

answers_then : (e : LabelledMoreEnd) (prog : Prog m.End) (failing : List ℕ) (at : Whole) → Carries [] (plain_more_end e) at (prog failing at)
    → Answers e at ((prog >>= paid_for) failing at)
unfolding ◌>>=◌ then_by act
answers_then e prog failing at c = by (prog failing at).end c.ends
  where
    o : Out m.End
    o = prog failing at

    whole_of : Result m.End Stop → Out (Result MoreAnswer SqlRefusal)
    whole_of r =
        let o' = on_value paid_for r failing o.whole in
        record {
          end = o'.end;
          whole = o'.whole;
          calls = o.calls ++ o'.calls;
          moments = moment [] at ∷ (o.moments ++ moment o.calls o.whole ∷ map (later o.calls) o'.moments);
        }

    stays : lift_tables o.whole.store.tables ≡ lift_tables at.store.tables → o.whole.store.tables ≡ at.store.tables
    stays h = same_tables at.store.tables o.whole.store.tables h

    so_far : AllSame at.store.tables at.store.files o.moments
    so_far = all_same at.store.tables at.store.files o.moments c.moments

    one : (h : o.whole.store.tables ≡ at.store.tables) → AllSame at.store.tables at.store.files (moment o.calls o.whole ∷ map (later o.calls) (moment [] o.whole ∷ []))
    one h = (h, c.files, (h, c.files, tt))

    two : (h : o.whole.store.tables ≡ at.store.tables) → AllSame at.store.tables at.store.files (moment o.calls o.whole ∷ map (later o.calls) (moment [] o.whole ∷ moment [] o.whole ∷ []))
    two h = (h, c.files, (h, c.files, (h, c.files, tt)))

    with_one : (h : o.whole.store.tables ≡ at.store.tables) → AllSame at.store.tables at.store.files (moment [] at ∷ (o.moments ++ moment o.calls o.whole ∷ map (later o.calls) (moment [] o.whole ∷ [])))
    with_one h = (refl, refl, same_append at.store.tables at.store.files o.moments _ so_far (one h))

    by : (r : Result m.End Stop) → EndsBy [] (plain_more_end e) (lift_tables at.store.tables) r (lift_tables o.whole.store.tables) → Answers e at (whole_of r)
    by (Ok (m.Answers answer)) h = record { ends = h.0; tables = stays h.1; files = c.files; moments = with_one (stays h.1) }
    by (Ok (m.Refuses x)) h = record { ends = h.0; tables = stays h.1; files = c.files; moments = with_one (stays h.1) }
    by (Ok m.Costs) h = record {
      ends = tt;
      tables = stays h.1;
      files = c.files;
      moments = (refl, refl, same_append at.store.tables at.store.files o.moments _ so_far (two (stays h.1)));
    }
    by (Err x) h =
        let same = stays (no_front (lift_tables at.store.tables) (lift_tables o.whole.store.tables) h) in
        record { ends = tt; tables = same; files = c.files; moments = with_one same }

with_ticks : (e : LabelledMoreEnd) (p : ℕ → m.Plan) (failing : List ℕ) (at : Whole) → Answers e at ((carried_out (p at.state.ticks) >>= paid_for) failing at)
    → Answers e at (carried_with_ticks p failing at)
unfolding ◌>>=◌ then_by act
with_ticks e p failing at a = record {
  ends = a.ends;
  tables = a.tables;
  files = a.files;
  moments = (
    refl,
    refl,
    (
      refl,
      refl,
      (
        refl,
        refl,
        (
          refl,
          refl,
          same_later at.store.tables at.store.files [] ((carried_out (p at.state.ticks) >>= paid_for) failing at).moments a.moments,
        ),
      ),
    ),
  );
}

pub join_programs_answer : JoinProgramsAnswer
join_programs_answer s vs failing at whole =
    let e = join_effect s vs at.state.ticks (lift_tables at.store.tables) in
    with_ticks e (join_plan s (plain_values vs)) failing at
    (answers_then e (carried_out (join_plan s (plain_values vs) at.state.ticks)) failing at
    (carried (join_plan s (plain_values vs) at.state.ticks) [] (plain_more_end e) failing at whole (join_with s vs at.state.ticks at.store.tables whole)))

pub total_programs_answer : TotalProgramsAnswer
total_programs_answer s vs failing at whole =
    let e = total_effect s vs at.state.ticks (lift_tables at.store.tables) in
    with_ticks e (total_plan s (plain_values vs)) failing at
    (answers_then e (carried_out (total_plan s (plain_values vs) at.state.ticks)) failing at
    (carried (total_plan s (plain_values vs) at.state.ticks) [] (plain_more_end e) failing at whole (total_with s vs at.state.ticks at.store.tables whole)))

-- ---- a run that does as one of these

same_reached : (s : TableStore) (files : LabelledFiles) (x : Moment) (moments : List Moment) → AllSame s files moments → Reached x moments
    → (x.store.tables ≡ s) × (x.store.files ≡ files)
same_reached s files x [] f h = elim h [ ]
same_reached s files x (y ∷ moments) f (inl e) =
    subst (λ (z : Moment). (z.store.tables ≡ s) × (z.store.files ≡ files)) (sym e) (f.0, f.1)
same_reached s files x (y ∷ moments) f (inr h) = same_reached s files x moments f.2 h

-- where a run begins whose keepers tell this
abbrev begin : World → LabelledFiles → TableStore → Whole
begin w files s = record { state = w.state; store = record { files = files; tables = s }; made = w.calls.made }

some_tables : (s t : TableStore) → t ≡ s → Some t ≡ Some s
some_tables s t e = ap (λ (x : TableStore). let y : Option TableStore = Some x in y) e

some_files : (f g : LabelledFiles) → g ≡ f → Some g ≡ Some f
some_files f g e = ap (λ (x : LabelledFiles). let y : Option LabelledFiles = Some x in y) e

left_same : (prog : Prog (Result MoreAnswer SqlRefusal)) (e : LabelledMoreEnd) (files : LabelledFiles) (s : TableStore) (w w' : World) (r : Result (Result MoreAnswer SqlRefusal) Stop)
    → Does prog w r w' → AreNumbered w.calls → w.files.stored ≡ Some files → w.tables.stored ≡ Some s
    → ((failing : List ℕ) → Answers e (begin w files s) (prog failing (begin w files s)))
    → (w'.tables.stored ≡ Some s) × (w'.files.stored ≡ Some files) × Comes e r
left_same prog e files s w w' r d numbered told_files told c = by r refl
  where
    o : Out (Result MoreAnswer SqlRefusal)
    o = prog w'.calls.failed (begin w files s)

    here : Answers e (begin w files s) (prog w'.calls.failed (begin w files s))
    here = c w'.calls.failed

    meets : Meets (prog w'.calls.failed (begin w files s)) r w' (done d).goes.calls
    meets = (done d).means numbered (begin w files s) (record { state = refl; files = sym told_files; tables = sym told; made = refl }) w'.calls.failed (λ k le. refl)

    settled : (r ≢ Err stop.Memory) → (w'.tables.stored ≡ Some s) × (w'.files.stored ≡ Some files) × Comes e r
    settled not =
        let same = meets.same not in (
          sym same.1.tables ∙ some_tables s o.whole.store.tables here.tables,
          sym same.1.files ∙ some_files files o.whole.store.files here.files,
          subst (Comes e) same.0 here.ends,
        )

    wanting : r ≡ Err stop.Memory → (w'.tables.stored ≡ Some s) × (w'.files.stored ≡ Some files) × Comes e r
    wanting is =
        let among = meets.front is in
        let f = same_reached s files among.at o.moments here.moments among.reached in
        (sym among.tables ∙ some_tables s among.at.store.tables f.0, sym among.files ∙ some_files files among.at.store.files f.1, subst (Comes e) (sym is) tt)

    other : wants_memory r ≡ false → (w'.tables.stored ≡ Some s) × (w'.files.stored ≡ Some files) × Comes e r
    other f = settled (λ x. false≢true (sym f ∙ ap wants_memory x))

    by : (x : Result (Result MoreAnswer SqlRefusal) Stop) → r ≡ x → (w'.tables.stored ≡ Some s) × (w'.files.stored ≡ Some files) × Comes e r
    by (Ok x) is = other (ap wants_memory is)
    by (Err (stop.Thrown x)) is = other (ap wants_memory is)
    by (Err stop.Exit) is = other (ap wants_memory is)
    by (Err (stop.Fault x line)) is = other (ap wants_memory is)
    by (Err stop.Keeper) is = other (ap wants_memory is)
    by (Err stop.Memory) is = wanting is

pub join_worlds_answer : JoinWorldsAnswer
join_worlds_answer s vs w w' r files tables d numbered told_files told whole =
    left_same (carried_with_ticks (join_plan s (plain_values vs))) (join_effect s vs w.state.ticks (lift_tables tables)) files tables w w' r d numbered told_files told
    (λ failing. join_programs_answer s vs failing (begin w files tables) whole)

pub total_worlds_answer : TotalWorldsAnswer
total_worlds_answer s vs w w' r files tables d numbered told_files told whole =
    left_same (carried_with_ticks (total_plan s (plain_values vs))) (total_effect s vs w.state.ticks (lift_tables tables)) files tables w w' r d numbered told_files told
    (λ failing. total_programs_answer s vs failing (begin w files tables) whole)
