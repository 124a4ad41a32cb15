-- Runs along plans go along effects.
use Rattle.std.proofs.Common.{◌≡◌, ℕ, Bool, true, false, cond, List, [], ◌∷◌, ◌++◌, length, take, Option, Some, None, Result, Ok, Err, refl, sym, ap, subst, ◌∙◌}
use Rattle.std.proofs.Math.Seq.{take-append_seam}
use Rattle.std.proofs.lemmas.List.{append_assoc}
use Rattle.std.specs.FinMap.{insert, contains_key}
use Rattle.resin_base.specs.Contents.{Told}
use Rattle.resin_base.specs.TableStore.{TableStore, table_of, EachWhole, after_create}
use Rattle.resin_base.specs.declared.cell.Column.{Column}
use Rattle.resin_base.specs.declared.faults.KeepFault.{KeepFault}
use Rattle.resin_base.specs.declared.faults.KeepFault.TheVariants as fault
use Rattle.resin_meaning_forms.specs.Under.meaning_tables.Under.sql.declared.fault.SqlStop.{SqlStop}
use Rattle.resin_meaning_forms.specs.Under.meaning_tables.Under.plan.Plans.{Steps, Done, Ask, Plan, Leads, here, behind, Ends, answered, refused, failed, spent, wanting, wanting_in_call}
use Rattle.resin_meaning_forms.specs.Under.meaning_tables.Under.plan.TableCalls.{TableCall, MakeTable, AskColumns, AskRows, AddRow, SetRow, TakeRow, Answer, Changes, Keeping, IsCalled}
use Rattle.resin_meaning_forms.specs.Under.meaning_tables.Under.plan.declared.answer.SqlAnswer.{SqlAnswer}
use Rattle.resin_frame.specs.LabelledTables.{LabelledTables, lift_tables}
use Rattle.resin_statement_laws.specs.Effects.{Step, all_stepped, Effect, LabelledEnd, plain_end, effect}
use Rattle.resin_statement_laws.specs.Runs.{answer_of, left_by, IsFront, EndsWith}
use Rattle.resin_statement_laws.specs.Laws.{RunsAreEffects}
use Rattle.resin_statement_laws.proofs.Following.{Follows, stepped_then}
use Rattle.resin_statement_laws.proofs.Statements.{with_effect}
use Rattle.resin_statement_laws.proofs.Stores.{whole_insert, whole_after_insert, whole_after_update, whole_after_delete}

-- ---- one call

whole_after_create : (s : TableStore) (name : List ℕ) (columns : List Column) → EachWhole s → EachWhole (after_create s name columns)
whole_after_create s name columns whole = by (contains_key s name)
  where
    by : (b : Bool) → EachWhole (cond b s (insert s name (table_of columns [])))
    by true = whole
    by false = whole_insert s name (table_of columns []) whole refl

pub whole_left : (call : TableCall) (s : TableStore) → EachWhole s → EachWhole (left_by call s)
whole_left (MakeTable name columns) s whole = whole_after_create s name columns whole
whole_left (AskColumns name) s whole = whole
whole_left (AskRows name) s whole = whole
whole_left (AddRow name cells) s whole = whole_after_insert s name cells whole
whole_left (SetRow name number cells) s whole = whole_after_update s name number cells whole
whole_left (TakeRow name number) s whole = whole_after_delete s name number whole

-- a call that is answered
changes_made : (call : TableCall) (s t : TableStore) (answer : Answer call) → Changes call s (Ok answer) t → (answer ≡ answer_of call s) × (t ≡ left_by call s)
changes_made (MakeTable name columns) s t answer c = c
changes_made (AskColumns name) s t answer c = (c.1, c.0)
changes_made (AskRows name) s t answer c = (c.1, c.0)
changes_made (AddRow name cells) s t answer c = c
changes_made (SetRow name number cells) s t answer c = c
changes_made (TakeRow name number) s t answer c = c

-- and one that isn't
changes_none : (call : TableCall) (s t : TableStore) (f : KeepFault) → Changes call s (Err f) t → t ≡ s
changes_none (MakeTable name columns) s t f c = c
changes_none (AskColumns name) s t f c = c.0
changes_none (AskRows name) s t f c = c.0
changes_none (AddRow name cells) s t f c = c
changes_none (SetRow name number cells) s t f c = c
changes_none (TakeRow name number) s t f c = c

record ToldNow (P : TableStore → TableStore → Type 0) (s : TableStore) (y : Option TableStore) : Type 0 where
  t : TableStore
  is : y ≡ Some t
  fact : P s t

told_now : (x y : Option TableStore) (P : TableStore → TableStore → Type 0) (s : TableStore) → x ≡ Some s → Told x y P → ToldNow P s y
told_now None y P s e h = absurd (let n : None ≡ Some s = e in cc)
told_now (Some r) None P s e h = absurd h
told_now (Some r) (Some t) P s e h = let f : r ≡ s = cc in record { t = t; is = refl; fact = subst (λ (x : TableStore). P x t) f h }

-- ---- the calls so far

pub record Reached {A : Type 0} (q : Steps A) (w : Keeping) (s : TableStore) (steps : List Step) (r : A) : Type 0 where
  pub t : TableStore
  pub told : w.stored ≡ Some t
  pub whole : EachWhole t
  pub taken : List Step
  pub left : List Step
  pub split : steps ≡ taken ++ left
  pub lifted : lift_tables t ≡ all_stepped (lift_tables s) taken
  pub follows : Follows q t left r

one_call : {A : Type 0} (call : TableCall) (next : Answer call → Steps A) (answer : Answer call) (v w : Keeping) (s : TableStore) (steps : List Step) (r : A)
    → Reached (Ask call next) v s steps r → IsCalled call v (Ok answer) w → Reached (next answer) w s steps r
one_call call next answer v w s steps r h c =
    let now = told_now v.stored w.stored (λ a b. Changes call a (Ok answer) b) h.t h.told c.contents in
    let made = changes_made call h.t now.t answer now.fact in
    let f = h.follows in
    record {
      t = now.t;
      told = now.is;
      whole = subst EachWhole (sym made.1) (whole_left call h.t h.whole);
      taken = h.taken ++ f.0;
      left = f.1;
      split = h.split ∙ ap (λ es. h.taken ++ es) f.2 ∙ sym (append_assoc h.taken f.0 f.1);
      lifted = ap lift_tables made.1 ∙ f.3 ∙ ap (λ x. all_stepped x f.0) h.lifted ∙ sym (stepped_then (lift_tables s) h.taken f.0);
      follows =
          subst (λ a. Follows (next a) now.t f.1 r) (sym made.0) (subst (λ x. Follows (next (answer_of call h.t)) x f.1 r) (sym made.1) f.4);
    }

pub reached : {A : Type 0} {p : Steps A} {u : Keeping} {q : Steps A} {w : Keeping} (s : TableStore) (steps : List Step) (r : A) → u.stored ≡ Some s → EachWhole s
    → Follows p s steps r → Leads p u q w → Reached q w s steps r
reached s steps r told whole f here = record {
  t = s;
  told = told;
  whole = whole;
  taken = [];
  left = steps;
  split = refl;
  lifted = refl;
  follows = f;
}
reached s steps r told whole f (behind {call = call} {next = next} {answer = answer} {v = v} {w = w} l c) =
    one_call call next answer v w s steps r (reached s steps r told whole f l) c

front_of : (s : LabelledTables) (steps taken left : List Step) (now : LabelledTables) → steps ≡ taken ++ left → now ≡ all_stepped s taken → IsFront s steps now
front_of s steps taken left now split e = (length taken, e ∙ ap (all_stepped s) (sym (ap (take (length taken)) split ∙ take-append_seam taken left)))

-- where all calls were made
pub all_made : {A : Type 0} {end : A} {w : Keeping} {s : TableStore} {steps : List Step} {r : A} (h : Reached (Done end) w s steps r)
    → (end ≡ r) × (lift_tables h.t ≡ all_stepped (lift_tables s) steps)
all_made {s = s} h =
    (h.follows.1, h.lifted ∙ ap (all_stepped (lift_tables s)) (sym (append_nil h.taken) ∙ ap (λ es. h.taken ++ es) (sym h.follows.0) ∙ sym h.split))
  where
    append_nil : (es : List Step) → es ++ [] ≡ es
    append_nil [] = refl
    append_nil (e ∷ es) = ap (λ xs. e ∷ xs) (append_nil es)

-- where a call wasn't
pub one_failed : {A : Type 0} (call : TableCall) (next : Answer call → Steps A) (f : KeepFault) (v w : Keeping) (s : TableStore) (steps : List Step) (r : A)
    → Reached (Ask call next) v s steps r → IsCalled call v (Err f) w → (t : TableStore) × (w.stored ≡ Some t) × EachWhole t × IsFront (lift_tables s) steps (lift_tables t)
one_failed call next f v w s steps r h c =
    let now = told_now v.stored w.stored (λ a b. Changes call a (Err f) b) h.t h.told c.contents in
    let same : now.t ≡ h.t = changes_none call h.t now.t f now.fact in
    (now.t, now.is, subst EachWhole (sym same) h.whole, front_of (lift_tables s) steps h.taken h.left (lift_tables now.t) h.split (ap lift_tables same ∙ h.lifted))

pub so_far : {A : Type 0} {q : Steps A} {w : Keeping} {s : TableStore} {steps : List Step} {r : A} → Reached q w s steps r
    → (t : TableStore) × (w.stored ≡ Some t) × EachWhole t × IsFront (lift_tables s) steps (lift_tables t)
so_far {s = s} {steps = steps} h = (h.t, h.told, h.whole, front_of (lift_tables s) steps h.taken h.left (lift_tables h.t) h.split h.lifted)

-- ---- a run

ends_with : {p : Plan} {u w : Keeping} {r : Result SqlAnswer SqlStop} (s : TableStore) (e : Effect LabelledEnd) → u.stored ≡ Some s → EachWhole s
    → Follows p s e.steps (plain_end e.end) → Ends p u r w → (t : TableStore) × (w.stored ≡ Some t) × EachWhole t × EndsWith e (lift_tables s) r (lift_tables t)
ends_with s e told whole f (answered l) =
    let h = reached s e.steps (plain_end e.end) told whole f l in (h.t, h.told, h.whole, all_made h)
ends_with s e told whole f (refused l) =
    let h = reached s e.steps (plain_end e.end) told whole f l in (h.t, h.told, h.whole, all_made h)
ends_with s e told whole f (failed {call = call} {next = next} {v = v} {w = w} l c) =
    one_failed call next fault.Failed v w s e.steps (plain_end e.end) (reached s e.steps (plain_end e.end) told whole f l) c
ends_with s e told whole f (spent l le) = so_far (reached s e.steps (plain_end e.end) told whole f l)
ends_with s e told whole f (wanting l) = so_far (reached s e.steps (plain_end e.end) told whole f l)
ends_with s e told whole f (wanting_in_call {call = call} {next = next} {v = v} {w = w} l c) =
    one_failed call next fault.Memory v w s e.steps (plain_end e.end) (reached s e.steps (plain_end e.end) told whole f l) c

pub runs_are_effects : RunsAreEffects
runs_are_effects q vs u w r s told whole readable ends =
    ends_with s (effect q vs (lift_tables s)) told whole (with_effect q vs s whole readable) ends
