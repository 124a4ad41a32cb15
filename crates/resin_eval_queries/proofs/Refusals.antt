-- Refusals, and what a text is read as.
use Rattle.std.proofs.Common.{◌≡◌, ℕ, ◌+◌, Bool, true, false, cond, List, length, nat_lt, Result, Ok, Err, ◌⊎◌, inl, inr, IsErrAnd, refl, sym, ◌∙◌}
use Rattle.std.proofs.lemmas.Result.{err_from_is_err_and}
use Rattle.resin_eval_writes.specs.Under.heap.declared.prelude.PreludeClass.TheVariants.{SqlException}
use Rattle.resin_eval_writes.specs.Under.lstr.Texts.{Text as LabelledText}
use Rattle.resin_eval_writes.specs.Under.machine.Objects.{throw_new, last_number}
use Rattle.resin_eval_writes.specs.Under.machine.State.{State}
use Rattle.resin_eval_writes.specs.Under.machine.Steps.{ActsLoosely}
use Rattle.resin_eval_writes.specs.Under.machine.declared.stop.Stop.{Stop}
use Rattle.resin_eval_writes.specs.Under.machine.declared.stop.Stop.TheVariants.{Memory}
use Rattle.resin_eval_writes.specs.Under.meaning.Runs.{World, Does}
use Rattle.resin_eval_writes.specs.Under.meaning_forms.Parts.{Evals}
use Rattle.resin_eval_writes.specs.Under.meaning_forms.Queries.{refused, run_read}
use Rattle.resin_eval_writes.specs.Under.meaning_forms.Runs.{Runs, on_ok}
use Rattle.resin_eval_writes.specs.Under.meaning_tables.Under.joint.declared.tree.MoreStmt.{MoreStmt}
use Rattle.resin_eval_writes.specs.Under.meaning_tables.Under.sql.declared.fault.SqlFault.{SqlFault}
use Rattle.resin_eval_writes.specs.Under.meaning_tables.Under.sql.declared.fault.SqlFault.TheVariants as fault
use Rattle.resin_eval_writes.specs.Under.value.Trees.{Tree}
use Rattle.resin_eval_writes.proofs.meaning_lemmas.Composition.{does_ended, does_loosely, does_unbegun, none_here}
use Rattle.resin_eval_writes.proofs.step_parts_lemmas.Steps.{does_lost_act, on_end, seen_step}

stop_seen : {A B : Type 0} (f : A → B) (b : Bool) (s z : Stop) (m n : State) → ◌≡◌ {A = Result B Stop × State} (cond b (Err s, m) (Err z, n)) (on_end f (cond b (Err s, m) (Err z, n)))
stop_seen f true s z m n = refl
stop_seen f false s z m n = refl

-- an exception with a message, whatever is not given
pub refused_seen : {A B : Type 0} (f : A → B) (words : List ℕ) (m : State) (r : Result A Stop) (m' : State) → ActsLoosely (throw_new {A = A} SqlException words) m r m' → Runs (refused {A = B} words) m (on_ok f r) m'
refused_seen {A = A} {B = B} f words m r m' h u t k =
    does_loosely (throw_new {A = B} SqlException words) u t k
    (seen_step f (throw_new {A = A} SqlException words) (throw_new {A = B} SqlException words) m r m' (stop_seen f (nat_lt (length m.heap) last_number) _ _ _ _) h)

-- what was read is what the text is read as, unless memory ran out
pub read_ok : (x y : Result MoreStmt SqlFault) (q : MoreStmt) → (x ≡ y) ⊎ (x ≡ Err fault.Memory) → x ≡ Ok q → y ≡ Ok q
read_ok x y q (inl e) is = sym e ∙ is
read_ok x y q (inr e) is = absurd (cc)

pub read_bad : (x y : Result MoreStmt SqlFault) (at : ℕ) → (x ≡ y) ⊎ (x ≡ Err fault.Memory) → x ≡ Err (fault.Bad at) → y ≡ Err (fault.Bad at)
read_bad x y at (inl e) is = sym e ∙ is
read_bad x y at (inr e) is = absurd (cc)

lost : (ev : Evals) (t : LabelledText) (y : Result MoreStmt SqlFault) {w : World} → Does (run_read ev t y) w (Err Memory) w
lost ev t (Ok s) = does_unbegun _ _
lost ev t (Err (fault.Bad place)) = does_lost_act _ (Err Memory) refl
lost ev t (Err fault.Memory) {w = w} = does_ended (Err Memory) w (none_here w)

-- want of memory before a statement is run
pub read_lost : {C : Type 0} (ev : Evals) (t : LabelledText) (y : Result MoreStmt SqlFault) (g : C → Tree) {w : World} (r : Result C Stop) → IsErrAnd r (λ e. e ≡ Memory) → Does (run_read ev t y) w (on_ok g r) w
read_lost ev t y g r h = let e = err_from_is_err_and r h in rw (e.1, e.2) (lost ev t y)
