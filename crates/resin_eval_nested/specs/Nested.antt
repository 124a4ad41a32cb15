-- What an evaluation does through its function value: what nests in it.
use Rattle.std.specs.Prelude.{ℕ, ◌<◌, ◌≤◌, length, Result, Ok, Err}
use Rattle.std.specs.declared.alloc.Global.{Global}
use denote.Ref.{MutBor}
use Rattle.resin_step_objects.specs.Under.base.declared.files.Files as Files
use Rattle.resin_step_objects.specs.Under.base.declared.tables.Tables as Tables
use Rattle.resin_step_objects.specs.Under.lstr.declared.limits.TheConstants.{LONGEST}
use Rattle.resin_step_objects.specs.Under.machine.declared.stop.Stop.{Stop}
use Rattle.resin_step_objects.specs.Under.meaning.Runs.{World, Does}
use Rattle.resin_step_objects.specs.Under.meaning_forms.Parts.{Evals}
use Rattle.resin_step_objects.specs.Under.meaning_forms.Programs.{evals}
use Rattle.resin_step_objects.specs.Under.meaning_forms.Sources.{source}
use Rattle.resin_eval_nested.specs.Running.{at}
use Rattle.resin_eval_nested.specs.declared.nested.Evaluator.{Evaluator}
use Rattle.resin_eval_nested.specs.declared.nested.Nested.{Nested}
use Rattle.resin_eval_nested.specs.declared.nested.Nested.TheVariants.{Value, Asked, Statement, Source}
use Rattle.resin_eval_nested.specs.declared.nested.Outcome.{Outcome}
use Rattle.resin_eval_nested.specs.declared.nested.Outcome.TheVariants as outcome
use Rattle.resin_eval_nested.specs.declared.run.Run.{Run}

-- what nests in an evaluation, where so many more may be open, goes from one world to another and ends so: an expression ends with a value, a
-- statement with a course, and what isn't stopped has spent a tick. A source text that is no longer than a text may be ends with a course too
abbrev pub Ends : ℕ → Nested → World → Result Outcome Stop → World → Type 0
Ends room (Value e) u (Ok (outcome.Value v)) w = Does ((evals room).expr e.now) u (Ok v) w × (w.state.ticks < u.state.ticks)
Ends room (Value e) u (Ok (outcome.Course c)) w = ⊥
Ends room (Value e) u (Err stop) w = Does ((evals room).expr e.now) u (Err stop) w
Ends room (Asked e) u (Ok (outcome.Value v)) w = Does ((evals room).soft e.now) u (Ok v) w
Ends room (Asked e) u (Ok (outcome.Course c)) w = ⊥
Ends room (Asked e) u (Err stop) w = Does ((evals room).soft e.now) u (Err stop) w
Ends room (Statement s) u (Ok (outcome.Value v)) w = ⊥
Ends room (Statement s) u (Ok (outcome.Course c)) w = Does ((evals room).stmt s.now) u (Ok c) w × (w.state.ticks < u.state.ticks)
Ends room (Statement s) u (Err stop) w = Does ((evals room).stmt s.now) u (Err stop) w
Ends room (Source src) u (Ok (outcome.Value v)) w = length src.now ≤ LONGEST → ⊥
Ends room (Source src) u (Ok (outcome.Course c)) w = length src.now ≤ LONGEST → Does (source (evals room) src.now) u (Ok c) w
Ends room (Source src) u (Err stop) w = length src.now ≤ LONGEST → Does (source (evals room) src.now) u (Err stop) w

-- a function value, by what its calls require and ensure, that does what nests in an evaluation where so many more may be open
pub record NestsIn {F T : Type 0} (files : Files.Ghosts F) (tables : Tables.Ghosts T) (room : ℕ)
    (pre : Global → ℕ → Nested → MutBor (Run F T) → Type 0)
    (post : Global → ℕ → Nested → MutBor (Run F T) → Result Outcome Stop → MutBor (Run F T) → Type 0)
    : Type 0 where
  pub callable : (g : Global) (n : Nested) (r : MutBor (Run F T)) → pre g room n r
  pub ends : (g : Global) (n : Nested) (r r' : MutBor (Run F T)) (end : Result Outcome Stop) → post g room n r end r'
      → Ends room n (at files tables r.now) end (at files tables r'.now)

-- the same of the function value of an evaluator
abbrev pub Nests : {F T N : Type 0} → Files.Ghosts F → Tables.Ghosts T
    → (N → Global → ℕ → Nested → MutBor (Run F T) → Type 0)
    → (N → Global → ℕ → Nested → MutBor (Run F T) → Result Outcome Stop → MutBor (Run F T) → Type 0)
    → Evaluator F T N → Type 0
Nests files tables pre post ev = NestsIn files tables ev.room (pre ev.nested) (post ev.nested)

-- what an evaluator evaluates what nests to
abbrev pub means : {F T N : Type 0} → Evaluator F T N → Evals
means ev = evals ev.room
