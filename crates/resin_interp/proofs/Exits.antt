-- Exits of functions whose end is seen otherwise, and want of memory before a program begins.
use Rattle.std.proofs.Common.{◌≡◌, ℕ, ◌<◌, ◌≤◌, List, [], ◌∷◌, length, Bool, true, false, Option, Result, Ok, Err, inl, refl, sym, ap, subst, arith, IsErrAnd}
use Rattle.std.specs.Prelude.{◌==◌}
use Rattle.std.proofs.lemmas.Bool.Decides.{nat_tests}
use Rattle.std.proofs.lemmas.Result.{err_from_is_err_and}
use Rattle.resin_eval_calls.specs.Under.store.Files.{LabelledFiles}
use Rattle.resin_eval_calls.specs.Under.base.TableStore.{TableStore}
use Rattle.resin_eval_calls.specs.Under.base.declared.calls.Calls.{Calls}
use Rattle.resin_eval_calls.specs.Under.label.Sets.{NumberSet, empty as no_labels}
use Rattle.resin_eval_calls.specs.Under.lstr.Texts.{Text as LabelledText}
use Rattle.resin_eval_calls.specs.Under.journal.declared.channel.Channel.{Channel}
use Rattle.resin_eval_calls.specs.Under.value.Trees.{Tree}
use Rattle.resin_eval_calls.specs.Under.machine.declared.stop.Stop.{Stop}
use Rattle.resin_eval_calls.specs.Under.machine.declared.stop.Stop.TheVariants.{Thrown, Exit, Fault, Keeper, Memory}
use Rattle.resin_eval_calls.specs.Under.machine.State.{State}
use Rattle.resin_eval_calls.specs.Under.meaning.Programs.{Prog, give, ended, then_by, framed, ◌>>=◌}
use Rattle.resin_eval_calls.specs.Under.meaning.Runs.{Seen, World, world, Does, done}
use Rattle.resin_eval_calls.specs.Under.meaning.LeavingWrites.{ask_policies, ask_filters}
use Rattle.resin_eval_calls.proofs.meaning_lemmas.Composition.{does_stop, does_stopped, does_then, does_lost, does_unbegun, does_nothing, does_ended, none_here}
use Rattle.resin_eval_calls.proofs.meaning_lemmas.Enclosures.{does_unframed}
use Rattle.resin_eval_calls.specs.Under.meaning_forms.Runs.{on_ok}
use Rattle.resin_eval_calls.specs.Under.meaning_forms.Parts.{Evals}
use Rattle.resin_eval_calls.specs.Under.meaning_forms.Merges.{fold_on, fold_sets}
use Rattle.resin_eval_calls.specs.Under.meaning_forms.Functions.{format_arguments}
use Rattle.resin_eval_calls.specs.Under.scalar.declared.faults.ScriptFault.TheVariants.{UndefinedFunction}
use Rattle.resin_eval_calls.specs.Under.meaning_forms.Programs.{flow_of, program_end}
use Rattle.resin_eval_calls.specs.Under.meaning_forms.declared.course.Course.{Course}
use Rattle.resin_eval_calls.specs.Under.meaning_forms.declared.course.Flow.{Flow}
use Rattle.resin_eval_calls.specs.Under.meaning_forms.declared.course.Flow.TheVariants.{Exit as Exited}

-- ---- how a program ends

pub does_program : (p : Prog Course) {u v : World} (r : Result Course Stop) {q : Result Flow Stop} → q ≡ program_end r → Does p u r v → Does (then_by p (λ x. ended (program_end x))) u q v
does_program p {u = u} {v = v} r e d = rw e (by r d)
  where
    by : (r : Result Course Stop) → Does p u r v → Does (then_by p (λ x. ended (program_end x))) u (program_end r) v
    by (Ok course) d = does_then p _ (λ k. cc) (done d).blames d (does_ended (Ok (flow_of course)) v (none_here v))
    by (Err (Thrown o)) d = does_then p _ (λ k. cc) (done d).blames d (does_ended (Err (Thrown o)) v (none_here v))
    by (Err Exit) d = does_then p _ (λ k. cc) (done d).blames d (does_ended (Ok Exited) v (none_here v))
    by (Err (Fault f line)) d = does_then p _ (λ k. cc) (done d).blames d (does_ended (Err (Fault f line)) v (none_here v))
    by (Err Keeper) d = does_stopped p _ refl d
    by (Err Memory) d = does_stopped p _ refl d
