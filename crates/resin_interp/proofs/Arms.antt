-- Ends of arms that the composition of programs leaves over: what is read off the state, faults, values, and tests.
use Rattle.std.proofs.Common.{◌≡◌, ℕ, ◌+◌, ◌≤◌, ◌<◌, List, Bool, true, false, cond, Result, Ok, Err, inl, refl, arith, IsErrAnd}
use Rattle.std.specs.Prelude.{OnOk}
use Rattle.std.proofs.lemmas.Result.{err_from_is_err_and}
use Rattle.resin_eval_calls.specs.Under.store.Files.{LabelledFiles}
use Rattle.resin_eval_calls.specs.Under.base.TableStore.{TableStore}
use Rattle.resin_eval_calls.specs.Under.base.declared.calls.Calls.{Calls}
use Rattle.resin_eval_calls.specs.Under.scalar.declared.faults.CallStop.{CallStop}
use Rattle.resin_eval_calls.specs.Under.scalar.declared.faults.ScriptFault.{ScriptFault}
use Rattle.resin_eval_calls.specs.Under.scalar.declared.faults.ScriptFault.TheVariants.{DepthSpent}
use Rattle.resin_eval_calls.specs.Under.machine.declared.stop.Stop.{Stop}
use Rattle.resin_eval_calls.specs.Under.machine.declared.stop.Stop.TheVariants.{Thrown, Exit, Fault, Keeper, Memory}
use Rattle.resin_eval_calls.specs.Under.machine.State.{State}
use Rattle.resin_eval_calls.specs.Under.machine.Steps.{Act, Acts, ActsLoosely, faults, charge}
use Rattle.resin_eval_calls.specs.Under.machine.Objects.{settled}
use Rattle.resin_eval_calls.proofs.target_lemmas.machine_kept.{keeps_same}
use Rattle.resin_eval_calls.specs.Under.meaning.Programs.{Prog, give, stop, ended, act, ◌>>=◌}
use Rattle.resin_eval_calls.specs.Under.meaning.Runs.{Seen, World, world, Does, Blames}
use Rattle.resin_eval_calls.proofs.meaning_lemmas.Composition.{does_act, does_loosely, does_give, does_ended, does_nothing, none_here}
use Rattle.resin_eval_calls.specs.Under.target.Reads.{GivesOrNoMemory}
use Rattle.resin_eval_calls.proofs.target_lemmas.Ends.{answered_step}
use Rattle.resin_eval_calls.specs.Under.meaning_forms.Parts.{looked, faulted, computed}
use Rattle.resin_eval_calls.specs.Under.journal.declared.channel.Channel.{Channel}
use Rattle.resin_eval_calls.specs.Under.journal.declared.channel.Channel.TheVariants.{Http, Header, Email, File, Sql, Code, Input, Func}
use Rattle.resin_interp.specs.Pages.{note_read}

-- want of memory in place of what is read
pub does_unlooked : {A : Type 0} (read : State → A) {u : World} (r : Result A Stop) → IsErrAnd r (λ e. e ≡ Memory) → Does (looked read) u r u
does_unlooked read r h = let e = err_from_is_err_and r h in rw (e.1, e.2) (does_nothing (looked read) (λ failing at. unfold act in inl refl))

-- what was charged is spent, whatever comes after it
pub spent_after : {A E : Type 0} (r : Result A E) (before between after : ℕ) → between + 1 ≡ before → after ≤ between → OnOk r (after < before)
spent_after (Ok v) before between after h k = omega (arith, h, k)
spent_after (Err e) before between after h k = tt

-- only the path of a source text counts as imported
pub noted_elsewhere : (c : Channel) (path : List ℕ) {w : World} → (c ≡ Code → ⊥) → Does (note_read c path) w (Ok tt) w
noted_elsewhere Http path ne = does_give tt _
noted_elsewhere Header path ne = does_give tt _
noted_elsewhere Email path ne = does_give tt _
noted_elsewhere File path ne = does_give tt _
noted_elsewhere Sql path ne = does_give tt _
noted_elsewhere Code path ne = absurd (ne refl)
noted_elsewhere Input path ne = does_give tt _
noted_elsewhere Func path ne = does_give tt _
