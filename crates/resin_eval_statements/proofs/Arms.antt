-- Ends of arms that the composition of programs leaves over: what is read off the state, faults, values, and tests.
use Rattle.std.proofs.Common.{◌≡◌, ℕ, ◌+◌, ◌≤◌, ◌<◌, Bool, true, false, cond, Result, Ok, Err, inl, refl, arith, IsErrAnd}
use Rattle.std.specs.Prelude.{OnOk}
use Rattle.std.proofs.lemmas.Result.{err_from_is_err_and}
use Rattle.resin_eval_writes.specs.Under.store.Files.{LabelledFiles}
use Rattle.resin_eval_writes.specs.Under.base.TableStore.{TableStore}
use Rattle.resin_eval_writes.specs.Under.base.declared.calls.Calls.{Calls}
use Rattle.resin_eval_writes.specs.Under.scalar.declared.faults.CallStop.{CallStop}
use Rattle.resin_eval_writes.specs.Under.scalar.declared.faults.ScriptFault.{ScriptFault}
use Rattle.resin_eval_writes.specs.Under.scalar.declared.faults.ScriptFault.TheVariants.{DepthSpent}
use Rattle.resin_eval_writes.specs.Under.machine.declared.stop.Stop.{Stop}
use Rattle.resin_eval_writes.specs.Under.machine.declared.stop.Stop.TheVariants.{Thrown, Exit, Fault, Keeper, Memory}
use Rattle.resin_eval_writes.specs.Under.machine.State.{State}
use Rattle.resin_eval_writes.specs.Under.machine.Steps.{Act, Acts, ActsLoosely, faults, charge}
use Rattle.resin_eval_writes.specs.Under.machine.Objects.{settled}
use Rattle.resin_eval_writes.proofs.target_lemmas.machine_kept.{keeps_same}
use Rattle.resin_eval_writes.specs.Under.meaning.Programs.{Prog, give, stop, ended, act, ◌>>=◌}
use Rattle.resin_eval_writes.specs.Under.meaning.Runs.{Seen, World, world, Does, Blames}
use Rattle.resin_eval_writes.proofs.meaning_lemmas.Composition.{does_act, does_loosely, does_give, does_ended, does_nothing, none_here}
use Rattle.resin_eval_writes.specs.Under.target.Reads.{GivesOrNoMemory}
use Rattle.resin_eval_writes.proofs.target_lemmas.Ends.{answered_step}
use Rattle.resin_eval_writes.specs.Under.meaning_forms.Parts.{looked, faulted, computed}

-- `exit`
pub does_exited : {A : Type 0} (u : World) → Does (stop {A = A} Exit) u (Err Exit) u
does_exited {A = A} u = does_ended (Err Exit) u (none_here u)
