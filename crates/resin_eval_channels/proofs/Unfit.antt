-- The end of a call whose values are not of its kinds.
use Rattle.std.proofs.Common.{◌≡◌, Result, Err, refl}
use Rattle.resin_eval_queries.specs.Under.store.Files.{LabelledFiles}
use Rattle.resin_eval_queries.specs.Under.base.TableStore.{TableStore}
use Rattle.resin_eval_queries.specs.Under.base.declared.calls.Calls.{Calls}
use Rattle.resin_eval_queries.specs.Under.machine.declared.stop.Stop.{Stop}
use Rattle.resin_eval_queries.specs.Under.machine.declared.stop.Stop.TheVariants.{Fault}
use Rattle.resin_eval_queries.specs.Under.machine.State.{State}
use Rattle.resin_eval_queries.specs.Under.meaning.Runs.{Seen, world, Does}
use Rattle.resin_eval_queries.specs.Under.meaning_forms.Runs.{on_ok}
use Rattle.resin_eval_queries.specs.Under.meaning_forms.Channels.{unfit}
use Rattle.resin_eval_queries.specs.Under.scalar.declared.faults.ScriptFault.TheVariants.{UndefinedFunction}
use Rattle.resin_eval_queries.proofs.eval_nested_lemmas.Arms.{does_faulted}

pub does_unfit : {A B : Type 0} (g : A → B) (m : State) {f : Seen LabelledFiles} {t : Seen TableStore} {c : Calls} (r : Result A Stop) → r ≡ Err (Fault UndefinedFunction m.line) → Does (unfit {A = B}) (world m f t c) (on_ok g r) (world m f t c)
does_unfit g m r e = rw e (does_faulted UndefinedFunction m refl)
