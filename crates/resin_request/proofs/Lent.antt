-- What was lent to a run, in the words of a caller that has it in places of its own.
use Rattle.std.proofs.Common.{◌≡◌, subst}
use Rattle.std.specs.Prelude.{Result}
use Rattle.resin_interp.specs.Under.base.declared.calls.Calls.{Calls}
use Rattle.resin_interp.specs.Under.base.declared.files.Files as Files
use Rattle.resin_interp.specs.Under.base.declared.tables.Tables as Tables
use Rattle.resin_interp.specs.Under.eval_nested.Running.{at, Performs}
use Rattle.resin_interp.specs.Under.eval_nested.declared.run.Run.{Run}
use Rattle.resin_interp.specs.Lent.{lent}
use Rattle.resin_interp.specs.Under.machine.State.{State}
use Rattle.resin_interp.specs.Under.machine.declared.stop.Stop.{Stop}
use Rattle.resin_interp.specs.Under.meaning.Programs.{Prog}
use Rattle.resin_interp.specs.Under.meaning.Runs.{Does}

-- a run that was made of these went to one that was taken apart into those
pub does_lent : {F T A : Type 0} (files : Files.Ghosts F) (tables : Tables.Ghosts T) (p : Prog A) {u v : Run F T} {m m' : State} {f f' : F} {t t' : T} {k k' : Calls} {r : Result A Stop}
    → u ≡ lent m f t k → v ≡ lent m' f' t' k' → Performs files tables p u r v → Does p (at files tables (lent m f t k)) r (at files tables (lent m' f' t' k'))
does_lent files tables p {u = u} {v = v} {m = m} {f = f} {t = t} {k = k} {r = r} is is' d =
    subst (λ w. Does p (at files tables (lent m f t k)) r (at files tables w)) is' (subst (λ w. Does p (at files tables w) r (at files tables v)) is d)
