-- Declarations, by what their parts answered.
use Rattle.std.proofs.Common.{◌≡◌, Bool, true, false, Result, Err, sym, ap, ◌∙◌}
use Rattle.resin_meaning_forms.specs.Under.scalar.declared.faults.ScriptFault.TheVariants.{Redeclared}
use Rattle.resin_meaning_forms.specs.Under.tree.declared.declaration.Function.{Function}
use Rattle.resin_meaning_forms.specs.Under.machine.declared.stop.Stop.{Stop}
use Rattle.resin_meaning_forms.specs.Under.machine.declared.stop.Stop.TheVariants.{Fault}
use Rattle.resin_meaning_forms.specs.Under.machine.State.{State}
use Rattle.resin_meaning_forms.specs.Under.machine.Steps.{Acts}
use Rattle.resin_meaning_forms.specs.Under.machine.Objects.{declare_function}
use Rattle.resin_meaning_forms.specs.Under.meaning.Programs.{Prog, act}
use Rattle.resin_meaning_forms.proofs.meaning_lemmas.Composition.{does_act}
use Rattle.resin_meaning_forms.specs.Runs.{Runs}
use Rattle.resin_meaning_forms.specs.Parts.{faulted}
use Rattle.resin_meaning_forms.specs.Names.{is_taken}
use Rattle.resin_meaning_forms.specs.Sources.{declare_new}
use Rattle.resin_step_parts.proofs.Steps.{does_faulted, runs_as}
use Rattle.std.proofs.Common.{cond}

abbrev declared_by : Function → Bool → Prog (Unit {0})
declared_by f b = cond b (faulted Redeclared) (act (declare_function f))

pub name_taken : (f : Function) (b : Bool) (m : State) (s : Stop) → b ≡ is_taken f.name → b ≡ true → s ≡ Fault Redeclared m.line → Runs (declare_new f) m (Err s) m
name_taken f b m s is e fault = runs_as (declare_new f) (faulted Redeclared) m (Err s) m (ap (declared_by f) (sym is ∙ e)) (does_faulted Redeclared m s fault)

pub name_free : (f : Function) (b : Bool) (m : State) (r : Result (Unit {0}) Stop) (m' : State) → b ≡ is_taken f.name → b ≡ false → Acts (declare_function f) m r m' → Runs (declare_new f) m r m'
name_free f b m r m' is e a = runs_as (declare_new f) (act (declare_function f)) m r m' (ap (declared_by f) (sym is ∙ e)) (λ u t k. does_act (declare_function f) u t k a)
