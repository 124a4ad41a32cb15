-- The programs of Parts are framed.
use Rattle.std.specs.Prelude.{Option}
use Rattle.std.specs.Prelude.{ℕ, ◌/◌, List, [], ◌∷◌, length, Result, Ok, Err}
use Rattle.resin_meaning_forms.specs.Under.scalar.declared.faults.CallStop.{CallStop}
use Rattle.resin_meaning_forms.specs.Under.scalar.declared.faults.CallStop.TheVariants.{Fault as CallFault}
use Rattle.resin_meaning_forms.specs.Under.scalar.declared.faults.ScriptFault.{ScriptFault}
use Rattle.resin_meaning_forms.specs.Under.value.declared.value.Value.{Value}
use Rattle.resin_meaning_forms.specs.Under.value.Trees.{Tree, text}
use Rattle.resin_meaning_forms.specs.Under.value.Values.{value_of}
use Rattle.resin_meaning_forms.specs.Under.heap.declared.prelude.PreludeClass.{PreludeClass}
use Rattle.resin_meaning_forms.specs.Under.tree.declared.expression.Expr.{Expr}
use Rattle.resin_meaning_forms.specs.Under.tree.declared.statement.Stmt.{Stmt}
use Rattle.resin_meaning_forms.specs.Under.machine.State.{State}
use Rattle.resin_meaning_forms.specs.Under.machine.Steps.{faults, charge}
use Rattle.resin_meaning_forms.specs.Under.machine.Objects.{throw_new, settled}
use Rattle.resin_meaning_forms.specs.Under.meaning.Programs.{Prog, give, act, ◌>>=◌}
use Rattle.resin_meaning_forms.specs.declared.course.Course.{Course}
use Rattle.resin_meaning_forms.specs.Parts.{◌>>◌, looked, computed, faulted, thrown_new, ruled, text_cost, charge_text, charge_both, charged, given}
use Rattle.resin_frame.specs.Frames.{IsFramed}
use Rattle.resin_frame.proofs.Frames.{framing}

pub charge_text_framed : {own : Option (List ℕ)} (t : Tree) → IsFramed {A = (Unit {0})} own (charge_text t)
charge_text_framed t = search framing depth 12

pub charge_both_framed : {own : Option (List ℕ)} (t : Tree) (u : Tree) → IsFramed {A = (Unit {0})} own (charge_both t u)
charge_both_framed t u = search (framing, charge_text_framed) depth 12

pub charged_framed : {own : Option (List ℕ)} (a0 : List Tree) → IsFramed {A = (Unit {0})} own (charged a0)
charged_framed [] = search framing depth 12
charged_framed {own = own} (t ∷ ts) = let ih = charged_framed {own = own} ts in search (framing, charge_text_framed) depth 12

pub given_framed : {own : Option (List ℕ)} (t : Tree) → IsFramed {A = Value} own (given t)
given_framed t = search (framing, charge_text_framed) depth 12
