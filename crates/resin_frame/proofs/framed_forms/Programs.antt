-- The programs of Programs are framed.
use Rattle.std.specs.Prelude.{Option}
use Rattle.std.proofs.Common.{refl}
use Rattle.std.specs.Prelude.{ℕ, zero, suc, List, Result, Ok, Err}
use Rattle.resin_meaning_forms.specs.Under.scalar.declared.faults.ScriptFault.TheVariants.{DepthSpent}
use Rattle.resin_meaning_forms.specs.Under.value.declared.value.Value.{Value}
use Rattle.resin_meaning_forms.specs.Under.tree.declared.declaration.Program.{Program}
use Rattle.resin_meaning_forms.specs.Under.tree.declared.statement.StmtKind.{StmtKind}
use Rattle.resin_meaning_forms.specs.Under.machine.declared.stop.Stop.{Stop}
use Rattle.resin_meaning_forms.specs.Under.machine.declared.stop.Stop.TheVariants.{Thrown, Exit as Exited, Fault, Keeper, Memory}
use Rattle.resin_meaning_forms.specs.Under.machine.Steps.{charge}
use Rattle.resin_meaning_forms.specs.Under.meaning.Programs.{Prog, give, ended, act, on_line, then_by}
use Rattle.resin_meaning_forms.specs.declared.course.Course.{Course}
use Rattle.resin_meaning_forms.specs.declared.course.Course.TheVariants.{Next, Break, Continue, Return}
use Rattle.resin_meaning_forms.specs.declared.course.Flow.{Flow}
use Rattle.resin_meaning_forms.specs.declared.course.Flow.TheVariants.{Done, Returned, Exit}
use Rattle.resin_meaning_forms.specs.Parts.{Evals, faulted, ◌>>◌}
use Rattle.resin_meaning_forms.specs.Sources.{file}
use Rattle.resin_meaning_forms.specs.Calls.{call_named}
use Rattle.resin_meaning_forms.specs.Expressions.{expr_form, soft_form}
use Rattle.resin_meaning_forms.specs.Statements.{stmt_form}
use Rattle.resin_meaning_forms.specs.Programs.{no_room, ticked_form, evals, most_open, flow_of, program_end, program, function_call}
use Rattle.resin_frame.specs.Frames.{IsFramed}
use Rattle.resin_frame.proofs.Frames.{framed_then, framed_ended, FramedEvals, framing}
use Rattle.resin_frame.proofs.framed_forms.Statements.{stmt_form_framed}
use Rattle.resin_frame.proofs.framed_forms.Sources.{file_framed}
use Rattle.resin_frame.proofs.framed_forms.Calls.{call_named_framed}
use Rattle.resin_frame.proofs.framed_forms.Expressions.{expr_form_framed, soft_form_framed}

pub ticked_form_framed : {own : Option (List ℕ)} (ev : Evals) (k : StmtKind) → FramedEvals own ev → IsFramed {A = Course} own (ticked_form ev k)
ticked_form_framed ev k h = search (framing, stmt_form_framed) depth 12

-- one induction on the room
pub evals_framed : {own : Option (List ℕ)} (room : ℕ) → FramedEvals own (evals room)
unfolding evals
evals_framed zero = record { expr = λ e. search framing; soft = λ e. search framing; stmt = λ s. search framing }
evals_framed {own = own} (suc room) = let ih = evals_framed {own = own} room in record {
  expr = λ e. search (framing, expr_form_framed) depth 12;
  soft = λ e. search (framing, soft_form_framed) depth 12;
  stmt = λ s. search (framing, ticked_form_framed) depth 12;
}

pub program_framed : {own : Option (List ℕ)} (p : Program) → IsFramed {A = Flow} own (program p)
program_framed p = framed_then (file (evals most_open) p) (λ r. ended (program_end r)) (record { passes = λ line failing at. refl }) (file_framed (evals most_open) p (evals_framed most_open)) (λ r. framed_ended (program_end r))

pub function_call_framed : {own : Option (List ℕ)} (name : List ℕ) (vs : List Value) → IsFramed {A = Value} own (function_call name vs)
function_call_framed name vs = search (framing, call_named_framed, evals_framed) depth 12
