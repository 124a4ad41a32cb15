-- What trees mean by the room that is left for open evaluations, and what a file means.
use Rattle.std.specs.Prelude.{ℕ, zero, suc, List, Result, Ok, Err}
use Rattle.resin_builtin.specs.Under.scalar.declared.faults.ScriptFault.TheVariants.{DepthSpent}
use Rattle.resin_builtin.specs.Under.value.declared.value.Value.{Value}
use Rattle.resin_target.specs.Under.tree.declared.declaration.Program.{Program}
use Rattle.resin_target.specs.Under.tree.declared.statement.StmtKind.{StmtKind}
use Rattle.resin_target.specs.Under.machine.declared.stop.Stop.{Stop}
use Rattle.resin_target.specs.Under.machine.declared.stop.Stop.TheVariants.{Thrown, Exit as Exited, Fault, Keeper, Memory}
use Rattle.resin_target.specs.Under.machine.Steps.{charge}
use Rattle.resin_meaning_tables.specs.Under.meaning.Programs.{Prog, give, ended, act, on_line, then_by}
use Rattle.resin_meaning_forms.specs.declared.course.Course.{Course}
use Rattle.resin_meaning_forms.specs.declared.course.Course.TheVariants.{Next, Break, Continue, Return}
use Rattle.resin_meaning_forms.specs.declared.course.Flow.{Flow}
use Rattle.resin_meaning_forms.specs.declared.course.Flow.TheVariants.{Done, Returned, Exit}
use Rattle.resin_meaning_forms.specs.Parts.{Evals, faulted, ◌>>◌}
use Rattle.resin_meaning_forms.specs.Sources.{file}
use Rattle.resin_meaning_forms.specs.Calls.{call_named}
use Rattle.resin_meaning_forms.specs.Expressions.{expr_form, soft_form}
use Rattle.resin_meaning_forms.specs.Statements.{stmt_form}

-- no further evaluation may be open
abbrev pub no_room : Evals
no_room = record { expr = λ e. faulted DepthSpent; soft = λ e. faulted DepthSpent; stmt = λ s. faulted DepthSpent }

-- a statement with its tick
abbrev pub ticked_form : Evals → StmtKind → Prog Course
ticked_form ev k = act (charge 1) >> stmt_form ev k

-- the meaning of trees where so many evaluations may be open: each takes one tick at its start; a statement runs at its own line
unfoldable pub evals : ℕ → Evals
evals zero = no_room
evals (suc room) = record {
  expr = λ e. act (charge 1) >> expr_form (evals room) e;
  soft = λ e. act (charge 1) >> soft_form (evals room) e;
  stmt = λ s. on_line s.line (ticked_form (evals room) s.kind);
}

-- the most evaluations that are open at once
abbrev pub most_open : ℕ
most_open = 1000

-- ---- files

-- how a program ends that ran to its end, returned, or ran `exit`
abbrev pub flow_of : Course → Flow
flow_of (Return v) = Returned v
flow_of Next = Done
flow_of Break = Done
flow_of Continue = Done

abbrev pub program_end : Result Course Stop → Result Flow Stop
program_end (Ok course) = Ok (flow_of course)
program_end (Err Exited) = Ok Exit
program_end (Err (Thrown o)) = Err (Thrown o)
program_end (Err (Fault f line)) = Err (Fault f line)
program_end (Err Keeper) = Err Keeper
program_end (Err Memory) = Err Memory

-- the program of a file, in which no evaluation is open yet
abbrev pub program : Program → Prog Flow
program p = then_by (file (evals most_open) p) (λ r. ended (program_end r))

-- a call by name whose arguments are evaluated, made while no evaluation is open
abbrev pub function_call : List ℕ → List Value → Prog Value
function_call name vs = call_named (evals most_open) name vs
