-- The programs of Sources are framed.
use Rattle.std.specs.Prelude.{List, [], ◌∷◌, ℕ, if◌then◌else◌, Option, None, Some, Result, Ok, Err}
use Rattle.std.specs.List.{filter_map}
use Rattle.resin_meaning_forms.specs.Under.scalar.declared.faults.ScriptFault.TheVariants.{Redeclared, Syntax, TooDeep}
use Rattle.resin_lex.specs.declared.token.ParseFault.{ParseFault}
use Rattle.resin_lex.specs.declared.token.ParseFault.TheVariants as fault
use Rattle.resin_lex.specs.Lines.{line_of}
use Rattle.resin_program_grammar.specs.Parsed.{parsed}
use Rattle.resin_meaning_forms.specs.Under.tree.declared.declaration.Function.{Function}
use Rattle.resin_meaning_forms.specs.Under.tree.declared.declaration.Item.{Item}
use Rattle.resin_meaning_forms.specs.Under.tree.declared.declaration.Item.TheVariants as item
use Rattle.resin_meaning_forms.specs.Under.tree.declared.declaration.Program.{Program}
use Rattle.resin_meaning_forms.specs.Under.tree.declared.statement.Stmt.{Stmt}
use Rattle.resin_meaning_forms.specs.Under.machine.declared.stop.Stop.TheVariants.{Fault, Memory}
use Rattle.resin_meaning_forms.specs.Under.machine.Objects.{declare_function, declare_class}
use Rattle.resin_meaning_forms.specs.Under.meaning.Programs.{Prog, give, stop, act, on_line, ◌>>=◌}
use Rattle.resin_meaning_forms.specs.declared.course.Course.{Course}
use Rattle.resin_meaning_forms.specs.Parts.{Evals, faulted, ◌>>◌}
use Rattle.resin_meaning_forms.specs.Invoke.{block}
use Rattle.resin_meaning_forms.specs.Names.{is_taken}
use Rattle.resin_meaning_forms.specs.Sources.{declare_new, declare, declare_all, statement_in, file, read_as, program_of, source}
use Rattle.resin_frame.specs.Frames.{IsFramed}
use Rattle.resin_frame.proofs.Frames.{FramedEvals, framing}
use Rattle.resin_frame.proofs.framed_forms.Invoke.{block_framed}

pub declare_new_framed : {own : Option (List ℕ)} (f : Function) → IsFramed {A = (Unit {0})} own (declare_new f)
declare_new_framed f = search framing depth 12

pub declare_framed : {own : Option (List ℕ)} (a0 : Item) → IsFramed {A = (Unit {0})} own (declare a0)
declare_framed (item.Function f) = search (framing, declare_new_framed) depth 12
declare_framed (item.Class d) = search framing depth 12
declare_framed (item.Statement s) = search framing depth 12

pub declare_all_framed : {own : Option (List ℕ)} (a0 : List Item) → IsFramed {A = (Unit {0})} own (declare_all a0)
declare_all_framed [] = search framing depth 12
declare_all_framed {own = own} (i ∷ is) = let ih = declare_all_framed {own = own} is in search (framing, declare_framed) depth 12

pub file_framed : {own : Option (List ℕ)} (ev : Evals) (p : Program) → FramedEvals own ev → IsFramed {A = Course} own (file ev p)
file_framed ev p h = search (framing, block_framed, declare_all_framed) depth 12

pub read_as_framed : {own : Option (List ℕ)} (src : List ℕ) (a1 : Result Program ParseFault) → IsFramed {A = Program} own (read_as src a1)
read_as_framed src (Ok p) = search framing depth 12
read_as_framed src (Err (fault.Syntax place)) = search framing depth 12
read_as_framed src (Err (fault.TooDeep place)) = search framing depth 12
read_as_framed src (Err fault.Memory) = search framing depth 12

pub program_of_framed : {own : Option (List ℕ)} (src : List ℕ) → IsFramed {A = Program} own (program_of src)
program_of_framed src = search (framing, read_as_framed) depth 12

pub source_framed : {own : Option (List ℕ)} (ev : Evals) (src : List ℕ) → FramedEvals own ev → IsFramed {A = Course} own (source ev src)
unfolding source
source_framed ev src h = search (framing, file_framed, program_of_framed) depth 12
