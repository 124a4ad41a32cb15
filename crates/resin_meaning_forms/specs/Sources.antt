-- What a source text means that runs: its program is read, its functions and classes are declared, then its statements run.
use Rattle.std.specs.Prelude.{List, [], ◌∷◌, ℕ, if◌then◌else◌, Option, None, Some, Result, Ok, Err}
use Rattle.std.specs.List.{filter_map}
use Rattle.resin_builtin.specs.Under.scalar.declared.faults.ScriptFault.TheVariants.{Redeclared, Syntax, TooDeep}
use Rattle.resin_lex.specs.declared.token.ParseFault.{ParseFault}
use Rattle.resin_lex.specs.declared.token.ParseFault.TheVariants as fault
use Rattle.resin_lex.specs.Lines.{line_of}
use Rattle.resin_program_grammar.specs.Parsed.{parsed}
use Rattle.resin_target.specs.Under.tree.declared.declaration.Function.{Function}
use Rattle.resin_target.specs.Under.tree.declared.declaration.Item.{Item}
use Rattle.resin_target.specs.Under.tree.declared.declaration.Item.TheVariants as item
use Rattle.resin_target.specs.Under.tree.declared.declaration.Program.{Program}
use Rattle.resin_target.specs.Under.tree.declared.statement.Stmt.{Stmt}
use Rattle.resin_target.specs.Under.machine.declared.stop.Stop.TheVariants.{Fault, Memory}
use Rattle.resin_target.specs.Under.machine.Objects.{declare_function, declare_class}
use Rattle.resin_meaning_tables.specs.Under.meaning.Programs.{Prog, give, stop, act, on_line, ◌>>=◌}
use Rattle.resin_meaning_forms.specs.declared.course.Course.{Course}
use Rattle.resin_meaning_forms.specs.Parts.{Evals, faulted, ◌>>◌}
use Rattle.resin_meaning_forms.specs.Invoke.{block}
use Rattle.resin_meaning_forms.specs.Names.{is_taken}

-- ---- declarations

-- a function's name may be that of no other, of a script or of the runtime
abbrev pub declare_new : Function → Prog (Unit {0})
declare_new f = if is_taken f.name then faulted Redeclared else act (declare_function f)

-- a declaration runs at its own line
abbrev pub declare : Item → Prog (Unit {0})
declare (item.Function f) = on_line f.line (declare_new f)
declare (item.Class d) = on_line d.line (act (declare_class d))
declare (item.Statement s) = give tt

abbrev pub declare_all : List Item → Prog (Unit {0})
declare_all [] = give tt
declare_all (i ∷ is) = declare i >> declare_all is

abbrev pub statement_in : Item → Option Stmt
statement_in (item.Statement s) = Some s
statement_in (item.Function f) = None
statement_in (item.Class d) = None

-- ---- files

-- the functions and classes of a file are declared in their order, before its statements run
abbrev pub file : Evals → Program → Prog Course
file ev p = declare_all p.items >> block ev (filter_map statement_in p.items)

-- the program of a text, by what the text is read as; a text that is none is a script fault at the line of the place where it stops being the
-- front of one
abbrev pub read_as : List ℕ → Result Program ParseFault → Prog Program
read_as src (Ok p) = give p
read_as src (Err (fault.Syntax place)) = stop (Fault Syntax (line_of src place))
read_as src (Err (fault.TooDeep place)) = stop (Fault TooDeep (line_of src place))
read_as src (Err fault.Memory) = stop Memory

-- the program of a source text
abbrev pub program_of : List ℕ → Prog Program
program_of src = read_as src (parsed src)

-- a source text runs in the variables of the running call
unfoldable pub source : Evals → List ℕ → Prog Course
source ev src = program_of src >>= file ev
