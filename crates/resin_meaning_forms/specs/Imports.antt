-- `include`, `include_once`, `require` and `require_once` (PHP manual): another file runs in the variables of the running call.
use Rattle.std.specs.Prelude.{ℕ, pos, ◌&&◌, List, Bool, true, false, if◌then◌else◌, Option, None, Some}
use Rattle.resin_builtin.specs.Under.label.Sets.{empty as no_labels}
use Rattle.resin_builtin.specs.Under.lstr.Texts.{Text as LabelledText, bytes_of}
use Rattle.resin_target.specs.Under.journal.declared.channel.Channel.TheVariants.{Code}
use Rattle.resin_builtin.specs.Under.value.declared.value.Value.{Value}
use Rattle.resin_builtin.specs.Under.value.declared.value.Value.TheVariants.{Bool as Boolean, Int}
use Rattle.resin_builtin.specs.Under.value.Trees.{text}
use Rattle.resin_builtin.specs.Under.value.Seen.{tree_of}
use Rattle.resin_target.specs.Under.ops.Conversions.{text_of}
use Rattle.resin_target.specs.Under.tree.declared.expression.Import.{Import}
use Rattle.resin_target.specs.Under.tree.declared.expression.Import.TheVariants.{Include, IncludeOnce, Require, RequireOnce}
use Rattle.resin_target.specs.Under.heap.declared.prelude.PreludeClass.TheVariants.{Error}
use Rattle.resin_target.specs.Under.machine.Filters.{is_imported, import_path}
use Rattle.resin_target.specs.Under.machine.Steps.{awake}
use Rattle.resin_meaning_tables.specs.Under.store.Entries.{LabelledEntry}
use Rattle.resin_meaning_tables.specs.Under.meaning.Programs.{Prog, give, act, ◌>>=◌}
use Rattle.resin_meaning_tables.specs.Under.meaning.KeeperCalls.{read_file}
use Rattle.resin_meaning_forms.specs.declared.course.Course.{Course}
use Rattle.resin_meaning_forms.specs.declared.course.Course.TheVariants.{Next, Break, Continue, Return}
use Rattle.resin_meaning_forms.specs.Parts.{Evals, computed, thrown_new, looked, charge_text, ◌>>◌}
use Rattle.resin_meaning_forms.specs.Files.{at_lawful}
use Rattle.resin_meaning_forms.specs.Keeping.{thaw_entry}
use Rattle.resin_meaning_forms.specs.Reading.{path_context, read_through}
use Rattle.resin_meaning_forms.specs.Sources.{source}

-- a file that was imported is passed over
abbrev pub is_once : Import → Bool
is_once Include = false
is_once IncludeOnce = true
is_once Require = false
is_once RequireOnce = true

-- a file that is missing throws Error
abbrev pub is_required : Import → Bool
is_required Include = false
is_required IncludeOnce = false
is_required Require = true
is_required RequireOnce = true

-- what an import is as a value: what the file returned, else 1
abbrev pub value_of_course : Course → Value
value_of_course (Return v) = v
value_of_course Next = Int (pos 1) no_labels
value_of_course Break = Int (pos 1) no_labels
value_of_course Continue = Int (pos 1) no_labels

-- the bytes of an entry as source text: thawed, and as the filters of source text give them; labels end there. The path then counts as imported
abbrev pub code_of : Evals → List ℕ → LabelledEntry → Prog (List ℕ)
code_of ev path e = do
  t ← thaw_entry e
  src ← read_through ev Code (path_context Code path) t
  act (import_path path)
  give (bytes_of src)

abbrev pub run_entry : Evals → List ℕ → LabelledEntry → Prog Value
run_entry ev path e = do
  src ← code_of ev path e
  course ← source ev src
  give (value_of_course course)

-- a file that isn't there
abbrev pub missing : Import → Prog Value
missing kind = if is_required kind then thrown_new Error else give (Boolean false)

abbrev pub run_found : Evals → Import → List ℕ → Option LabelledEntry → Prog Value
run_found ev kind path (Some e) = run_entry ev path e
run_found ev kind path None = missing kind

-- a `_once` form of a path that was imported is true, and no keeper call is made
abbrev pub run_path : Evals → Import → List ℕ → Prog Value
run_path ev kind path = do
  was ← looked (is_imported path)
  if is_once kind && was then give (Boolean true) else (read_file path >>= run_found ev kind path)

abbrev pub import_named : Evals → Import → LabelledText → Prog Value
import_named ev kind t = charge_text (text t) >> at_lawful (bytes_of t) (run_path ev kind (bytes_of t))

-- the operand's value is the path; a check may not import
abbrev pub import_value : Evals → Import → Value → Prog Value
import_value ev kind v = do
  act awake
  t ← computed (text_of (tree_of v))
  import_named ev kind t
