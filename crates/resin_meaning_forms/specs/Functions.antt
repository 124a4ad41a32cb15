-- Functions of the runtime once they are found and their arguments are evaluated: how many arguments there are is asked first, then they
-- are turned into their kinds from the left, then what the work takes is charged, then comes the work, and then what it gives is charged.
use Rattle.std.specs.Prelude.{ℕ, ◌+◌, ◌==◌, List, [], ◌∷◌, ◌++◌, length, filter, Bool, true, false, if◌then◌else◌, Option, None, Some, Ok}
use Rattle.resin_builtin.specs.Under.label.Sets.{NumberSet, empty as no_labels, numbers, set_of, insert, remove}
use Rattle.resin_builtin.specs.Under.lstr.Texts.{Text as LabelledText, marked, unmarked, policies_in_order, bytes_of}
use Rattle.resin_target.specs.Under.journal.declared.channel.Channel.{Channel}
use Rattle.resin_target.specs.Under.journal.declared.channel.Channel.TheVariants.{Http, Header, Email, File, Sql, Code, Input}
use Rattle.resin_target.specs.Under.journal.Channels.{channel_name}
use Rattle.std.specs.Str.{bytes_eq}
use Rattle.resin_builtin.specs.Under.scalar.declared.faults.ScriptFault.TheVariants.{BadOperand}
use Rattle.resin_builtin.specs.Under.value.declared.value.Value.{Value}
use Rattle.resin_builtin.specs.Under.value.Trees.{Tree, null, boolean, integer, text, object}
use Rattle.resin_builtin.specs.Under.value.Seen.{tree_of}
use Rattle.resin_builtin.specs.Under.value.Values.{value_of}
use Rattle.resin_target.specs.Under.ops.Conversions.{int_of_value}
use Rattle.resin_builtin.specs.Under.format.Directives.{directives, is_integer_place}
use Rattle.resin_builtin.specs.declared.builtin.Builtin.{Builtin}
use Rattle.resin_builtin.specs.declared.builtin.Builtin.TheVariants.{Digest, Sprintf, Intval, Intdiv}
use Rattle.resin_builtin.specs.declared.signatures.ArgKind.{ArgKind}
use Rattle.resin_builtin.specs.declared.signatures.ArgKind.TheVariants.{Text as TextKind, Any}
use Rattle.resin_builtin.specs.Signatures.{sig_of, is_count, parameters, kind_at, null_is_default}
use Rattle.resin_builtin.specs.Turns.{turned}
use Rattle.resin_builtin.specs.Rows.{mapped}
use Rattle.resin_builtin.specs.Calls.{called, cost}
use Rattle.resin_target.specs.Under.heap.declared.prelude.PreludeClass.{PreludeClass}
use Rattle.resin_target.specs.Under.heap.declared.prelude.PreludeClass.TheVariants.{ArgumentCountError, ValueError, TypeError, Policy, Filter}
use Rattle.resin_target.specs.Under.machine.State.{State}
use Rattle.resin_target.specs.Under.machine.Steps.{Act, charge}
use Rattle.resin_target.specs.Under.machine.Objects.{settled, find_class_of}
use Rattle.resin_target.specs.Under.machine.Filters.{add_filter, without_filter, add_function_filter}
use Rattle.resin_target.specs.Under.machine.Leaving.{class_name_of}
use Rattle.resin_guard.specs.Verdicts.{sql_verdict, html_verdict}
use Rattle.resin_guard.specs.declared.judge.Guard.{Guard}
use Rattle.resin_guard.specs.declared.judge.Guard.TheVariants.{Pass}
use Rattle.resin_meaning_tables.specs.Under.meaning.Programs.{Prog, give, act, ◌>>=◌}
use Rattle.resin_meaning_forms.specs.declared.callee.StateFunction.{StateFunction}
use Rattle.resin_meaning_forms.specs.declared.callee.StateFunction.TheVariants.{PolicyAdd, PolicyRemove, PolicyGet, FilterAdd, FilterRemove}
use Rattle.resin_meaning_forms.specs.declared.callee.StateFunction.TheVariants.{FilterFunctionAdd, GetClass, SqlStructure, HtmlStructure}
use Rattle.resin_meaning_forms.specs.Parts.{Evals, computed, faulted, ruled, thrown_new, looked, ◌>>◌}
use Rattle.resin_meaning_forms.specs.Merges.{is_of_class, is_under, list_of_objects, merge, folded}
use Rattle.resin_meaning_forms.specs.Operators.{set_of_number}
use Rattle.resin_meaning_forms.specs.Writes.{plain}

-- another count of arguments throws ArgumentCountError
abbrev pub counted : {A : Type 0} → Bool → Prog A → Prog A
counted fits p = if fits then p else thrown_new ArgumentCountError

-- ---- arguments

-- the integer that a text was read as carries what the text carries
abbrev pub with_folded : Evals → Tree → Tree → Prog Tree
with_folded ev (text t) (integer n s) = folded ev t >>= λ set. give (integer n set)
with_folded ev argument value = give value

-- an argument as a value of its kind; null may stand for one that is left out
abbrev pub argument : Evals → ArgKind → Bool → Tree → Prog Tree
argument ev kind null_stays t = computed (turned kind null_stays t) >>= with_folded ev t

-- an argument that a format reads as an integer is cast
abbrev pub cast_argument : Evals → Tree → Prog Tree
cast_argument ev t = do
  n ← computed (ruled (int_of_value t))
  s ← set_of_number ev t
  give (integer n s)

-- the first argument of `sprintf` is the format, which says how the i-th one behind it is read
abbrev pub format_argument : Evals → LabelledText → ℕ → Tree → Prog Tree
format_argument ev format i t = if is_integer_place (directives format) i then cast_argument ev t else give t

-- these arguments, and those of `sprintf` behind them, from the left
abbrev pub format_arguments : Evals → LabelledText → List Tree → ℕ → List Tree → Prog (List Tree)
format_arguments ev format vs i [] = give vs
format_arguments ev format vs i (t ∷ ts) = format_argument ev format i t >>= λ v. format_arguments ev format (vs ++ v ∷ []) (i + 1) ts

abbrev pub behind_format : Evals → List Tree → Tree → Prog (List Tree)
behind_format ev ts (text format) = format_arguments ev format (text format ∷ []) 0 ts
behind_format ev ts t = give []

-- these arguments, and those of a builtin function behind them, from the left; the number is the place
abbrev pub arguments_on : Evals → Builtin → List Tree → ℕ → List Tree → Prog (List Tree)
arguments_on ev b vs i [] = give vs
arguments_on ev b vs i (t ∷ ts) = argument ev (kind_at (parameters b) i) (null_is_default b i) t >>= λ v. arguments_on ev b (vs ++ v ∷ []) (i + 1) ts

-- the arguments of `sprintf`
abbrev pub sprintf_arguments : Evals → List Tree → Prog (List Tree)
sprintf_arguments ev [] = give []
sprintf_arguments ev (t ∷ ts) = argument ev TextKind false t >>= behind_format ev ts

abbrev pub arguments : Evals → Builtin → List Tree → Prog (List Tree)
arguments ev Sprintf ts = sprintf_arguments ev ts
arguments ev b ts = arguments_on ev b [] 0 ts

-- what the answer of some functions carries: a digest and the integer in a text what the text carries, a quotient what both numbers carry
abbrev pub answer_set : Evals → Builtin → List Tree → Prog NumberSet
answer_set ev (Digest row) (text t ∷ ts) = folded ev t
answer_set ev Intval (text t ∷ ts) = folded ev t
answer_set ev Intdiv (integer a s ∷ integer b q ∷ ts) = merge ev s q
answer_set ev b ts = give no_labels

-- the work of a builtin function, which spends ticks
abbrev pub work : Builtin → List Tree → NumberSet → Act Value
work b ts set m = let a = called b ts set m.ticks in settled (mapped value_of a.0) (record m { ticks = a.1 })

-- a call of a function that works on its arguments alone
abbrev pub builtin : Evals → Builtin → List Tree → Prog Value
builtin ev b ts = counted (is_count (sig_of b) (length ts)) (do
  vs ← arguments ev b ts
  set ← answer_set ev b vs
  act (work b vs set))

-- ---- functions that work on the state

abbrev pub kinds_of : StateFunction → List ArgKind
kinds_of PolicyAdd = Any ∷ Any ∷ []
kinds_of PolicyRemove = Any ∷ Any ∷ []
kinds_of PolicyGet = Any ∷ []
kinds_of FilterAdd = TextKind ∷ Any ∷ []
kinds_of FilterRemove = TextKind ∷ Any ∷ []
kinds_of FilterFunctionAdd = TextKind ∷ Any ∷ []
kinds_of GetClass = Any ∷ []
kinds_of SqlStructure = TextKind ∷ TextKind ∷ []
kinds_of HtmlStructure = TextKind ∷ TextKind ∷ []

-- these arguments, and those behind them, each turned into its kind, from the left
abbrev pub arguments_of_on : Evals → List Tree → List ArgKind → List Tree → Prog (List Tree)
arguments_of_on ev vs (kind ∷ kinds) (t ∷ ts) = argument ev kind false t >>= λ v. arguments_of_on ev (vs ++ v ∷ []) kinds ts
arguments_of_on ev vs kinds ts = give vs

abbrev pub arguments_of : Evals → List ArgKind → List Tree → Prog (List Tree)
arguments_of ev kinds ts = arguments_of_on ev [] kinds ts

-- a channel that a script may name
abbrev pub nameable : List Channel
nameable = Http ∷ Header ∷ Email ∷ File ∷ Sql ∷ Code ∷ Input ∷ []

abbrev pub channel_among : List Channel → List ℕ → Option Channel
channel_among [] name = None
channel_among (c ∷ cs) name = if bytes_eq (channel_name c) name then Some c else channel_among cs name

abbrev pub channel_for : LabelledText → Prog Channel
channel_for name = elim (channel_among nameable (bytes_of name)) [ Some c ↦ give c | None ↦ thrown_new ValueError ]

-- the number of an object of a class, or of one under it; any other value is the fault
abbrev pub number_in : Tree → ℕ
number_in (object o) = o
number_in t = 0

abbrev pub object_under : PreludeClass → Tree → Prog ℕ
object_under class t = do
  fit ← looked (λ m. is_under class m t)
  if fit then give (number_in t) else faulted BadOperand

-- a value with a policy added; only integers and texts carry policies
abbrev pub with_policy : ℕ → Tree → Prog Tree
with_policy p (integer n s) = give (integer n (insert s p))
with_policy p (text t) = give (text (marked p t))
with_policy p t = faulted BadOperand

abbrev pub without_policy : ℕ → Tree → Prog Tree
without_policy p (integer n s) = give (integer n (remove s p))
without_policy p (text t) = give (text (unmarked p t))
without_policy p t = faulted BadOperand

-- the policies of a value, rising
abbrev pub policies_of : Tree → List ℕ
policies_of (integer n s) = numbers s
policies_of (text t) = numbers (set_of (policies_in_order t))
policies_of t = []

abbrev pub seen : Prog Value → Prog Tree
seen p = p >>= λ v. give (tree_of v)

-- the name of the class of an object
abbrev pub class_name : Tree → Prog Tree
class_name (object o) = looked (class_name_of o) >>= λ name. give (text (plain name))
class_name t = thrown_new TypeError

abbrev pub remove_filter : Channel → ℕ → Act (Unit {0})
remove_filter c o m = (Ok tt, without_filter c o m)

-- the policies of a text whose class is the one of a number, or under it
abbrev pub marks_under : ℕ → LabelledText → State → NumberSet
marks_under class t m = set_of (filter (is_of_class class m) (policies_in_order t))

abbrev pub is_pass : Guard → Bool
is_pass Pass = true
is_pass g = false

-- A guard against injection: whether each byte that carries a policy of a class stands in a harmless place of the text. An unknown class is
-- the fault.
abbrev pub structure : (NumberSet → LabelledText → Guard) → LabelledText → LabelledText → Prog Tree
structure verdict t name = do
  class ← act (find_class_of (bytes_of name))
  bad ← looked (marks_under class t)
  give (boolean (is_pass (verdict bad t)))

-- the work of a function that works on the state
abbrev pub state_work : StateFunction → List Tree → Prog Tree
state_work PolicyAdd (v ∷ p ∷ ts) = object_under Policy p >>= λ o. with_policy o v
state_work PolicyRemove (v ∷ p ∷ ts) = object_under Policy p >>= λ o. without_policy o v
state_work PolicyGet (v ∷ ts) = seen (list_of_objects (policies_of v))
state_work FilterAdd (text name ∷ f ∷ ts) = do
  c ← channel_for name
  o ← object_under Filter f
  act (add_filter c o)
  give null
state_work FilterRemove (text name ∷ f ∷ ts) = do
  c ← channel_for name
  o ← object_under Filter f
  act (remove_filter c o)
  give null
state_work FilterFunctionAdd (text name ∷ f ∷ ts) = do
  o ← object_under Filter f
  act (add_function_filter (bytes_of name) o)
  give null
state_work GetClass (o ∷ ts) = class_name o
state_work SqlStructure (text t ∷ text name ∷ ts) = structure sql_verdict t name
state_work HtmlStructure (text t ∷ text name ∷ ts) = structure html_verdict t name
state_work f ts = thrown_new ArgumentCountError

-- what the work takes is charged, one value after the other
abbrev pub take_all : List Tree → Prog (Unit {0})
take_all [] = give tt
take_all (t ∷ ts) = act (charge (cost t)) >> take_all ts

-- a call of such a function
abbrev pub state_function : Evals → StateFunction → List Tree → Prog Value
state_function ev f ts = counted (length ts == length (kinds_of f)) (do
  vs ← arguments_of ev (kinds_of f) ts
  take_all vs
  answer ← state_work f vs
  act (charge (cost answer))
  give (value_of answer))
