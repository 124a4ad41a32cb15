-- The programs of Functions are framed.
use Rattle.std.specs.Prelude.{ℕ, ◌+◌, ◌==◌, List, [], ◌∷◌, ◌++◌, length, filter, Bool, true, false, if◌then◌else◌, Option, None, Some, Ok}
use Rattle.resin_meaning_forms.specs.Under.label.Sets.{NumberSet, empty as no_labels, numbers, set_of, insert, remove}
use Rattle.resin_meaning_forms.specs.Under.lstr.Texts.{Text as LabelledText, marked, unmarked, policies_in_order, bytes_of}
use Rattle.resin_meaning_forms.specs.Under.journal.declared.channel.Channel.{Channel}
use Rattle.resin_meaning_forms.specs.Under.journal.declared.channel.Channel.TheVariants.{Http, Header, Email, File, Sql, Code, Input}
use Rattle.resin_meaning_forms.specs.Under.journal.Channels.{channel_name}
use Rattle.std.specs.Str.{bytes_eq}
use Rattle.resin_meaning_forms.specs.Under.scalar.declared.faults.ScriptFault.TheVariants.{BadOperand}
use Rattle.resin_meaning_forms.specs.Under.value.declared.value.Value.{Value}
use Rattle.resin_meaning_forms.specs.Under.value.Trees.{Tree, null, boolean, integer, text, object}
use Rattle.resin_meaning_forms.specs.Under.value.Seen.{tree_of}
use Rattle.resin_meaning_forms.specs.Under.value.Values.{value_of}
use Rattle.resin_meaning_forms.specs.Under.ops.Conversions.{int_of_value}
use Rattle.resin_meaning_forms.specs.Under.builtin.Under.format.Directives.{directives, is_integer_place}
use Rattle.resin_meaning_forms.specs.Under.builtin.declared.builtin.Builtin.{Builtin}
use Rattle.resin_meaning_forms.specs.Under.builtin.declared.builtin.Builtin.TheVariants.{Digest, Sprintf, Intval, Intdiv}
use Rattle.resin_meaning_forms.specs.Under.builtin.declared.signatures.ArgKind.{ArgKind}
use Rattle.resin_meaning_forms.specs.Under.builtin.declared.signatures.ArgKind.TheVariants.{Text as TextKind, Any}
use Rattle.resin_meaning_forms.specs.Under.builtin.Signatures.{sig_of, is_count, parameters, kind_at, null_is_default}
use Rattle.resin_meaning_forms.specs.Under.builtin.Turns.{turned}
use Rattle.resin_meaning_forms.specs.Under.builtin.Rows.{mapped}
use Rattle.resin_meaning_forms.specs.Under.builtin.Calls.{called, cost}
use Rattle.resin_meaning_forms.specs.Under.heap.declared.prelude.PreludeClass.{PreludeClass}
use Rattle.resin_meaning_forms.specs.Under.heap.declared.prelude.PreludeClass.TheVariants.{ArgumentCountError, ValueError, TypeError, Policy, Filter}
use Rattle.resin_meaning_forms.specs.Under.machine.State.{State}
use Rattle.resin_meaning_forms.specs.Under.machine.Steps.{Act, charge}
use Rattle.resin_meaning_forms.specs.Under.machine.Objects.{settled, find_class_of}
use Rattle.resin_meaning_forms.specs.Under.machine.Filters.{add_filter, without_filter, add_function_filter}
use Rattle.resin_meaning_forms.specs.Under.machine.Leaving.{class_name_of}
use Rattle.resin_meaning_forms.specs.Under.guard.Verdicts.{sql_verdict, html_verdict}
use Rattle.resin_meaning_forms.specs.Under.guard.declared.judge.Guard.{Guard}
use Rattle.resin_meaning_forms.specs.Under.guard.declared.judge.Guard.TheVariants.{Pass}
use Rattle.resin_meaning_forms.specs.Under.meaning.Programs.{Prog, give, act, ◌>>=◌}
use Rattle.resin_meaning_forms.specs.declared.callee.StateFunction.{StateFunction}
use Rattle.resin_meaning_forms.specs.declared.callee.StateFunction.TheVariants.{PolicyAdd, PolicyRemove, PolicyGet, FilterAdd, FilterRemove, FilterFunctionAdd, GetClass, SqlStructure, HtmlStructure}
use Rattle.resin_meaning_forms.specs.Parts.{Evals, computed, faulted, ruled, thrown_new, looked, ◌>>◌}
use Rattle.resin_meaning_forms.specs.Merges.{is_of_class, is_under, list_of_objects, merge, folded}
use Rattle.resin_meaning_forms.specs.Operators.{set_of_number}
use Rattle.resin_meaning_forms.specs.Writes.{plain}
use Rattle.resin_meaning_forms.specs.Functions.{counted, with_folded, argument, cast_argument, format_argument, format_arguments, behind_format, arguments_on, sprintf_arguments, arguments, answer_set, work, builtin, kinds_of, arguments_of_on, arguments_of, nameable, channel_among, channel_for, number_in, object_under, with_policy, without_policy, policies_of, seen, class_name, remove_filter, marks_under, is_pass, structure, state_work, take_all, state_function}
use Rattle.resin_frame.specs.Frames.{IsFramed}
use Rattle.resin_frame.proofs.Frames.{FramedEvals, framing}
use Rattle.resin_frame.proofs.framed_forms.Merges.{folded_framed, list_of_objects_framed, merge_framed}
use Rattle.resin_frame.proofs.framed_forms.Operators.{set_of_number_framed}

pub counted_framed : {own : Option (List ℕ)} {A : Type 0} (fits : Bool) (p : Prog A) → IsFramed own p → IsFramed {A = A} own (counted fits p)
counted_framed fits p h_p = search framing depth 12

pub with_folded_framed : {own : Option (List ℕ)} (ev : Evals) (argument : Tree) (value : Tree) → FramedEvals own ev → IsFramed {A = Tree} own (with_folded ev argument value)
with_folded_framed ev (text t) (integer n s) h = search (framing, folded_framed) depth 12
with_folded_framed ev argument value h = search framing depth 12

pub argument_framed : {own : Option (List ℕ)} (ev : Evals) (kind : ArgKind) (null_stays : Bool) (t : Tree) → FramedEvals own ev → IsFramed {A = Tree} own (argument ev kind null_stays t)
argument_framed ev kind null_stays t h = search (framing, with_folded_framed) depth 12

pub cast_argument_framed : {own : Option (List ℕ)} (ev : Evals) (t : Tree) → FramedEvals own ev → IsFramed {A = Tree} own (cast_argument ev t)
cast_argument_framed ev t h = search (framing, set_of_number_framed) depth 12

pub format_argument_framed : {own : Option (List ℕ)} (ev : Evals) (format : LabelledText) (i : ℕ) (t : Tree) → FramedEvals own ev → IsFramed {A = Tree} own (format_argument ev format i t)
format_argument_framed ev format i t h = search (framing, cast_argument_framed) depth 12

pub format_arguments_framed : {own : Option (List ℕ)} (ev : Evals) (format : LabelledText) (vs : List Tree) (i : ℕ) (a4 : List Tree) → FramedEvals own ev → IsFramed {A = (List Tree)} own (format_arguments ev format vs i a4)
format_arguments_framed ev format vs i [] h = search framing depth 12
format_arguments_framed {own = own} ev format vs i (t ∷ ts) h = let ih = λ (y2 : List Tree) (y3 : ℕ). format_arguments_framed {own = own} ev format y2 y3 ts h in search (framing, format_argument_framed, ih) depth 12

pub behind_format_framed : {own : Option (List ℕ)} (ev : Evals) (ts : List Tree) (t : Tree) → FramedEvals own ev → IsFramed {A = (List Tree)} own (behind_format ev ts t)
behind_format_framed ev ts (text format) h = search (framing, format_arguments_framed) depth 12
behind_format_framed ev ts t h = search framing depth 12

pub arguments_on_framed : {own : Option (List ℕ)} (ev : Evals) (b : Builtin) (vs : List Tree) (i : ℕ) (a4 : List Tree) → FramedEvals own ev → IsFramed {A = (List Tree)} own (arguments_on ev b vs i a4)
arguments_on_framed ev b vs i [] h = search framing depth 12
arguments_on_framed {own = own} ev b vs i (t ∷ ts) h = let ih = λ (y2 : List Tree) (y3 : ℕ). arguments_on_framed {own = own} ev b y2 y3 ts h in search (framing, argument_framed, ih) depth 12

pub sprintf_arguments_framed : {own : Option (List ℕ)} (ev : Evals) (a1 : List Tree) → FramedEvals own ev → IsFramed {A = (List Tree)} own (sprintf_arguments ev a1)
sprintf_arguments_framed ev [] h = search framing depth 12
sprintf_arguments_framed ev (t ∷ ts) h = search (framing, argument_framed, behind_format_framed) depth 12

pub arguments_framed : {own : Option (List ℕ)} (ev : Evals) (b : Builtin) (ts : List Tree) → FramedEvals own ev → IsFramed {A = (List Tree)} own (arguments ev b ts)
arguments_framed ev Sprintf ts h = search (framing, sprintf_arguments_framed) depth 12
arguments_framed ev b ts h = search (framing, arguments_on_framed) depth 12

pub answer_set_framed : {own : Option (List ℕ)} (ev : Evals) (b : Builtin) (ts : List Tree) → FramedEvals own ev → IsFramed {A = NumberSet} own (answer_set ev b ts)
answer_set_framed ev (Digest row) (text t ∷ ts) h = search (framing, folded_framed) depth 12
answer_set_framed ev Intval (text t ∷ ts) h = search (framing, folded_framed) depth 12
answer_set_framed ev Intdiv (integer a s ∷ integer b q ∷ ts) h = search (framing, merge_framed) depth 12
answer_set_framed ev b ts h = search framing depth 12

pub builtin_framed : {own : Option (List ℕ)} (ev : Evals) (b : Builtin) (ts : List Tree) → FramedEvals own ev → IsFramed {A = Value} own (builtin ev b ts)
builtin_framed ev b ts h = search (framing, counted_framed, arguments_framed, answer_set_framed) depth 12

pub arguments_of_on_framed : {own : Option (List ℕ)} (ev : Evals) (vs : List Tree) (kinds : List ArgKind) (ts : List Tree) → FramedEvals own ev → IsFramed {A = (List Tree)} own (arguments_of_on ev vs kinds ts)
arguments_of_on_framed {own = own} ev vs (kind ∷ kinds) (t ∷ ts) h = let ih = λ (y1 : List Tree). arguments_of_on_framed {own = own} ev y1 kinds ts h in search (framing, argument_framed, ih) depth 12
arguments_of_on_framed ev vs kinds ts h = search framing depth 12

pub arguments_of_framed : {own : Option (List ℕ)} (ev : Evals) (kinds : List ArgKind) (ts : List Tree) → FramedEvals own ev → IsFramed {A = (List Tree)} own (arguments_of ev kinds ts)
arguments_of_framed ev kinds ts h = search (framing, arguments_of_on_framed) depth 12

pub channel_for_framed : {own : Option (List ℕ)} (name : LabelledText) → IsFramed {A = Channel} own (channel_for name)
channel_for_framed {own = own} name = elim (channel_among nameable (bytes_of name)) as (λ x. IsFramed {A = Channel} own (elim x [ Some c ↦ give c | None ↦ thrown_new ValueError ])) [
  | Some c ↦ search framing depth 12
  | None ↦ search framing depth 12
]

pub object_under_framed : {own : Option (List ℕ)} (class : PreludeClass) (t : Tree) → IsFramed {A = ℕ} own (object_under class t)
object_under_framed class t = search framing depth 12

pub with_policy_framed : {own : Option (List ℕ)} (p : ℕ) (t : Tree) → IsFramed {A = Tree} own (with_policy p t)
with_policy_framed p (integer n s) = search framing depth 12
with_policy_framed p (text t) = search framing depth 12
with_policy_framed p t = search framing depth 12

pub without_policy_framed : {own : Option (List ℕ)} (p : ℕ) (t : Tree) → IsFramed {A = Tree} own (without_policy p t)
without_policy_framed p (integer n s) = search framing depth 12
without_policy_framed p (text t) = search framing depth 12
without_policy_framed p t = search framing depth 12

pub seen_framed : {own : Option (List ℕ)} (p : Prog Value) → IsFramed own p → IsFramed {A = Tree} own (seen p)
seen_framed p h_p = search framing depth 12

pub class_name_framed : {own : Option (List ℕ)} (t : Tree) → IsFramed {A = Tree} own (class_name t)
class_name_framed (object o) = search framing depth 12
class_name_framed t = search framing depth 12

pub structure_framed : {own : Option (List ℕ)} (verdict : (NumberSet → LabelledText → Guard)) (t : LabelledText) (name : LabelledText) → IsFramed {A = Tree} own (structure verdict t name)
structure_framed verdict t name = search framing depth 12

pub state_work_framed : {own : Option (List ℕ)} (f : StateFunction) (ts : List Tree) → IsFramed {A = Tree} own (state_work f ts)
state_work_framed PolicyAdd (v ∷ p ∷ ts) = search (framing, object_under_framed, with_policy_framed) depth 12
state_work_framed PolicyRemove (v ∷ p ∷ ts) = search (framing, object_under_framed, without_policy_framed) depth 12
state_work_framed PolicyGet (v ∷ ts) = search (framing, list_of_objects_framed, seen_framed) depth 12
state_work_framed FilterAdd (text name ∷ f ∷ ts) = search (framing, channel_for_framed, object_under_framed) depth 12
state_work_framed FilterRemove (text name ∷ f ∷ ts) = search (framing, channel_for_framed, object_under_framed) depth 12
state_work_framed FilterFunctionAdd (text name ∷ f ∷ ts) = search (framing, object_under_framed) depth 12
state_work_framed GetClass (o ∷ ts) = search (framing, class_name_framed) depth 12
state_work_framed SqlStructure (text t ∷ text name ∷ ts) = search (framing, structure_framed) depth 12
state_work_framed HtmlStructure (text t ∷ text name ∷ ts) = search (framing, structure_framed) depth 12
state_work_framed f ts = search framing depth 12

pub take_all_framed : {own : Option (List ℕ)} (a0 : List Tree) → IsFramed {A = (Unit {0})} own (take_all a0)
take_all_framed [] = search framing depth 12
take_all_framed {own = own} (t ∷ ts) = let ih = take_all_framed {own = own} ts in search framing depth 12

pub state_function_framed : {own : Option (List ℕ)} (ev : Evals) (f : StateFunction) (ts : List Tree) → FramedEvals own ev → IsFramed {A = Value} own (state_function ev f ts)
state_function_framed ev f ts h = search (framing, counted_framed, arguments_of_framed, state_work_framed, take_all_framed) depth 12
