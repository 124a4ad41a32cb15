-- Functions that mark data and set filters, by what their parts answered.
use Rattle.std.proofs.Common.{◌≡◌, ℕ, zero, suc, ◌+◌, ◌≤◌, List, [], ◌∷◌, length, drop, get_or, map, Bool, true, false, cond, Option, None, Some, Result, Ok, Err, refl, sym, ap, ◌∙◌, arith}
use Rattle.std.specs.Prelude.{ℤ, slice_get, ◌&&◌}
use Rattle.std.specs.List.{list_all}
use Rattle.resin_step_parts.proofs.label_lemmas.Members.{numbers-of_rising, of_rising-nil}
use Rattle.resin_step_parts.specs.Under.label.Sets.{NumberSet, numbers, insert, remove, insert_all, empty}
use Rattle.resin_step_parts.specs.Under.lstr.Texts.{Text as LabelledText, marked, unmarked, bytes_of}
use Rattle.resin_step_parts.specs.Under.scalar.declared.faults.CallStop.{CallStop}
use Rattle.resin_step_parts.specs.Under.scalar.declared.faults.ScriptFault.TheVariants.{BadOperand}
use Rattle.resin_step_parts.specs.Under.value.declared.value.Value.{Value}
use Rattle.resin_step_parts.specs.Under.value.declared.value.Value.TheVariants.{Null, Int, Text, Arr, Obj, Bool as Truth}
use Rattle.resin_step_parts.specs.Under.value.declared.key.Key.{Key}
use Rattle.resin_step_parts.specs.Under.value.Trees.{Tree, null, boolean, integer, text, array, object}
use Rattle.resin_step_parts.specs.Under.value.Arrays.{Array, EntryList}
use Rattle.resin_step_parts.specs.Under.value.Seen.{tree_of, trees_of}
use Rattle.resin_step_parts.specs.Under.array_fn.Filled.{filled, in_order}
use Rattle.resin_step_parts.specs.Under.journal.declared.channel.Channel.{Channel}
use Rattle.resin_step_parts.specs.Under.heap.declared.prelude.PreludeClass.{PreludeClass}
use Rattle.resin_step_parts.specs.Under.heap.declared.prelude.PreludeClass.TheVariants.{ArgumentCountError, ValueError, TypeError, Policy}
use Rattle.resin_step_parts.specs.Under.machine.declared.stop.Stop.{Stop}
use Rattle.resin_step_parts.specs.Under.machine.declared.stop.Stop.TheVariants.{Fault}
use Rattle.resin_step_parts.specs.Under.machine.State.{State}
use Rattle.resin_step_parts.specs.Under.machine.Steps.{Acts, ActsLoosely}
use Rattle.resin_step_parts.specs.Under.machine.Objects.{settled, throw_new}
use Rattle.resin_step_parts.specs.Under.machine.Keeping.{IsInside}
use Rattle.resin_step_parts.specs.Under.machine.Filters.{without_filter}
use Rattle.resin_step_parts.specs.Under.machine.Leaving.{class_name_of}
use Rattle.resin_step_parts.proofs.target_lemmas.machine_taken.{gives_inside}
use Rattle.resin_step_parts.specs.Under.target.Reads.{GivesOrNoMemory}
use Rattle.resin_step_parts.specs.Under.meaning.Programs.{Prog, give}
use Rattle.resin_step_parts.specs.Under.meaning.Runs.{world}
use Rattle.resin_step_parts.proofs.meaning_lemmas.Composition.{does_loosely, does_next, does_stop, does_give}
use Rattle.resin_step_parts.proofs.Answered.{does_computed, does_looked}
use Rattle.resin_step_parts.specs.Under.meaning_forms.Runs.{Runs, on_ok}
use Rattle.resin_step_parts.specs.Under.meaning_forms.Parts.{computed, faulted, looked, thrown_new}
use Rattle.resin_step_parts.specs.Under.meaning_forms.Writes.{plain}
use Rattle.resin_step_parts.specs.Under.meaning_forms.Merges.{is_under, list_of_objects, objects_among, values_in, policies_in, with_answer}
use Rattle.resin_step_parts.specs.Under.meaning_forms.Functions.{nameable, channel_among, channel_for, number_in, policies_of, object_under, with_policy, without_policy, seen, class_name, remove_filter, state_work}
use Rattle.resin_step_parts.specs.Under.meaning_forms.declared.callee.StateFunction.{StateFunction}
use Rattle.resin_step_parts.specs.Under.meaning_forms.declared.callee.StateFunction.TheVariants.{PolicyAdd, PolicyRemove, PolicyGet, FilterAdd, FilterRemove, FilterFunctionAdd, GetClass, SqlStructure, HtmlStructure}
use Rattle.resin_step_parts.proofs.Pure.{drop_at}
use Rattle.resin_step_parts.proofs.Steps.{does_faulted, fault_there, runs_as, thrown_seen}

-- ---- objects under a class

pub under_none : (class : PreludeClass) (t : Tree) (m : State) (b : Bool) (s : Stop) → b ≡ is_under class m t → b ≡ false → s ≡ Fault BadOperand m.line → Runs (object_under class t) m (Err s) m
under_none class t m b s is e fault f u k =
    does_next (looked (λ x. is_under class x t)) (λ fit. cond fit (give (number_in t)) (faulted BadOperand))
    (does_looked (λ x. is_under class x t) false m (sym e ∙ is) f u k)
    (does_faulted BadOperand m s fault f u k)

pub under_one : (class : PreludeClass) (t : Tree) (m : State) (b : Bool) (o : ℕ) → b ≡ is_under class m t → b ≡ true → o ≡ number_in t → Runs (object_under class t) m (Ok o) m
under_one class t m b o is e number f u k =
    rw number
    (does_next (looked (λ x. is_under class x t)) (λ fit. cond fit (give (number_in t)) (faulted BadOperand))
    (does_looked (λ x. is_under class x t) true m (sym e ∙ is) f u k)
    (does_give (number_in t) (world m f u k)))

-- ---- policies of integers and texts

pub integer_marked : (p : ℕ) (n : ℤ) (s s' : NumberSet) (m : State) → s' ≡ insert s p → Runs (with_policy p (integer n s)) m (Ok (integer n s')) m
integer_marked p n s s' m e f u k = rw e (does_give (integer n (insert s p)) (world m f u k))

pub text_marked : (p : ℕ) (t t' : LabelledText) (m : State) → t' ≡ marked p t → Runs (with_policy p (text t)) m (Ok (text t')) m
text_marked p t t' m e f u k = rw e (does_give (text (marked p t)) (world m f u k))

pub integer_unmarked : (p : ℕ) (n : ℤ) (s s' : NumberSet) (m : State) → s' ≡ remove s p → Runs (without_policy p (integer n s)) m (Ok (integer n s')) m
integer_unmarked p n s s' m e f u k = rw e (does_give (integer n (remove s p)) (world m f u k))

pub text_unmarked : (p : ℕ) (t t' : LabelledText) (m : State) → t' ≡ unmarked p t → Runs (without_policy p (text t)) m (Ok (text t')) m
text_unmarked p t t' m e f u k = rw e (does_give (text (unmarked p t)) (world m f u k))

-- ---- lists of policies

pub listed : (os : List ℕ) (given : Result Array CallStop) (m m' : State) (r : Result Array Stop) → GivesOrNoMemory given (filled (in_order (map object os))) → ActsLoosely (settled given) m r m'
    → Runs (seen (list_of_objects os)) m (on_ok (λ a. tree_of (Arr a)) r) m'
listed os given m m' (Ok a) g h f u k =
    does_next (list_of_objects os) (λ v. give (tree_of v))
    (does_next (computed (filled (in_order (map object os)))) (λ x. give (Arr x)) (does_computed given (filled (in_order (map object os))) g h f u k) (does_give (Arr a) (world m' f u k)))
    (does_give (tree_of (Arr a)) (world m' f u k))
listed os given m m' (Err s) g h f u k =
    does_stop (list_of_objects os) (λ v. give (tree_of v))
    (does_stop (computed (filled (in_order (map object os)))) (λ x. give (Arr x)) (does_computed given (filled (in_order (map object os))) g h f u k))

-- ---- channels by their names

abbrev channel_by : Option Channel → Prog Channel
channel_by o = elim o [ Some c ↦ give c | None ↦ thrown_new ValueError ]

pub channel_found : (name : LabelledText) (o : Option Channel) (c : Channel) (m : State) → o ≡ channel_among nameable (bytes_of name) → o ≡ Some c → Runs (channel_for name) m (Ok c) m
channel_found name o c m is e = runs_as (channel_for name) (give c) m (Ok c) m (ap channel_by (sym is ∙ e)) (λ f u k. does_give c (world m f u k))

pub channel_missing : (name : LabelledText) (o : Option Channel) (m : State) (r : Result Channel Stop) (m' : State) → o ≡ channel_among nameable (bytes_of name) → o ≡ None → ActsLoosely (throw_new ValueError []) m r m' → Runs (channel_for name) m r m'
channel_missing name o m r m' is e h = runs_as (channel_for name) (thrown_new ValueError) m r m' (ap channel_by (sym is ∙ e)) (λ f u k. does_loosely (throw_new ValueError []) f u k h)

-- ---- filters

pub filter_removed : (c : Channel) (o : ℕ) (m m' : State) → m' ≡ without_filter c o m → IsInside m m' → Acts (remove_filter c o) m (Ok tt) m'
filter_removed c o m m' e i = gives_inside (remove_filter c o) m tt m' (λ j. (Ok tt, sym e j)) i

-- ---- classes

pub class_told : (o : ℕ) (m : State) (name : List ℕ) (t : LabelledText) → name ≡ class_name_of o m → t ≡ plain name → Runs (class_name (object o)) m (Ok (text t)) m
class_told o m name t is e f u k =
    rw e
    (does_next (looked (class_name_of o)) (λ n. give (text (plain n)))
    (does_looked (class_name_of o) name m is f u k)
    (does_give (text (plain name)) (world m f u k)))

-- ---- arguments

-- further arguments don't matter
pub two_matter : (v w : Tree) (ts : List Tree) → ◌≡◌ {A = Prog Tree} (state_work FilterAdd (v ∷ w ∷ ts)) (state_work FilterAdd (v ∷ w ∷ []))
two_matter null w ts = refl
two_matter (boolean b) w ts = refl
two_matter (integer n s) w ts = refl
two_matter (text t) w ts = refl
two_matter (array r l h) w ts = refl
two_matter (object o) w ts = refl

-- ---- what a policy answered

number_told : (m : State) (t : Tree) → is_under Policy m t ≡ true → t ≡ object (number_in t)
number_told m (object o) e = refl
number_told m null e = absurd (no e)
  where
    no : false ≡ true → ⊥
    no x = cc
number_told m (boolean b) e = absurd (no e)
  where
    no : false ≡ true → ⊥
    no x = cc
number_told m (integer n s) e = absurd (no e)
  where
    no : false ≡ true → ⊥
    no x = cc
number_told m (text t) e = absurd (no e)
  where
    no : false ≡ true → ⊥
    no x = cc
number_told m (array r l h) e = absurd (no e)
  where
    no : false ≡ true → ⊥
    no x = cc

objects_more : (m : State) (t : Tree) (ts : List Tree) → is_under Policy m t ≡ true → objects_among (t ∷ ts) ≡ number_in t ∷ objects_among ts
objects_more m t ts e = ap (λ x. objects_among (x ∷ ts)) (number_told m t e)

values_at : (es : EntryList) (i : ℕ) (k : Key) (t : Tree) → slice_get es i ≡ Some (k, t) → map (λ e. e.1) (drop i es) ≡ t ∷ map (λ e. e.1) (drop (i + 1) es)
values_at es i k t at = ap (λ ds. map (λ e. e.1) ds) (drop_at es i (k, t) at)

-- one more value, from the last one back, is a policy
pub policy_more : (es : EntryList) (i j : ℕ) (k : Key) (t : Tree) (m : State) (b : Bool) → j + 1 ≡ i → slice_get es j ≡ Some (k, t) → b ≡ is_under Policy m t → b ≡ true
    → list_all (is_under Policy m) (map (λ e. e.1) (drop i es)) ≡ true → list_all (is_under Policy m) (map (λ e. e.1) (drop j es)) ≡ true
policy_more es i j k t m b up at is e h =
    ap (list_all (is_under Policy m)) (values_at es j k t at)
    ∙ (ap (λ x. x && list_all (is_under Policy m) (map (λ e. e.1) (drop (j + 1) es))) (sym is ∙ e)
    ∙ (ap (λ n. list_all (is_under Policy m) (map (λ e. e.1) (drop n es))) up ∙ h))

pub carried_more : (es : EntryList) (i j : ℕ) (k : Key) (t : Tree) (m : State) (b : Bool) (so_far out out' : NumberSet) (o : ℕ) → j + 1 ≡ i → slice_get es j ≡ Some (k, t) → b ≡ is_under Policy m t → b ≡ true
    → o ≡ number_in t → out' ≡ insert out o → out ≡ insert_all so_far (objects_among (map (λ e. e.1) (drop i es))) → out' ≡ insert_all so_far (objects_among (map (λ e. e.1) (drop j es)))
carried_more es i j k t m b so_far out out' o up at is e number new h =
    new
    ∙ ((λ l. insert (h l) (number l))
    ∙ sym (ap (λ ts. insert_all so_far (objects_among ts)) (values_at es j k t at)
    ∙ (ap (insert_all so_far) (objects_more m t (map (λ e. e.1) (drop (j + 1) es)) (sym is ∙ e))
    ∙ ap (λ n. insert (insert_all so_far (objects_among (map (λ e. e.1) (drop n es)))) (number_in t)) up)))

-- one value that is no policy spoils the answer
spoiled : (p : Tree → Bool) (es : EntryList) (i : ℕ) (k : Key) (t : Tree) → slice_get es i ≡ Some (k, t) → p t ≡ false → list_all p (map (λ e. e.1) es) ≡ false
spoiled p [] i k t at e = absurd (no at)
  where
    no : ◌≡◌ {A = Option (Key × Tree)} None (Some (k, t)) → ⊥
    no x = cc
spoiled p (d ∷ es) zero k t at e = ap (λ x. p x && list_all p (map (λ e. e.1) es)) same ∙ ap (λ x. x && list_all p (map (λ e. e.1) es)) e
  where
    same : d.1 ≡ t
    same = ap (λ x. x.1) (one d (k, t) at)
      where
        one : (x y : Key × Tree) → ◌≡◌ {A = Option (Key × Tree)} (Some x) (Some y) → x ≡ y
        one x y h = cc
spoiled p (d ∷ es) (suc i) k t at e = by (p d.1) (spoiled p es i k t at e)
  where
    by : (b : Bool) → list_all p (map (λ e. e.1) es) ≡ false → b && list_all p (map (λ e. e.1) es) ≡ false
    by true h = h
    by false h = refl

pub answer_spoiled : (so_far : NumberSet) (a : Array) (i : ℕ) (k : Key) (t : Tree) (m : State) (b : Bool) (s : Stop) → slice_get a.entries i ≡ Some (k, t) → b ≡ is_under Policy m t → b ≡ false → s ≡ Fault BadOperand m.line
    → Runs (with_answer so_far (Arr a)) m (Err s) m
answer_spoiled so_far a i k t m b s at is e fault f u c =
    does_stop (policies_in (Arr a)) (λ ps. give (insert_all so_far ps))
    (does_next (looked (λ x. list_all (is_under Policy x) (values_in a))) (λ fit. cond fit (give (objects_among (values_in a))) (faulted BadOperand))
    (does_looked (λ x. list_all (is_under Policy x) (values_in a)) false m (sym (spoiled (is_under Policy m) a.entries i k t at (sym is ∙ e))) f u c)
    (does_faulted BadOperand m s fault f u c))

pub answer_kept : (so_far out : NumberSet) (a : Array) (i : ℕ) (m : State) → i ≡ 0 → list_all (is_under Policy m) (map (λ e. e.1) (drop i a.entries)) ≡ true → out ≡ insert_all so_far (objects_among (map (λ e. e.1) (drop i a.entries)))
    → Runs (with_answer so_far (Arr a)) m (Ok out) m
answer_kept so_far out a i m none fit made f u c =
    let all : list_all (is_under Policy m) (values_in a) ≡ true = sym (ap (λ n. list_all (is_under Policy m) (map (λ e. e.1) (drop n a.entries))) none) ∙ fit in
    let is : out ≡ insert_all so_far (objects_among (values_in a)) = made ∙ ap (λ n. insert_all so_far (objects_among (map (λ e. e.1) (drop n a.entries)))) none in
    rw is
    (does_next (policies_in (Arr a)) (λ ps. give (insert_all so_far ps))
    (does_next (looked (λ x. list_all (is_under Policy x) (values_in a))) (λ fit. cond fit (give (objects_among (values_in a))) (faulted BadOperand))
    (does_looked (λ x. list_all (is_under Policy x) (values_in a)) true m (sym all) f u c)
    (does_give (objects_among (values_in a)) (world m f u c)))
    (does_give (insert_all so_far (objects_among (values_in a))) (world m f u c)))

-- ---- values of another kind

pub no_name_add : (w : Tree) (v : Value) → ((t : LabelledText) → v ≡ Text t → ⊥) → ◌≡◌ {A = Prog Tree} (state_work FilterAdd (tree_of v ∷ w ∷ [])) (thrown_new ArgumentCountError)
no_name_add w Null h = refl
no_name_add w (Truth b) h = refl
no_name_add w (Int n s) h = refl
no_name_add w (Text t) h = absurd (h t refl)
no_name_add w (Arr a) h = refl
no_name_add w (Obj o) h = refl

pub no_name_remove : (w : Tree) (v : Value) → ((t : LabelledText) → v ≡ Text t → ⊥) → ◌≡◌ {A = Prog Tree} (state_work FilterRemove (tree_of v ∷ w ∷ [])) (thrown_new ArgumentCountError)
no_name_remove w Null h = refl
no_name_remove w (Truth b) h = refl
no_name_remove w (Int n s) h = refl
no_name_remove w (Text t) h = absurd (h t refl)
no_name_remove w (Arr a) h = refl
no_name_remove w (Obj o) h = refl

pub no_name_function : (w : Tree) (v : Value) → ((t : LabelledText) → v ≡ Text t → ⊥) → ◌≡◌ {A = Prog Tree} (state_work FilterFunctionAdd (tree_of v ∷ w ∷ [])) (thrown_new ArgumentCountError)
no_name_function w Null h = refl
no_name_function w (Truth b) h = refl
no_name_function w (Int n s) h = refl
no_name_function w (Text t) h = absurd (h t refl)
no_name_function w (Arr a) h = refl
no_name_function w (Obj o) h = refl

pub no_class : (v : Value) → ((o : ℕ) → v ≡ Obj o → ⊥) → ◌≡◌ {A = Prog Tree} (class_name (tree_of v)) (thrown_new TypeError)
no_class Null h = refl
no_class (Truth b) h = refl
no_class (Int n s) h = refl
no_class (Text t) h = refl
no_class (Arr a) h = refl
no_class (Obj o) h = absurd (h o refl)

pub none_to_mark : (p : ℕ) (v : Value) → ((n : ℤ) (s : NumberSet) → v ≡ Int n s → ⊥) → ((t : LabelledText) → v ≡ Text t → ⊥) → ◌≡◌ {A = Prog Tree} (with_policy p (tree_of v)) (faulted BadOperand)
none_to_mark p Null h j = refl
none_to_mark p (Truth b) h j = refl
none_to_mark p (Int n s) h j = absurd (h n s refl)
none_to_mark p (Text t) h j = absurd (j t refl)
none_to_mark p (Arr a) h j = refl
none_to_mark p (Obj o) h j = refl

pub none_to_unmark : (p : ℕ) (v : Value) → ((n : ℤ) (s : NumberSet) → v ≡ Int n s → ⊥) → ((t : LabelledText) → v ≡ Text t → ⊥) → ◌≡◌ {A = Prog Tree} (without_policy p (tree_of v)) (faulted BadOperand)
none_to_unmark p Null h j = refl
none_to_unmark p (Truth b) h j = refl
none_to_unmark p (Int n s) h j = absurd (h n s refl)
none_to_unmark p (Text t) h j = absurd (j t refl)
none_to_unmark p (Arr a) h j = refl
none_to_unmark p (Obj o) h j = refl

pub no_answer : (v : Value) → ((a : Array) → v ≡ Arr a → ⊥) → ◌≡◌ {A = Prog (List ℕ)} (policies_in v) (faulted BadOperand)
no_answer Null h = refl
no_answer (Truth b) h = refl
no_answer (Int n s) h = refl
no_answer (Text t) h = refl
no_answer (Arr a) h = absurd (h a refl)
no_answer (Obj o) h = refl

pub answer_refused : (so_far : NumberSet) (v : Value) (m : State) (s : Stop) → ((a : Array) → v ≡ Arr a → ⊥) → s ≡ Fault BadOperand m.line → Runs (with_answer so_far v) m (Err s) m
answer_refused so_far v m s h fault f u k = does_stop (policies_in v) (λ ps. give (insert_all so_far ps)) (fault_there (policies_in v) m s (no_answer v h) fault f u k)

-- a throw in place of a program that is one
pub throw_there : (p : Prog Tree) (class : PreludeClass) (m : State) (r : Result Value Stop) (m' : State) → p ≡ thrown_new class → ActsLoosely (throw_new {A = Value} class []) m r m' → Runs p m (on_ok tree_of r) m'
throw_there p class m r m' e h = runs_as p (thrown_new class) m (on_ok tree_of r) m' e (thrown_seen tree_of class m r m' h)

-- ---- values that carry nothing

pub no_numbers : numbers empty ≡ []
no_numbers = ap numbers (sym of_rising-nil) ∙ numbers-of_rising [] tt

pub none_carried : (v : Value) → ((n : ℤ) (s : NumberSet) → v ≡ Int n s → ⊥) → ((t : LabelledText) → v ≡ Text t → ⊥) → policies_of (tree_of v) ≡ []
none_carried Null h j = refl
none_carried (Truth b) h j = refl
none_carried (Int n s) h j = absurd (h n s refl)
none_carried (Text t) h j = absurd (j t refl)
none_carried (Arr a) h j = refl
none_carried (Obj o) h j = refl

-- ---- how many arguments there are

added_alone : (t : Tree) → ◌≡◌ {A = Prog Tree} (state_work FilterAdd (t ∷ [])) (thrown_new ArgumentCountError)
added_alone null = refl
added_alone (boolean b) = refl
added_alone (integer n s) = refl
added_alone (text t) = refl
added_alone (array r l h) = refl
added_alone (object o) = refl

removed_alone : (t : Tree) → ◌≡◌ {A = Prog Tree} (state_work FilterRemove (t ∷ [])) (thrown_new ArgumentCountError)
removed_alone null = refl
removed_alone (boolean b) = refl
removed_alone (integer n s) = refl
removed_alone (text t) = refl
removed_alone (array r l h) = refl
removed_alone (object o) = refl

function_alone : (t : Tree) → ◌≡◌ {A = Prog Tree} (state_work FilterFunctionAdd (t ∷ [])) (thrown_new ArgumentCountError)
function_alone null = refl
function_alone (boolean b) = refl
function_alone (integer n s) = refl
function_alone (text t) = refl
function_alone (array r l h) = refl
function_alone (object o) = refl

query_alone : (t : Tree) → ◌≡◌ {A = Prog Tree} (state_work SqlStructure (t ∷ [])) (thrown_new ArgumentCountError)
query_alone null = refl
query_alone (boolean b) = refl
query_alone (integer n s) = refl
query_alone (text t) = refl
query_alone (array r l h) = refl
query_alone (object o) = refl

page_alone : (t : Tree) → ◌≡◌ {A = Prog Tree} (state_work HtmlStructure (t ∷ [])) (thrown_new ArgumentCountError)
page_alone null = refl
page_alone (boolean b) = refl
page_alone (integer n s) = refl
page_alone (text t) = refl
page_alone (array r l h) = refl
page_alone (object o) = refl

-- one argument is too few
pub one_missing : (f : StateFunction) (t : Tree) → (f ≡ PolicyGet → ⊥) → (f ≡ GetClass → ⊥) → ◌≡◌ {A = Prog Tree} (state_work f (t ∷ [])) (thrown_new ArgumentCountError)
one_missing PolicyAdd t h j = refl
one_missing PolicyRemove t h j = refl
one_missing PolicyGet t h j = absurd (h refl)
one_missing FilterAdd t h j = added_alone t
one_missing FilterRemove t h j = removed_alone t
one_missing FilterFunctionAdd t h j = function_alone t
one_missing GetClass t h j = absurd (j refl)
one_missing SqlStructure t h j = query_alone t
one_missing HtmlStructure t h j = page_alone t

removed_enough : (v w : Tree) (ts : List Tree) → ◌≡◌ {A = Prog Tree} (state_work FilterRemove (v ∷ w ∷ ts)) (state_work FilterRemove (v ∷ w ∷ []))
removed_enough null w ts = refl
removed_enough (boolean b) w ts = refl
removed_enough (integer n s) w ts = refl
removed_enough (text t) w ts = refl
removed_enough (array r l h) w ts = refl
removed_enough (object o) w ts = refl

function_enough : (v w : Tree) (ts : List Tree) → ◌≡◌ {A = Prog Tree} (state_work FilterFunctionAdd (v ∷ w ∷ ts)) (state_work FilterFunctionAdd (v ∷ w ∷ []))
function_enough null w ts = refl
function_enough (boolean b) w ts = refl
function_enough (integer n s) w ts = refl
function_enough (text t) w ts = refl
function_enough (array r l h) w ts = refl
function_enough (object o) w ts = refl

query_text_enough : (t : LabelledText) (w : Tree) (ts : List Tree) → ◌≡◌ {A = Prog Tree} (state_work SqlStructure (text t ∷ w ∷ ts)) (state_work SqlStructure (text t ∷ w ∷ []))
query_text_enough t null ts = refl
query_text_enough t (boolean b) ts = refl
query_text_enough t (integer n s) ts = refl
query_text_enough t (text x) ts = refl
query_text_enough t (array r l h) ts = refl
query_text_enough t (object o) ts = refl

query_enough : (v w : Tree) (ts : List Tree) → ◌≡◌ {A = Prog Tree} (state_work SqlStructure (v ∷ w ∷ ts)) (state_work SqlStructure (v ∷ w ∷ []))
query_enough null w ts = refl
query_enough (boolean b) w ts = refl
query_enough (integer n s) w ts = refl
query_enough (text t) w ts = query_text_enough t w ts
query_enough (array r l h) w ts = refl
query_enough (object o) w ts = refl

page_text_enough : (t : LabelledText) (w : Tree) (ts : List Tree) → ◌≡◌ {A = Prog Tree} (state_work HtmlStructure (text t ∷ w ∷ ts)) (state_work HtmlStructure (text t ∷ w ∷ []))
page_text_enough t null ts = refl
page_text_enough t (boolean b) ts = refl
page_text_enough t (integer n s) ts = refl
page_text_enough t (text x) ts = refl
page_text_enough t (array r l h) ts = refl
page_text_enough t (object o) ts = refl

page_enough : (v w : Tree) (ts : List Tree) → ◌≡◌ {A = Prog Tree} (state_work HtmlStructure (v ∷ w ∷ ts)) (state_work HtmlStructure (v ∷ w ∷ []))
page_enough null w ts = refl
page_enough (boolean b) w ts = refl
page_enough (integer n s) w ts = refl
page_enough (text t) w ts = page_text_enough t w ts
page_enough (array r l h) w ts = refl
page_enough (object o) w ts = refl

two_enough : (f : StateFunction) (v w : Tree) (ts : List Tree) → ◌≡◌ {A = Prog Tree} (state_work f (v ∷ w ∷ ts)) (state_work f (v ∷ w ∷ []))
two_enough PolicyAdd v w ts = refl
two_enough PolicyRemove v w ts = refl
two_enough PolicyGet v w ts = refl
two_enough FilterAdd v w ts = two_matter v w ts
two_enough FilterRemove v w ts = removed_enough v w ts
two_enough FilterFunctionAdd v w ts = function_enough v w ts
two_enough GetClass v w ts = refl
two_enough SqlStructure v w ts = query_enough v w ts
two_enough HtmlStructure v w ts = page_enough v w ts

pub no_arguments : (f : StateFunction) (vs : List Value) → length vs ≡ 0 → ◌≡◌ {A = Prog Tree} (state_work f (trees_of vs)) (thrown_new ArgumentCountError)
no_arguments PolicyAdd [] h = refl
no_arguments PolicyRemove [] h = refl
no_arguments PolicyGet [] h = refl
no_arguments FilterAdd [] h = refl
no_arguments FilterRemove [] h = refl
no_arguments FilterFunctionAdd [] h = refl
no_arguments GetClass [] h = refl
no_arguments SqlStructure [] h = refl
no_arguments HtmlStructure [] h = refl
no_arguments f (v ∷ vs) h = absurd (omega (arith, h))

pub one_argument : (f : StateFunction) (vs : List Value) (v : Value) → length vs ≡ 1 → v ≡ get_or vs 0 v → ◌≡◌ {A = Prog Tree} (state_work f (trees_of vs)) (state_work f (tree_of v ∷ []))
one_argument f [] v h is = absurd (omega (arith, h))
one_argument f (x ∷ []) v h is = ap (λ y. state_work f (tree_of y ∷ [])) (sym is)
one_argument f (x ∷ w ∷ vs) v h is = absurd (omega (arith, h))

pub two_arguments : (f : StateFunction) (vs : List Value) (v w : Value) → 2 ≤ length vs → v ≡ get_or vs 0 v → w ≡ get_or vs 1 w → ◌≡◌ {A = Prog Tree} (state_work f (trees_of vs)) (state_work f (tree_of v ∷ tree_of w ∷ []))
two_arguments f [] v w h is also = absurd (omega (arith, h))
two_arguments f (x ∷ []) v w h is also = absurd (omega (arith, h))
two_arguments f (x ∷ y ∷ vs) v w h is also =
    two_enough f (tree_of x) (tree_of y) (trees_of vs)
    ∙ (ap (λ z. state_work f (tree_of z ∷ tree_of y ∷ [])) (sym is)
    ∙ ap (λ z. state_work f (tree_of v ∷ tree_of z ∷ [])) (sym also))
