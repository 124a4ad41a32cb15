-- Merges: what values carry that are computed from several (RESIN's merge method in outline; the order of the calls is this project's own).
use Rattle.std.specs.Prelude.{ℕ, List, [], ◌∷◌, map, Bool, true, false, ◌&&◌, if◌then◌else◌, codes}
use Rattle.std.specs.List.{list_all}
use Rattle.resin_builtin.specs.Under.label.Sets.{NumberSet, empty, numbers, insert_all}
use Rattle.resin_builtin.specs.Under.lstr.Texts.{Text as LabelledText, distinct_sets}
use Rattle.resin_builtin.specs.Under.scalar.declared.faults.ScriptFault.TheVariants.{BadOperand}
use Rattle.resin_builtin.specs.Under.value.declared.value.Value.{Value}
use Rattle.resin_builtin.specs.Under.value.declared.value.Value.TheVariants.{Arr}
use Rattle.resin_builtin.specs.Under.value.Trees.{Tree, object}
use Rattle.resin_builtin.specs.Under.value.Arrays.{Array}
use Rattle.resin_builtin.specs.Under.array_fn.Filled.{filled, in_order}
use Rattle.resin_target.specs.Under.heap.Classes.{is_a}
use Rattle.resin_target.specs.Under.heap.Objects.{class_at}
use Rattle.resin_target.specs.Under.heap.Prelude.{number_of}
use Rattle.resin_target.specs.Under.heap.declared.prelude.PreludeClass.{PreludeClass}
use Rattle.resin_target.specs.Under.heap.declared.prelude.PreludeClass.TheVariants.{Policy}
use Rattle.resin_target.specs.Under.machine.State.{State}
use Rattle.resin_target.specs.Under.machine.Objects.{is_object}
use Rattle.resin_meaning_tables.specs.Under.meaning.Programs.{Prog, give, quietly, ◌>>=◌}
use Rattle.resin_meaning_forms.specs.Parts.{Evals, computed, faulted, looked}
use Rattle.resin_meaning_forms.specs.Invoke.{call_object}

-- an object of the class of a number, or of one under it
abbrev pub is_of_class : ℕ → State → ℕ → Bool
is_of_class class m o = is_object m.heap o && is_a m.classes (class_at m.heap o) class

-- a value is an object of the class, or of one under it
abbrev pub is_under : PreludeClass → State → Tree → Bool
is_under class m (object o) = is_of_class (number_of class) m o
is_under class m t = false

-- the list of some values
abbrev pub list_of : List Tree → Prog Value
list_of ts = do
  a ← computed (filled (in_order ts))
  give (Arr a)

-- the list of some objects
abbrev pub list_of_objects : List ℕ → Prog Value
list_of_objects os = list_of (map object os)

-- the numbers of the objects among some values
abbrev pub objects_among : List Tree → List ℕ
objects_among [] = []
objects_among (object o ∷ ts) = o ∷ objects_among ts
objects_among (t ∷ ts) = objects_among ts

abbrev pub values_in : Array → List Tree
values_in a = map (λ e. e.1) a.entries

-- the policies that a policy answered: an array of policies, and nothing else in it
abbrev pub policies_in : Value → Prog (List ℕ)
policies_in (Arr a) = do
  fit ← looked (λ m. list_all (is_under Policy m) (values_in a))
  if fit then give (objects_among (values_in a)) else faulted BadOperand
policies_in v = faulted BadOperand

-- a policy is asked what is carried where it meets others
abbrev pub ask_merge : Evals → List ℕ → ℕ → Prog Value
ask_merge ev others p = list_of_objects others >>= λ set. quietly (call_object ev p (codes "merge") (set ∷ []))

-- the policies of an answer are added to what is carried so far
abbrev pub with_answer : NumberSet → Value → Prog NumberSet
with_answer so_far answer = policies_in answer >>= λ ps. give (insert_all so_far ps)

-- each of some policies is asked, one after the other
abbrev pub ask_merges : Evals → List ℕ → List ℕ → NumberSet → Prog NumberSet
ask_merges ev others [] so_far = give so_far
ask_merges ev others (p ∷ ps) so_far = do
  answer ← ask_merge ev others p
  carried ← with_answer so_far answer
  ask_merges ev others ps carried

abbrev pub no_policies : List ℕ → Bool
no_policies [] = true
no_policies (p ∷ ps) = false

-- what is carried by a value that is computed from two: nothing where neither carries any; else what each policy of the first answers about those of
-- the second, and each of the second about those of the first
abbrev pub merge_lists : Evals → List ℕ → List ℕ → Prog NumberSet
merge_lists ev a b =
    if no_policies a && no_policies b
    then give empty
    else (ask_merges ev b a empty >>= ask_merges ev a b)

abbrev pub merge : Evals → NumberSet → NumberSet → Prog NumberSet
merge ev a b = merge_lists ev (numbers a) (numbers b)

-- several sets as one, from the left; a single set makes no call
abbrev pub fold_on : Evals → NumberSet → List NumberSet → Prog NumberSet
fold_on ev so_far [] = give so_far
fold_on ev so_far (s ∷ ss) = do
  both ← merge ev so_far s
  fold_on ev both ss

abbrev pub fold_sets : Evals → List NumberSet → Prog NumberSet
fold_sets ev [] = give empty
fold_sets ev (s ∷ ss) = fold_on ev s ss

-- what a text carries that is read as one value: its distinct sets, in the order in which they first occur
abbrev pub folded : Evals → LabelledText → Prog NumberSet
folded ev t = fold_sets ev (distinct_sets t)
