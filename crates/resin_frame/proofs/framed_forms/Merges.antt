-- The programs of Merges are framed.
use Rattle.std.specs.Prelude.{Option}
use Rattle.std.specs.Prelude.{ℕ, List, [], ◌∷◌, map, Bool, true, false, ◌&&◌, if◌then◌else◌, codes}
use Rattle.std.specs.List.{list_all}
use Rattle.resin_meaning_forms.specs.Under.label.Sets.{NumberSet, empty, numbers, insert_all}
use Rattle.resin_meaning_forms.specs.Under.lstr.Texts.{Text as LabelledText, distinct_sets}
use Rattle.resin_meaning_forms.specs.Under.scalar.declared.faults.ScriptFault.TheVariants.{BadOperand}
use Rattle.resin_meaning_forms.specs.Under.value.declared.value.Value.{Value}
use Rattle.resin_meaning_forms.specs.Under.value.declared.value.Value.TheVariants.{Arr}
use Rattle.resin_meaning_forms.specs.Under.value.Trees.{Tree, object}
use Rattle.resin_meaning_forms.specs.Under.value.Arrays.{Array}
use Rattle.resin_meaning_forms.specs.Under.array_fn.Filled.{filled, in_order}
use Rattle.resin_meaning_forms.specs.Under.heap.Classes.{is_a}
use Rattle.resin_meaning_forms.specs.Under.heap.Objects.{class_at}
use Rattle.resin_meaning_forms.specs.Under.heap.Prelude.{number_of}
use Rattle.resin_meaning_forms.specs.Under.heap.declared.prelude.PreludeClass.{PreludeClass}
use Rattle.resin_meaning_forms.specs.Under.heap.declared.prelude.PreludeClass.TheVariants.{Policy}
use Rattle.resin_meaning_forms.specs.Under.machine.State.{State}
use Rattle.resin_meaning_forms.specs.Under.machine.Objects.{is_object}
use Rattle.resin_meaning_forms.specs.Under.meaning.Programs.{Prog, give, quietly, ◌>>=◌}
use Rattle.resin_meaning_forms.specs.Parts.{Evals, computed, faulted, looked}
use Rattle.resin_meaning_forms.specs.Invoke.{call_object}
use Rattle.resin_meaning_forms.specs.Merges.{is_under, list_of, list_of_objects, objects_among, values_in, policies_in, ask_merge, with_answer, ask_merges, no_policies, merge_lists, merge, fold_on, fold_sets, folded}
use Rattle.resin_frame.specs.Frames.{IsFramed}
use Rattle.resin_frame.proofs.Frames.{FramedEvals, framing}
use Rattle.resin_frame.proofs.framed_forms.Invoke.{call_object_framed}

pub list_of_framed : {own : Option (List ℕ)} (ts : List Tree) → IsFramed {A = Value} own (list_of ts)
list_of_framed ts = search framing depth 12

pub list_of_objects_framed : {own : Option (List ℕ)} (os : List ℕ) → IsFramed {A = Value} own (list_of_objects os)
list_of_objects_framed os = search (framing, list_of_framed) depth 12

pub policies_in_framed : {own : Option (List ℕ)} (v : Value) → IsFramed {A = (List ℕ)} own (policies_in v)
policies_in_framed (Arr a) = search framing depth 12
policies_in_framed v = search framing depth 12

pub ask_merge_framed : {own : Option (List ℕ)} (ev : Evals) (others : List ℕ) (p : ℕ) → FramedEvals own ev → IsFramed {A = Value} own (ask_merge ev others p)
ask_merge_framed ev others p h = search (framing, call_object_framed, list_of_objects_framed) depth 12

pub with_answer_framed : {own : Option (List ℕ)} (so_far : NumberSet) (answer : Value) → IsFramed {A = NumberSet} own (with_answer so_far answer)
with_answer_framed so_far answer = search (framing, policies_in_framed) depth 12

pub ask_merges_framed : {own : Option (List ℕ)} (ev : Evals) (others : List ℕ) (a2 : List ℕ) (so_far : NumberSet) → FramedEvals own ev → IsFramed {A = NumberSet} own (ask_merges ev others a2 so_far)
ask_merges_framed ev others [] so_far h = search framing depth 12
ask_merges_framed {own = own} ev others (p ∷ ps) so_far h = let ih = λ (y3 : NumberSet). ask_merges_framed {own = own} ev others ps y3 h in search (framing, ask_merge_framed, with_answer_framed, ih) depth 12

pub merge_lists_framed : {own : Option (List ℕ)} (ev : Evals) (a : List ℕ) (b : List ℕ) → FramedEvals own ev → IsFramed {A = NumberSet} own (merge_lists ev a b)
merge_lists_framed ev a b h = search (framing, ask_merges_framed) depth 12

pub merge_framed : {own : Option (List ℕ)} (ev : Evals) (a : NumberSet) (b : NumberSet) → FramedEvals own ev → IsFramed {A = NumberSet} own (merge ev a b)
merge_framed ev a b h = search (framing, merge_lists_framed) depth 12

pub fold_on_framed : {own : Option (List ℕ)} (ev : Evals) (so_far : NumberSet) (a2 : List NumberSet) → FramedEvals own ev → IsFramed {A = NumberSet} own (fold_on ev so_far a2)
fold_on_framed ev so_far [] h = search framing depth 12
fold_on_framed {own = own} ev so_far (s ∷ ss) h = let ih = λ (y1 : NumberSet). fold_on_framed {own = own} ev y1 ss h in search (framing, merge_framed, ih) depth 12

pub fold_sets_framed : {own : Option (List ℕ)} (ev : Evals) (a1 : List NumberSet) → FramedEvals own ev → IsFramed {A = NumberSet} own (fold_sets ev a1)
fold_sets_framed ev [] h = search framing depth 12
fold_sets_framed ev (s ∷ ss) h = search (framing, fold_on_framed) depth 12

pub folded_framed : {own : Option (List ℕ)} (ev : Evals) (t : LabelledText) → FramedEvals own ev → IsFramed {A = NumberSet} own (folded ev t)
folded_framed ev t h = search (framing, fold_sets_framed) depth 12
