-- The guards against injection, by what their parts answered.
use Rattle.std.proofs.Common.{◌≡◌, ℕ, ◌+◌, List, [], ◌∷◌, drop, get_or, filter, Bool, true, false, Some, Ok, refl, sym, ap, ◌∙◌}
use Rattle.std.specs.Prelude.{slice_get, if◌then◌else◌}
use Rattle.resin_step_parts.specs.Under.guard.Verdicts.{sql_verdict, html_verdict}
use Rattle.resin_step_parts.specs.Under.guard.declared.judge.Guard.{Guard}
use Rattle.resin_step_parts.specs.Under.label.Sets.{NumberSet, insert, set_of}
use Rattle.resin_step_parts.specs.Under.lstr.Texts.{Text as LabelledText, bytes_of}
use Rattle.resin_step_parts.specs.Under.value.declared.value.Value.{Value}
use Rattle.resin_step_parts.specs.Under.value.declared.value.Value.TheVariants.{Null, Int, Text, Arr, Obj, Bool as Truth}
use Rattle.resin_step_parts.specs.Under.value.Trees.{Tree, boolean, text}
use Rattle.resin_step_parts.specs.Under.value.Seen.{tree_of}
use Rattle.resin_step_parts.specs.Under.heap.declared.prelude.PreludeClass.TheVariants.{ArgumentCountError}
use Rattle.resin_step_parts.specs.Under.machine.State.{State}
use Rattle.resin_step_parts.specs.Under.machine.Steps.{Acts}
use Rattle.resin_step_parts.specs.Under.machine.Objects.{find_class_of}
use Rattle.resin_step_parts.specs.Under.meaning.Programs.{Prog, give, act, ◌>>=◌}
use Rattle.resin_step_parts.specs.Under.meaning.Runs.{world}
use Rattle.resin_step_parts.proofs.meaning_lemmas.Composition.{does_act, does_next, does_give}
use Rattle.resin_step_parts.proofs.Answered.{does_looked}
use Rattle.resin_step_parts.proofs.Pure.{drop_at}
use Rattle.resin_step_parts.specs.Under.meaning_forms.Runs.{Runs}
use Rattle.resin_step_parts.specs.Under.meaning_forms.Parts.{looked, thrown_new}
use Rattle.resin_step_parts.specs.Under.meaning_forms.Functions.{is_pass, marks_under, structure, state_work}
use Rattle.resin_step_parts.specs.Under.meaning_forms.declared.callee.StateFunction.TheVariants.{SqlStructure, HtmlStructure}

-- ---- the policies of a class

abbrev pub chosen : (ℕ → Bool) → List ℕ → NumberSet
chosen test ps = set_of (filter test ps)

-- one more, from the last back
chosen_by : (test : ℕ → Bool) (p : ℕ) (ps : List ℕ) (b : Bool) → test p ≡ b → chosen test (p ∷ ps) ≡ (if b then insert (chosen test ps) p else chosen test ps)
chosen_by test p ps true e = ap (λ x. set_of (if x then p ∷ filter test ps else filter test ps)) e
chosen_by test p ps false e = ap (λ x. set_of (if x then p ∷ filter test ps else filter test ps)) e

pub chosen_more : (test : ℕ → Bool) (ps : List ℕ) (i j p : ℕ) (old new : NumberSet) → j + 1 ≡ i → slice_get ps j ≡ Some p → old ≡ chosen test (drop i ps) → new ≡ (if test p then insert old p else old) → new ≡ chosen test (drop j ps)
chosen_more test ps i j p old new up at made is =
    is ∙ ap (λ (s : NumberSet). if test p then insert s p else s) (made ∙ ap (λ n. chosen test (drop n ps)) (sym up))
    ∙ sym (ap (chosen test) (drop_at ps j p at) ∙ chosen_by test p (drop (j + 1) ps) (test p) refl)

-- ---- what a guard answers

pub guarded : (verdict : NumberSet → LabelledText → Guard) (t name : LabelledText) (m : State) (class : ℕ) (bad : NumberSet) (g : Guard) (b : Bool) → Acts (find_class_of (bytes_of name)) m (Ok class) m
    → bad ≡ marks_under class t m → g ≡ verdict bad t → b ≡ is_pass g → Runs (structure verdict t name) m (Ok (boolean b)) m
guarded verdict t name m class bad g b found is judged pass f u k =
    rw (pass, judged)
    (does_next (act (find_class_of (bytes_of name))) (λ c. looked (marks_under c t) >>= λ s. give (boolean (is_pass (verdict s t)))) (does_act (find_class_of (bytes_of name)) f u k found)
    (does_next (looked (marks_under class t)) (λ s. give (boolean (is_pass (verdict s t)))) (does_looked (marks_under class t) bad m is f u k)
    (does_give (boolean (is_pass (verdict bad t))) (world m f u k))))

-- ---- values of another kind

pub no_query : (w : Tree) (v : Value) → ((t : LabelledText) → v ≡ Text t → ⊥) → ◌≡◌ {A = Prog Tree} (state_work SqlStructure (tree_of v ∷ w ∷ [])) (thrown_new ArgumentCountError)
no_query w Null h = refl
no_query w (Truth b) h = refl
no_query w (Int n s) h = refl
no_query w (Text t) h = absurd (h t refl)
no_query w (Arr a) h = refl
no_query w (Obj o) h = refl

pub no_query_class : (t : LabelledText) (v : Value) → ((t : LabelledText) → v ≡ Text t → ⊥) → ◌≡◌ {A = Prog Tree} (state_work SqlStructure (text t ∷ tree_of v ∷ [])) (thrown_new ArgumentCountError)
no_query_class t Null h = refl
no_query_class t (Truth b) h = refl
no_query_class t (Int n s) h = refl
no_query_class t (Text x) h = absurd (h x refl)
no_query_class t (Arr a) h = refl
no_query_class t (Obj o) h = refl

pub no_page : (w : Tree) (v : Value) → ((t : LabelledText) → v ≡ Text t → ⊥) → ◌≡◌ {A = Prog Tree} (state_work HtmlStructure (tree_of v ∷ w ∷ [])) (thrown_new ArgumentCountError)
no_page w Null h = refl
no_page w (Truth b) h = refl
no_page w (Int n s) h = refl
no_page w (Text t) h = absurd (h t refl)
no_page w (Arr a) h = refl
no_page w (Obj o) h = refl

pub no_page_class : (t : LabelledText) (v : Value) → ((t : LabelledText) → v ≡ Text t → ⊥) → ◌≡◌ {A = Prog Tree} (state_work HtmlStructure (text t ∷ tree_of v ∷ [])) (thrown_new ArgumentCountError)
no_page_class t Null h = refl
no_page_class t (Truth b) h = refl
no_page_class t (Int n s) h = refl
no_page_class t (Text x) h = absurd (h x refl)
no_page_class t (Arr a) h = refl
no_page_class t (Obj o) h = refl
