-- Entries of an array that are put back, one after the other.
use Rattle.std.proofs.Common.{◌≡◌, ℕ, zero, suc, ◌+◌, List, [], ◌∷◌, drop, Some, Result, Err, refl, ap, subst, IsErrAnd, ◌∙◌, arith}
use Rattle.std.specs.Prelude.{slice_get, IsTrue}
use Rattle.resin_eval_calls.specs.Under.value.declared.key.Key.{Key}
use Rattle.resin_eval_calls.specs.Under.value.declared.value.Value.{Value}
use Rattle.resin_eval_calls.specs.Under.value.declared.value.Value.TheVariants.{Null, Bool as Truth, Int, Text, Arr, Obj}
use Rattle.resin_eval_calls.specs.Under.value.Seen.{tree_of}
use Rattle.resin_eval_calls.specs.Under.value.Trees.{Tree, null, boolean, integer, object}
use Rattle.resin_eval_calls.specs.Under.lstr.Texts.{Text as LabelledText}
use Rattle.resin_eval_calls.specs.Under.value.Arrays.{Array, EntryList, entries_of-row_of}
use Rattle.resin_eval_calls.specs.Under.value.Changes.{AreLawful}
use Rattle.resin_eval_calls.specs.Under.value.Keys.{is_lawful}
use Rattle.resin_eval_calls.specs.Under.machine.declared.stop.Stop.{Stop}
use Rattle.resin_eval_calls.specs.Under.machine.declared.stop.Stop.TheVariants.{Memory}
use Rattle.resin_eval_calls.specs.Under.meaning.Programs.{Prog, give, ◌>>=◌}
use Rattle.resin_eval_calls.specs.Under.meaning.Runs.{World, Does}
use Rattle.resin_eval_calls.specs.Under.meaning_forms.Inputs.{as_tree, filtered_entries, filtered_input, filtered_text, filtered_texts, input_context, key_text}
use Rattle.resin_eval_calls.specs.Under.meaning_forms.Parts.{Evals}
use Rattle.resin_eval_calls.specs.Under.meaning_forms.Runs.{on_ok}
use Rattle.resin_eval_calls.proofs.eval_nested_lemmas.Arms.{does_none}
use Rattle.resin_eval_calls.proofs.meaning_lemmas.Composition.{does_unbegun_exit}
use Rattle.resin_eval_calls.proofs.eval_nested_lemmas.Exits.{does_seen_none, does_seen_unbegun}

-- an entry is the first of those from its place on
pub entry_at : {A : Type 0} (es : List A) (i : ℕ) (e : A) → slice_get es i ≡ Some e → drop i es ≡ e ∷ drop (i + 1) es
entry_at [] zero e h = absurd (cc)
entry_at [] (suc i) e h = absurd (cc)
entry_at (x ∷ xs) zero e h = let k : x ≡ e = cc in ap (λ y. y ∷ xs) k
entry_at (x ∷ xs) (suc i) e h = entry_at xs i e h ∙ ap (λ n. e ∷ drop n (x ∷ xs)) (let s : suc (i + 1) ≡ suc i + 1 = omega arith in s)

-- a key of an array may stand in one
pub lawful_at : (es : EntryList) (i : ℕ) (k : Key) (t : Tree) → AreLawful es → slice_get es i ≡ Some (k, t) → IsTrue (is_lawful k)
lawful_at [] zero k t h e = absurd (cc)
lawful_at [] (suc i) k t h e = absurd (cc)
lawful_at (x ∷ xs) zero k t h e = let g : x ≡ (k, t) = cc in subst (λ (y : Key × Tree). IsTrue (is_lawful y.0)) g h.0
lawful_at (x ∷ xs) (suc i) k t h e = lawful_at xs i k t h.1 e

-- want of memory before the entries of an array
pub unbegun_entries : (filter : Key → Tree → Prog Tree) (es : EntryList) (a : Array) {u : World} (r : Result Array Stop) → IsErrAnd r (λ e. e ≡ Memory) → Does (filtered_entries filter es a) u r u
unbegun_entries filter [] a r h = does_none a r h
unbegun_entries filter (e ∷ es) a r h = does_unbegun_exit _ _ r h

-- want of memory before an input passes its filters
pub unbegun_input : (ev : Evals) (name : List ℕ) (key : Key) (v : Value) (r : Result Value Stop) {u : World} → IsErrAnd r (λ e. e ≡ Memory) → Does (filtered_input ev name key (tree_of v)) u (on_ok tree_of r) u
unbegun_input ev name key Null r h = does_seen_none null tree_of r h
unbegun_input ev name key (Truth b) r h = does_seen_none (boolean b) tree_of r h
unbegun_input ev name key (Int n s) r h = does_seen_none (integer n s) tree_of r h
unbegun_input ev name key (Text t) r h = does_seen_unbegun _ _ tree_of r h
unbegun_input ev name key (Arr a) r h = does_seen_unbegun _ _ tree_of r h
unbegun_input ev name key (Obj o) r h = does_seen_none (object o) tree_of r h

-- the values of an array pass the filters
pub of_array : (ev : Evals) (name : List ℕ) (key : Key) (a : Array) → filtered_input ev name key (tree_of (Arr a)) ≡ (filtered_texts ev (input_context name (key_text key)) a >>= λ b. give (as_tree b))
of_array ev name key a =
    ap (λ es. filtered_texts ev (input_context name (key_text key)) (record { entries = es; largest = a.largest; height = a.height }) >>= λ b. give (as_tree b)) (entries_of-row_of a.entries)

-- a value that is no array passes the filters itself
pub no_array : (ev : Evals) (name : List ℕ) (key : Key) (v : Value) → ((a : Array) → v ≡ Arr a → ⊥) → filtered_input ev name key (tree_of v) ≡ filtered_text ev (input_context name (key_text key)) (tree_of v)
no_array ev name key Null ne = refl
no_array ev name key (Truth b) ne = refl
no_array ev name key (Int n s) ne = refl
no_array ev name key (Text t) ne = refl
no_array ev name key (Arr a) ne = absurd (ne a refl)
no_array ev name key (Obj o) ne = refl

-- a value that is no text stays
pub no_text : (ev : Evals) (context v : Value) → ((t : LabelledText) → v ≡ Text t → ⊥) → filtered_text ev context (tree_of v) ≡ give (tree_of v)
no_text ev context Null ne = refl
no_text ev context (Truth b) ne = refl
no_text ev context (Int n s) ne = refl
no_text ev context (Text t) ne = absurd (ne t refl)
no_text ev context (Arr a) ne = refl
no_text ev context (Obj o) ne = refl
