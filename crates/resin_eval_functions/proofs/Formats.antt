-- The arguments of `sprintf`: a format that is no text, and want of memory before the first argument is read.
use Rattle.std.proofs.Common.{◌≡◌, ℕ, ◌+◌, ◌<◌, List, [], ◌∷◌, length, drop, get_or, Result, Err, inl, refl, ap, IsErrAnd}
use Rattle.resin_eval_merges.specs.Under.lstr.Texts.{Text as LabelledText}
use Rattle.std.specs.Prelude.{◌++◌}
use Rattle.resin_eval_merges.specs.Under.value.Seen.{tree_of, trees_of}
use Rattle.resin_eval_merges.specs.Under.value.Trees.{Tree}
use Rattle.resin_eval_merges.specs.Under.meaning.Programs.{give, ◌>>=◌}
use Rattle.resin_eval_merges.specs.Under.meaning_forms.Functions.{behind_format, format_argument, format_arguments}
use Rattle.resin_eval_merges.specs.Under.value.declared.value.Value.{Value}
use Rattle.resin_eval_merges.specs.Under.value.declared.value.Value.TheVariants.{Null, Bool as Truth, Int, Text, Arr, Obj}
use Rattle.resin_eval_merges.specs.Under.meaning_forms.Parts.{Evals}
use Rattle.std.proofs.lemmas.Result.{err_from_is_err_and}
use Rattle.resin_eval_merges.specs.Under.machine.declared.stop.Stop.{Stop}
use Rattle.resin_eval_merges.specs.Under.machine.declared.stop.Stop.TheVariants.{Memory}
use Rattle.resin_eval_merges.specs.Under.meaning.Runs.{World, Does}
use Rattle.resin_eval_merges.proofs.meaning_lemmas.Composition.{does_unbegun, does_nothing, front}
use Rattle.resin_eval_merges.specs.Under.meaning_forms.Runs.{on_ok}

-- what is no text is no format
pub no_format : (ev : Evals) (ts : List Tree) (v : Value) → ((t : LabelledText) → v ≡ Text t → ⊥) → behind_format ev ts (tree_of v) ≡ give []
no_format ev ts Null isnt = refl
no_format ev ts (Truth b) isnt = refl
no_format ev ts (Int n s) isnt = refl
no_format ev ts (Text t) isnt = absurd (isnt t refl)
no_format ev ts (Arr a) isnt = refl
no_format ev ts (Obj o) isnt = refl

-- the next argument of those that are left
pub next_format : (ev : Evals) (format : LabelledText) (vs : List Tree) (i : ℕ) (args : List Value) (at : ℕ) (v : Value) → at < length args → v ≡ get_or args at v
    → format_arguments ev format vs i (trees_of (drop at args)) ≡ (format_argument ev format i (tree_of v) >>= λ t. format_arguments ev format (vs ++ t ∷ []) (i + 1) (trees_of (drop (at + 1) args)))
next_format ev format vs i args at v left is = ap (λ (xs : List Value). format_arguments ev format vs i (trees_of xs)) (front args at v left is)

unbegun_format : (ev : Evals) (format : LabelledText) (vs : List Tree) (i : ℕ) (ts : List Tree) {u : World} → Does (format_arguments ev format vs i ts) u (Err Memory) u
unbegun_format ev format vs i [] = does_nothing (give vs) (λ failing at. inl refl)
unbegun_format ev format vs i (t ∷ ts) = does_unbegun _ _

-- no memory before the first argument
pub does_unformatted : {C : Type 0} (ev : Evals) (format : LabelledText) (vs : List Tree) (i : ℕ) (ts : List Tree) (g : C → List Tree) {u : World} (r : Result C Stop) → IsErrAnd r (λ e. e ≡ Memory) → Does (format_arguments ev format vs i ts) u (on_ok g r) u
does_unformatted ev format vs i ts g r h = let e = err_from_is_err_and r h in rw (e.1, e.2) (unbegun_format ev format vs i ts)
