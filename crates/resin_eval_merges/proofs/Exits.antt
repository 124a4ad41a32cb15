-- Exits of functions whose end is seen otherwise, and want of memory before a program begins.
use Rattle.std.proofs.Common.{◌≡◌, List, [], ◌∷◌, Result, Err, inl, refl, IsErrAnd}
use Rattle.std.proofs.lemmas.Result.{err_from_is_err_and}
use Rattle.resin_eval_nested.specs.Under.label.Sets.{NumberSet, empty as no_labels}
use Rattle.resin_eval_nested.specs.Under.machine.declared.stop.Stop.{Stop}
use Rattle.resin_eval_nested.specs.Under.machine.declared.stop.Stop.TheVariants.{Memory}
use Rattle.resin_eval_nested.specs.Under.meaning.Programs.{give}
use Rattle.resin_eval_nested.specs.Under.meaning.Runs.{World, Does}
use Rattle.resin_eval_nested.proofs.meaning_lemmas.Composition.{does_unbegun, does_nothing}
use Rattle.resin_eval_nested.specs.Under.meaning_forms.Parts.{Evals}
use Rattle.resin_eval_nested.specs.Under.meaning_forms.Merges.{fold_sets}

-- ---- want of memory before a program begins

unbegun_fold : (ev : Evals) (ss : List NumberSet) {u : World} → Does (fold_sets ev ss) u (Err Memory) u
unbegun_fold ev [] = does_nothing (give no_labels) (λ failing at. inl refl)
unbegun_fold ev (s ∷ []) = does_nothing (give s) (λ failing at. inl refl)
unbegun_fold ev (s ∷ t ∷ ss) = does_unbegun _ _

pub does_unfolded : (ev : Evals) (ss : List NumberSet) {u : World} (r : Result NumberSet Stop) → IsErrAnd r (λ e. e ≡ Memory) → Does (fold_sets ev ss) u r u
does_unfolded ev ss r h = let e = err_from_is_err_and r h in rw (e.1, e.2) (unbegun_fold ev ss)
