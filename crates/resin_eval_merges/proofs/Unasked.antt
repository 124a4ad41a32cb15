-- Merges of policies that answer themselves alone: they are unions, and change nothing.
use Rattle.std.proofs.Common.{◌≡◌, ℕ, ◌≤◌, Bool, true, false, cond, List, [], ◌∷◌, length, map, All, Ok, refl, sym, ap, subst, ◌∙◌, arith, ⊎_elim}
use Rattle.std.specs.Prelude.{◌||◌, ◌&&◌, nat_eq, codes}
use Rattle.std.specs.List.{list_any, list_all}
use Rattle.std.proofs.lemmas.Bool.{eq-eqb, eqb-true, or_right, or_cases, and_parts, true≢false}
use Rattle.std.proofs.lemmas.List.Elements.{All-head, All-tail}
use Rattle.resin_eval_nested.specs.Under.label.Sets.{NumberSet, empty, contains, insert, numbers, union}
use Rattle.resin_eval_nested.specs.Under.value.declared.value.Value.{Value}
use Rattle.resin_eval_nested.specs.Under.value.declared.value.Value.TheVariants.{Arr}
use Rattle.resin_eval_nested.specs.Under.value.Trees.{object}
use Rattle.resin_eval_nested.specs.Under.machine.State.{State}
use Rattle.resin_eval_nested.specs.Under.machine.Objects.{last_number}
use Rattle.resin_eval_nested.specs.Under.machine.Steps.{hushed, unhushed}
use Rattle.resin_eval_nested.specs.Under.meaning.Programs.{Whole, give}
use Rattle.resin_eval_nested.specs.Under.meaning.Runs.{World, IsAt, Does}
use Rattle.resin_eval_nested.specs.Under.meaning_forms.Under.array_fn.Filled.{filled, in_order}
use Rattle.resin_eval_nested.specs.Under.meaning_forms.Parts.{Evals, computed, looked}
use Rattle.resin_eval_nested.specs.Under.meaning_forms.Invoke.{call_object}
use Rattle.resin_eval_nested.specs.Under.meaning_forms.Merges.{ask_merge, ask_merges, fold_on, fold_sets, is_under, list_of_objects, merge, no_policies, policies_in, values_in, with_answer}
use Rattle.resin_eval_nested.specs.Under.heap.declared.prelude.PreludeClass.TheVariants.{Policy}
use Rattle.resin_eval_nested.proofs.label_lemmas.Members.{contains-numbers, contains-union}
use Rattle.resin_eval_merges.specs.Asked.{each_asked}
use Rattle.resin_eval_merges.specs.OwnMerge.{AnswersItself}
use Rattle.resin_eval_merges.specs.Unions.{union_of}
use Rattle.resin_eval_merges.proofs.Steady.{Ends, in_state, gives, then, looks, computes, encloses, does_steadily}
use Rattle.resin_eval_merges.proofs.Own_merges.{alone, answers, fills, is_policy, most_keys}
use Rattle.resin_eval_merges.proofs.Many_sets.{added, added_both, added_nothing, contains-union_of, few_members, has_on, some_has, union_on, union_on_is}

-- each number that passes a test answers itself
abbrev Each : State → (ℕ → Bool) → Type 0
Each m has = (q : ℕ) → has q ≡ true → AnswersItself m q

-- ---- one policy

-- while a check runs, too
when_hushed : (m : State) (o : ℕ) → AnswersItself m o → AnswersItself (hushed m) o
when_hushed m o h = record { made = h.made; numbered = h.numbered; own = h.own }

asks : (ev : Evals) (others : List ℕ) (o : ℕ) (at : Whole) → length others ≤ most_keys → AnswersItself at.state o → Ends (ask_merge ev others o) at (Arr (alone o)) at
asks ev others o at few h =
    let list = fills others few in
    let set : Value = Arr list.0 in
    let listed : Ends (list_of_objects others) at set at = then (computed (filled (in_order (map object others)))) _ (computes (filled (in_order (map object others))) at list.0 list.1) (gives set at) in
    let quiet : Whole = in_state (hushed at.state) at in
    then (list_of_objects others) _ listed (encloses hushed unhushed (call_object ev o (codes "merge") (set ∷ [])) at quiet (Arr (alone o)) (answers ev o set quiet (when_hushed at.state o h)))

-- what it answers is added
adds : (so_far : NumberSet) (o : ℕ) (at : Whole) → AnswersItself at.state o → Ends (with_answer so_far (Arr (alone o))) at (insert so_far o) at
adds so_far o at h =
    let fit : list_all (is_under Policy at.state) (values_in (alone o)) ≡ true = ap (λ b. b && true) (is_policy at.state o h) in
    let told : Ends (policies_in (Arr (alone o))) at (o ∷ []) at = then (looked (λ m. list_all (is_under Policy m) (values_in (alone o)))) _ (looks (λ m. list_all (is_under Policy m) (values_in (alone o))) at true fit) (gives (o ∷ []) at) in
    then (policies_in (Arr (alone o))) _ told (gives (insert so_far o) at)

-- ---- policies one after the other

asks_each : (ev : Evals) (others ps : List ℕ) (so_far : NumberSet) (at : Whole) → length others ≤ most_keys → ((q : ℕ) → list_any (λ p. nat_eq p q) ps ≡ true → AnswersItself at.state q) → Ends (ask_merges ev others ps so_far) at (added so_far ps) at
asks_each ev others [] so_far at few each = gives so_far at
asks_each ev others (p ∷ ps) so_far at few each =
    let h : AnswersItself at.state p = each p (ap (λ b. b || list_any (λ x. nat_eq x p) ps) (eq-eqb p p refl)) in
    then (ask_merge ev others p) _ (asks ev others p at few h)
    (then (with_answer so_far (Arr (alone p))) _ (adds so_far p at h)
    (asks_each ev others ps (insert so_far p) at few (λ q e. each q (or_right (nat_eq p q) (list_any (λ x. nat_eq x q) ps) e))))

-- ---- two sets

-- there are no more of them than keys of a list
few_keys : (m : State) (s : NumberSet) → Each m (contains s) → length (numbers s) ≤ most_keys
few_keys m s each = let few = few_members s last_number (λ q e. (each q e).numbered) in omega (arith, few)

asks_both : (ev : Evals) (a b : NumberSet) (at : Whole) → Each at.state (contains a) → Each at.state (contains b) → Ends (each_asked ev (numbers a) (numbers b)) at (union a b) at
asks_both ev a b at left right =
    subst (λ (s : NumberSet). Ends (each_asked ev (numbers a) (numbers b)) at s at) (added_both a b)
    (then (ask_merges ev (numbers b) (numbers a) empty) _
    (asks_each ev (numbers b) (numbers a) empty at (few_keys at.state b right) (λ q e. left q (contains-numbers a q ∙ e)))
    (asks_each ev (numbers a) (numbers b) (added empty (numbers a)) at (few_keys at.state a left) (λ q e. right q (contains-numbers b q ∙ e))))

nothing_there : (ps : List ℕ) → no_policies ps ≡ true → ps ≡ []
nothing_there [] e = refl
nothing_there (p ∷ ps) e = cc

merges : (ev : Evals) (a b : NumberSet) (at : Whole) → Each at.state (contains a) → Each at.state (contains b) → Ends (merge ev a b) at (union a b) at
merges ev a b at left right = by (no_policies (numbers a) && no_policies (numbers b)) refl
  where
    by : (none : Bool) → (no_policies (numbers a) && no_policies (numbers b)) ≡ none → Ends (cond none (give empty) (each_asked ev (numbers a) (numbers b))) at (union a b) at
    by true e =
        let parts = and_parts (no_policies (numbers a)) (no_policies (numbers b)) e in
        subst (λ (s : NumberSet). Ends (give empty) at s at) (added_nothing a b (nothing_there (numbers a) parts.0) (nothing_there (numbers b) parts.1)) (gives empty at)
    by false e = asks_both ev a b at left right

-- ---- many sets

folds_on : (ev : Evals) (s : NumberSet) (ss : List NumberSet) (at : Whole) → Each at.state (λ q. contains s q || some_has ss q) → Ends (fold_on ev s ss) at (union_on s ss) at
folds_on ev s [] at each = gives s at
folds_on ev s (t ∷ ts) at each =
    then (merge ev s t) _
    (merges ev s t at (λ q e. each q (ap (λ b. b || some_has (t ∷ ts) q) e))
    (λ q e. each q (or_right (contains s q) (some_has (t ∷ ts) q) (ap (λ b. b || some_has ts q) e))))
    (folds_on ev (union s t) ts at (λ q e. each q (sym (has_on s t ts q) ∙ e)))

folds : (ev : Evals) (ss : List NumberSet) (at : Whole) → Each at.state (contains (union_of ss)) → Ends (fold_sets ev ss) at (union_of ss) at
folds ev [] at each = gives empty at
folds ev (s ∷ ss) at each =
    subst (λ (x : NumberSet). Ends (fold_on ev s ss) at x at) (union_on_is s ss)
    (folds_on ev s ss at (λ q e. each q (contains-union_of (s ∷ ss) q ∙ e)))

-- ---- what a look at a list of policies says

of_list : (m : State) (ps : List ℕ) → All (AnswersItself m) ps → (q : ℕ) → list_any (λ p. nat_eq p q) ps ≡ true → AnswersItself m q
of_list m [] all q e = absurd (true≢false (sym e))
of_list m (p ∷ ps) all q e =
    ⊎_elim
    (λ is. subst (AnswersItself m) (eqb-true p q is) (All-head (AnswersItself m) p ps all))
    (λ behind. of_list m ps (All-tail (AnswersItself m) p ps all) q behind)
    (or_cases (nat_eq p q) (list_any (λ x. nat_eq x q) ps) e)

of_set : (m : State) (s : NumberSet) (ps : List ℕ) → ps ≡ numbers s → All (AnswersItself m) ps → Each m (contains s)
of_set m s ps is all q e = of_list m ps all q (ap (list_any (λ p. nat_eq p q)) is ∙ sym (contains-numbers s q) ∙ e)

here : (w : World) (at : Whole) (has : ℕ → Bool) → IsAt at w → Each w.state has → Each at.state has
here w at has is each q e = subst (λ (m : State). AnswersItself m q) (sym is.state) (each q e)

-- two sets of such policies as one
pub does_merge : (ev : Evals) (a b both : NumberSet) (ps : List ℕ) (w : World) → both ≡ union a b → ps ≡ numbers both → All (AnswersItself w.state) ps → Does (merge ev a b) w (Ok both) w
does_merge ev a b both ps w is members all =
    let each = of_set w.state both ps members all in
    let left : Each w.state (contains a) = λ q e. each q (ap (λ (s : NumberSet). contains s q) is ∙ contains-union a b q ∙ ap (λ x. x || contains b q) e) in
    let right : Each w.state (contains b) = λ q e. each q (ap (λ (s : NumberSet). contains s q) is ∙ contains-union a b q ∙ or_right (contains a q) (contains b q) e) in
    does_steadily (merge ev a b) both w (λ at at_w.
    subst (λ (s : NumberSet). Ends (merge ev a b) at s at) (sym is) (merges ev a b at (here w at (contains a) at_w left) (here w at (contains b) at_w right)))

-- many sets of such policies as one
pub does_fold : (ev : Evals) (ss : List NumberSet) (all : NumberSet) (ps : List ℕ) (w : World) → all ≡ union_of ss → ps ≡ numbers all → All (AnswersItself w.state) ps → Does (fold_sets ev ss) w (Ok all) w
does_fold ev ss all ps w is members own =
    let each = of_set w.state all ps members own in
    does_steadily (fold_sets ev ss) all w (λ at at_w.
    subst (λ (s : NumberSet). Ends (fold_sets ev ss) at s at) (sym is)
    (folds ev ss at (here w at (contains (union_of ss)) at_w (λ q e. each q (ap (λ (s : NumberSet). contains s q) is ∙ e)))))
