-- The sets of runs, each once.
use Rattle.std.proofs.Common.{◌≡◌, ℕ, zero, suc, ◌+◌, ◌<◌, ◌≤◌, List, [], ◌∷◌, ◌++◌, length, map, drop, get_or, slice_get, None, Some, Result, Ok, Err, IsErrAnd, refl, sym, ap, subst, ◌∙◌, arith}
use Rattle.std.specs.Prelude.{Option, fold, replicate}
use Rattle.std.specs.Option.{option_map_or}
use Rattle.std.specs.List.{flat_map}
use Rattle.indexmap.specs.IndexSet.{insert_key}
use Rattle.resin_shadow.specs.Marks.{Marks, policies}
use Rattle.resin_shadow.specs.Parts.{PlacedRun, run_spelled, spelled_by}
use Rattle.resin_shadow.specs.Shadows.{places}
use Rattle.resin_step_parts.specs.Under.label.Sets.{NumberSet, same}
use Rattle.resin_step_parts.specs.Under.lstr.Texts.{distinct}
use Rattle.resin_step_parts.specs.Under.machine.declared.stop.Stop.{Stop}
use Rattle.resin_step_parts.specs.Under.machine.declared.stop.Stop.TheVariants.{Memory}
use Rattle.resin_step_parts.specs.Under.machine.State.{State}
use Rattle.resin_step_parts.specs.Under.machine.Steps.{Acts, charge}
use Rattle.resin_step_parts.specs.Under.meaning.Programs.{act}
use Rattle.resin_step_parts.specs.Under.meaning.Runs.{world}
use Rattle.resin_step_parts.specs.Under.meaning_forms.Keeping.{labels_for, thaw_policies, thaw_sets}
use Rattle.resin_step_parts.specs.Under.meaning_forms.Runs.{Runs, on_ok}
use Rattle.resin_step_parts.proofs.label_lemmas.Members.{same-decides}
use Rattle.resin_step_parts.proofs.Loops.{handed_seen}
use Rattle.resin_step_parts.proofs.meaning_lemmas.Composition.{does_act, does_give, does_lost, does_next, does_stop, does_unbegun, front, nothing_left}
use Rattle.resin_step_keeping.specs.Sets.{labels_at}
use Rattle.resin_step_keeping.proofs.Distinct.{distinct_more, repeated, each_alone}
use Rattle.resin_step_keeping.proofs.Spelled.{spelled-map}

fold-append : {X Y : Type 0} (f : Y → X → Y) (y : Y) (xs zs : List X) → fold f y (xs ++ zs) ≡ fold f (fold f y xs) zs
fold-append f y [] zs = refl
fold-append f y (x ∷ xs) zs = fold-append f (f y x) xs zs

-- before the first run
pub met_begins : (xs : List NumberSet) → fold (insert_key same) [] xs ≡ distinct same xs
met_begins xs = sym (distinct_more same same-decides [] xs)

pub met_more : (sets : List NumberSet) (runs : List PlacedRun) (i : ℕ) (r : PlacedRun) (old new whole : List NumberSet) → i < length runs → r ≡ get_or runs i r → new ≡ fold (insert_key same) old (run_spelled sets r)
    → fold (insert_key same) old (spelled_by sets (drop i runs)) ≡ whole → fold (insert_key same) new (spelled_by sets (drop (i + 1) runs)) ≡ whole
met_more sets runs i r old new whole h is e so_far =
    ap (λ ks. fold (insert_key same) ks (spelled_by sets (drop (i + 1) runs))) e
    ∙ sym (fold-append (insert_key same) old (run_spelled sets r) (spelled_by sets (drop (i + 1) runs)))
    ∙ ap (λ rs. fold (insert_key same) old (spelled_by sets rs)) (sym (front runs i r h is))
    ∙ so_far

pub met_done : (sets : List NumberSet) (runs : List PlacedRun) (i : ℕ) (met whole : List NumberSet) → length runs ≤ i → fold (insert_key same) met (spelled_by sets (drop i runs)) ≡ whole → met ≡ whole
met_done sets runs i met whole h so_far = ap (λ rs. fold (insert_key same) met (spelled_by sets rs)) (sym (nothing_left runs i h)) ∙ so_far

-- ---- one run

none_of : (n : ℕ) (o : Option NumberSet) → n ≡ 0 → option_map_or (replicate n) o [] ≡ []
none_of n None e = refl
none_of n (Some s) e = ap (λ k. replicate k s) e

pub met_none : (sets : List NumberSet) (n place : ℕ) (ks : List NumberSet) → n ≡ 0 → ks ≡ fold (insert_key same) ks (run_spelled sets (n, place))
met_none sets n place ks e = sym (ap (fold (insert_key same) ks) (none_of n (slice_get sets place) e))

pub met_absent : (sets : List NumberSet) (n place : ℕ) (ks : List NumberSet) → slice_get sets place ≡ None → ks ≡ fold (insert_key same) ks (run_spelled sets (n, place))
met_absent sets n place ks e = sym (ap (λ o. fold (insert_key same) ks (option_map_or (replicate n) o [])) e)

many : (n : ℕ) (ks : List NumberSet) (s : NumberSet) → 0 < n → fold (insert_key same) ks (replicate n s) ≡ insert_key same ks s
many zero ks s h = absurd (omega (arith, h))
many (suc n) ks s h = ap (fold (insert_key same) ks) (sym (each_alone (replicate (suc n) s))) ∙ repeated same same-decides (λ x. x ∷ []) s n ks

pub met_one : (sets : List NumberSet) (n place : ℕ) (ks new : List NumberSet) (s : NumberSet) → 0 < n → slice_get sets place ≡ Some s → new ≡ insert_key same ks s → new ≡ fold (insert_key same) ks (run_spelled sets (n, place))
met_one sets n place ks new s h at e = e ∙ sym (many n ks s h) ∙ sym (ap (λ o. fold (insert_key same) ks (option_map_or (replicate n) o [])) at)

-- ---- the whole

map-map : {X Y Z : Type 0} (f : Y → Z) (g : X → Y) (xs : List X) → map f (map g xs) ≡ map (λ x. f (g x)) xs
map-map f g [] = refl
map-map f g (x ∷ xs) = ap (λ v. f (g x) ∷ v) (map-map f g xs)

-- the sets of the bytes, by their places
pub sets_met : {L : Type 0} (items_of : L → List ℕ) (sets : List L) (runs : List PlacedRun) (objects : List ℕ) (v : Marks) (found : List NumberSet) → spelled_by (map items_of sets) runs ≡ map (places (policies v)) v
    → found ≡ distinct same (spelled_by (map (λ s. labels_at objects (items_of s)) sets) runs) → found ≡ distinct same (map (labels_for (policies v) objects) v)
sets_met items_of sets runs objects v found e f =
    f ∙ ap (distinct same)
    (ap (λ s. spelled_by s runs) (sym (map-map (labels_at objects) items_of sets)) ∙ spelled-map (labels_at objects) (map items_of sets) runs ∙ ap (map (labels_at objects)) e ∙ map-map (labels_at objects) (places (policies v)) v)

-- ---- objects for the sets, by what the steps answered

pub sets_unbegun : {R : Type 0} (g : R → List NumberSet) (w : Marks) (m : State) (r : Result R Stop) → IsErrAnd r (λ e. e ≡ Memory) → Runs (thaw_sets w) m (on_ok g r) m
sets_unbegun g w m r is f u k = handed_seen g (thaw_sets w) r is (does_unbegun (act (charge (length (policies w)))) _)

pub sets_charge_stops : {R : Type 0} (g : R → List NumberSet) (w : Marks) (count : ℕ) (m m' : State) (z : Stop) (r : Result R Stop) → count ≡ length (policies w) → Acts (charge count) m (Err z) m' → IsErrAnd r (λ e. e ≡ z) → Runs (thaw_sets w) m (on_ok g r) m'
sets_charge_stops g w count m m' z r n h is f u k =
    handed_seen g (thaw_sets w) r is
    (does_stop (act (charge (length (policies w)))) _ (does_act (charge (length (policies w))) f u k (subst (λ x. Acts (charge x) m (Err z) m') n h)))

pub sets_stop : {R : Type 0} (g : R → List NumberSet) (w : Marks) (count : ℕ) (ps : List (List ℕ)) (m m1 m2 : State) (z : Stop) (r : Result R Stop) → count ≡ length (policies w) → ps ≡ policies w → Acts (charge count) m (Ok tt) m1
    → Runs (thaw_policies [] ps) m1 (Err z) m2 → IsErrAnd r (λ e. e ≡ z) → Runs (thaw_sets w) m (on_ok g r) m2
sets_stop g w count ps m m1 m2 z r n p h d is f u k =
    handed_seen g (thaw_sets w) r is
    (does_next (act (charge (length (policies w)))) _ (does_act (charge (length (policies w))) f u k (subst (λ x. Acts (charge x) m (Ok tt) m1) n h))
    (does_stop (thaw_policies [] (policies w)) _ (subst (λ x. Runs (thaw_policies [] x) m1 (Err z) m2) p d f u k)))

pub sets_lost : {R : Type 0} (g : R → List NumberSet) (w : Marks) (count : ℕ) (ps : List (List ℕ)) (objects : List ℕ) (m m1 m2 : State) (r : Result R Stop) → count ≡ length (policies w) → ps ≡ policies w → Acts (charge count) m (Ok tt) m1
    → Runs (thaw_policies [] ps) m1 (Ok objects) m2 → IsErrAnd r (λ e. e ≡ Memory) → Runs (thaw_sets w) m (on_ok g r) m2
sets_lost g w count ps objects m m1 m2 r n p h d is f u k =
    handed_seen g (thaw_sets w) r is
    (does_next (act (charge (length (policies w)))) _ (does_act (charge (length (policies w))) f u k (subst (λ x. Acts (charge x) m (Ok tt) m1) n h))
    (does_lost (thaw_policies [] (policies w)) _ (subst (λ x. Runs (thaw_policies [] x) m1 (Ok objects) m2) p d f u k)))

pub sets_made : (w : Marks) (count : ℕ) (ps : List (List ℕ)) (objects : List ℕ) (found : List NumberSet) (m m1 m2 : State) → count ≡ length (policies w) → ps ≡ policies w → Acts (charge count) m (Ok tt) m1
    → Runs (thaw_policies [] ps) m1 (Ok objects) m2 → found ≡ distinct same (map (labels_for (policies w) objects) w) → Runs (thaw_sets w) m (Ok found) m2
sets_made w count ps objects found m m1 m2 n p h d e f u k =
    rw e
    (does_next (act (charge (length (policies w)))) _ (does_act (charge (length (policies w))) f u k (subst (λ x. Acts (charge x) m (Ok tt) m1) n h))
    (does_next (thaw_policies [] (policies w)) _ (subst (λ x. Runs (thaw_policies [] x) m1 (Ok objects) m2) p d f u k)
    (does_give (distinct same (map (labels_for (policies w) objects) w)) (world m2 f u k))))
