-- Lists of values and of policies, and constants as values.
use Rattle.std.proofs.Common.{◌≡◌, ℕ, zero, suc, ◌+◌, List, [], ◌∷◌, ◌++◌, drop, map, Option, None, Some, Err, refl, sym, ap, subst, ◌∙◌, arith}
use Rattle.std.specs.Prelude.{IfSome, slice_get}
use Rattle.std.proofs.lemmas.List.{append_assoc}
use Rattle.resin_meaning_forms.specs.Under.scalar.declared.faults.CallStop.{CallStop}
use Rattle.resin_meaning_forms.specs.Under.value.declared.value.Value.{Value}
use Rattle.resin_meaning_forms.specs.Under.value.declared.key.Key.{Key}
use Rattle.resin_meaning_forms.specs.Under.value.Arrays.{EntryList}
use Rattle.resin_meaning_forms.specs.Under.value.Seen.{tree_of, trees_of}
use Rattle.resin_meaning_forms.specs.Invoke.{ItemValue, with_items}

some_is : {X : Type 0} (x y : X) → ◌≡◌ {A = Option X} (Some x) (Some y) → x ≡ y
some_is x y e = cc

-- what holds of the item that is there
pub some_there : {X : Type 0} (o : Option X) (x : X) (P : X → Type 0) → o ≡ Some x → P x → IfSome o P
some_there {X = X} o x P e p = subst (λ (y : Option X). IfSome y P) (sym e) p

none_some : {X : Type 0} (x : X) → ◌≡◌ {A = Option X} None (Some x) → ⊥
none_some x e = cc

-- the item at a place, and those behind it
pub drop_at : {X : Type 0} (xs : List X) (i : ℕ) (x : X) → slice_get xs i ≡ Some x → drop i xs ≡ x ∷ drop (i + 1) xs
drop_at {X = X} [] i x e = absurd (none_some x e)
drop_at {X = X} (y ∷ xs) zero x e = ap (λ (z : X). z ∷ xs) (some_is y x e)
drop_at {X = X} (y ∷ xs) (suc i) x e = drop_at xs i x e ∙ ap (λ n. x ∷ drop n (y ∷ xs)) (let h : suc (i + 1) ≡ suc i + 1 = omega arith in h)

map_append : {X Y : Type 0} (f : X → Y) (xs ys : List X) → map f (xs ++ ys) ≡ map f xs ++ map f ys
map_append f [] ys = refl
map_append f (x ∷ xs) ys = ap (λ zs. f x ∷ zs) (map_append f xs ys)

-- one value more of an array
pub value_added : (es : EntryList) (i : ℕ) (k : Key) (v : Value) (vs : List Value) → slice_get es i ≡ Some (k, tree_of v) → trees_of vs ++ map (λ e. e.1) (drop i es) ≡ map (λ e. e.1) es
    → trees_of (vs ++ v ∷ []) ++ map (λ e. e.1) (drop (i + 1) es) ≡ map (λ e. e.1) es
value_added es i k v vs at h =
    ap (λ ts. ts ++ map (λ e. e.1) (drop (i + 1) es)) (map_append tree_of vs (v ∷ []))
    ∙ (append_assoc (trees_of vs) (tree_of v ∷ []) (map (λ e. e.1) (drop (i + 1) es))
    ∙ (ap (λ ds. trees_of vs ++ map (λ e. e.1) ds) (sym (drop_at es i (k, tree_of v) at)) ∙ h))

-- ---- constant arrays

pub stopped_items : (stop : CallStop) (is : List ItemValue) → with_items (Err stop) is ≡ Err stop
stopped_items stop [] = refl
stopped_items stop (i ∷ is) = stopped_items stop is
