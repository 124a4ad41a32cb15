-- Finite maps with their values changed.
use Rattle.std.proofs.Common.{◌≡◌, Bool, true, false, cond, List, [], ◌∷◌, map, Option, Some, None, refl, sym, ap, subst, ◌∙◌}
use Rattle.std.specs.Prelude.{◌&&◌, T}
use Rattle.std.specs.Option.{option_map, is_some}
use Rattle.std.specs.Cmp.{IsTotalOrder}
use Rattle.std.specs.Ordering.{is_lt, eq_by_cmp}
use Rattle.std.specs.declared.cmp.Ordering.{Ordering}
use Rattle.std.specs.FinMap.{FinMap, IsAntisymmetric, entries, entries_sorted, get, insert, remove, contains_key, get-entries, get-from_sorted, get-insert, get-remove, same_map}
use Rattle.std.specs.FinMap.Entries.{find, is_sorted, below_all}
use Rattle.resin_store.specs.Mapped.{mapped}

module _ {K X Y : Type 0} (R : K → K → Ordering) (f : X → Y) where
  abbrev on_value : K × X → K × Y
  on_value e = (e.0, f e.1)

  below_same : (k : K) (es : List (K × X)) → below_all R k (map on_value es) ≡ below_all R k es
  below_same k [] = refl
  below_same k (e ∷ es) = ap (λ b. is_lt (R k e.0) && b) (below_same k es)

  sorted_same : (es : List (K × X)) → is_sorted R (map on_value es) ≡ is_sorted R es
  sorted_same [] = refl
  sorted_same (e ∷ es) = ap (λ b. b && is_sorted R (map on_value es)) (below_same e.0 es) ∙ ap (λ b. below_all R e.0 es && b) (sorted_same es)

  find_mapped : (q : K) (es : List (K × X)) → find R q (map on_value es) ≡ option_map f (find R q es)
  find_mapped q [] = refl
  find_mapped q (e ∷ es) = by (eq_by_cmp R q e.0) (find_mapped q es)
    where
      by : (b : Bool) → find R q (map on_value es) ≡ option_map f (find R q es) → cond b (Some (f e.1)) (find R q (map on_value es)) ≡ option_map f (cond b (Some e.1) (find R q es))
      by true h = refl
      by false h = h

  pub get-mapped : (m : FinMap R X) (q : K) → get (mapped f m) q ≡ option_map f (get m q)
  unfolding mapped
  get-mapped m q =
      get-from_sorted R (map on_value (entries m)) q (subst T (sym (sorted_same (entries m))) (entries_sorted m))
      ∙ find_mapped q (entries m)
      ∙ ap (option_map f) (sym (get-entries m q))

  pub contains-mapped : (m : FinMap R X) (q : K) → contains_key (mapped f m) q ≡ contains_key m q
  contains-mapped m q = ap is_some (get-mapped m q) ∙ some_same (get m q)
    where
      some_same : (o : Option X) → is_some (option_map f o) ≡ is_some o
      some_same None = refl
      some_same (Some x) = refl

  module _ (o : IsTotalOrder R) (same : IsAntisymmetric R) where
    chosen : (b : Bool) (v : X) (r : Option X) → option_map f (cond b (Some v) r) ≡ cond b (Some (f v)) (option_map f r)
    chosen true v r = refl
    chosen false v r = refl

    left_out : (b : Bool) (r : Option X) → option_map f (cond b None r) ≡ cond b None (option_map f r)
    left_out true r = refl
    left_out false r = refl

    pub mapped-insert : (m : FinMap R X) (k : K) (v : X) → mapped f (insert m k v) ≡ insert (mapped f m) k (f v)
    mapped-insert m k v = same_map o same _ _ (λ q.
        get-mapped (insert m k v) q ∙ ap (option_map f) (get-insert o m k v q) ∙ chosen (eq_by_cmp R q k) v (get m q)
        ∙ sym (get-insert o (mapped f m) k (f v) q ∙ ap (cond (eq_by_cmp R q k) (Some (f v))) (get-mapped m q)))

    pub mapped-remove : (m : FinMap R X) (k : K) → mapped f (remove m k) ≡ remove (mapped f m) k
    mapped-remove m k = same_map o same _ _ (λ q.
        get-mapped (remove m k) q ∙ ap (option_map f) (get-remove o m k q) ∙ left_out (eq_by_cmp R q k) (get m q)
        ∙ sym (get-remove o (mapped f m) k q ∙ ap (cond (eq_by_cmp R q k) None) (get-mapped m q)))

module _ {K X Y : Type 0} (R : K → K → Ordering) (o : IsTotalOrder R) (same : IsAntisymmetric R) (f : X → Y) (g : Y → X) where
  -- changed and changed back
  pub mapped_back : ((x : X) → g (f x) ≡ x) → (m : FinMap R X) → mapped g (mapped f m) ≡ m
  mapped_back back m = same_map o same _ _ (λ q. get-mapped R g (mapped f m) q ∙ ap (option_map g) (get-mapped R f m q) ∙ each (get m q))
    where
      each : (r : Option X) → option_map g (option_map f r) ≡ r
      each None = refl
      each (Some x) = ap Some (back x)
