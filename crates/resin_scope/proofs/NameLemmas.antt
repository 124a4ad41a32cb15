-- Entries of a map, read by the bytes of their keys, as a finite map.
use Rattle.std.proofs.Common.{◌≡◌, ℕ, Bool, true, false, cond, List, [], ◌∷◌, Option, Some, None, refl, sym, ap, ◌∙◌}
use Rattle.std.specs.Prelude.{Vec}
use Rattle.std.specs.Ordering.{eq_by_cmp}
use Rattle.std.specs.declared.cmp.Ordering.{Ordering}
use Rattle.std.specs.Cmp.{IsTotalOrder}
use Rattle.std.specs.Cmp.Lexicographic.{bytes_decides, texts_ties, nat_list_cmp_total}
use Rattle.std.specs.FinMap.{find, from_entries, get, insert, remove, same_map, get-from_entries, get-insert, get-remove, nat_cmp-IsAntisymmetric, slice_cmp-IsAntisymmetric, IsAntisymmetric}
use Rattle.std.specs.BTreeMap.{BTreeMap, UpdatesBy}
use Rattle.std.specs.Map.{lookup, KeepsOthers}
use Rattle.resin_scope.specs.Names.{Named, name_order, by_bytes}

pub order : IsTotalOrder name_order
order = nat_list_cmp_total

pub alike : IsAntisymmetric name_order
alike = slice_cmp-IsAntisymmetric nat_cmp-IsAntisymmetric

-- names that tie are the same
same_name : (a b : List ℕ) → eq_by_cmp name_order a b ≡ true → a ≡ b
same_name a b e = (bytes_decides a b).0 (texts_ties a b ∙ e)

-- ---- finite maps of names
module _ {X : Type 0} where
  -- the last value that is put at a name counts
  pub insert_twice : (m : Named X) (k : List ℕ) (v w : X) → insert (insert m k v) k w ≡ insert m k w
  insert_twice m k v w =
      same_map order alike _ _ (λ q.
      get-insert order (insert m k v) k w q ∙ by (eq_by_cmp name_order q k) q refl ∙ sym (get-insert order m k w q))
    where
      by : (b : Bool) (q : List ℕ) → eq_by_cmp name_order q k ≡ b → cond b (Some w) (get (insert m k v) q) ≡ cond b (Some w) (get m q)
      by true q e = refl
      by false q e = get-insert order m k v q ∙ ap (λ b. cond b (Some v) (get m q)) e

  -- to put the value that a name has changes nothing
  pub insert_same : (m : Named X) (k : List ℕ) (v : X) → get m k ≡ Some v → insert m k v ≡ m
  insert_same m k v has =
      same_map order alike _ _ (λ q. get-insert order m k v q ∙ by (eq_by_cmp name_order q k) q refl)
    where
      by : (b : Bool) (q : List ℕ) → eq_by_cmp name_order q k ≡ b → cond b (Some v) (get m q) ≡ get m q
      by true q e = sym has ∙ ap (get m) (sym (same_name q k e))
      by false q e = refl

-- ---- maps in the order of names
abbrev pub has_bytes : {Z : Type 0} → List ℕ → Vec ℕ Z → Bool
has_bytes q x = eq_by_cmp name_order q x.items

abbrev pub key_order : {Z : Type 0} → Vec ℕ Z → Vec ℕ Z → Ordering
key_order x y = name_order x.items y.items

module _ {X Z : Type 0} where
  find-by_bytes : (q : List ℕ) (es : List (Vec ℕ Z × X)) → find name_order q (by_bytes es) ≡ lookup (has_bytes q) es
  find-by_bytes q [] = refl
  find-by_bytes q (e ∷ es) = ap (cond (has_bytes q e.0) (Some e.1)) (find-by_bytes q es)

  -- a look-up by bytes is one in the finite map
  pub get-by_bytes : (q : List ℕ) (es : List (Vec ℕ Z × X)) → get (from_entries {R = name_order} (by_bytes es)) q ≡ lookup (has_bytes q) es
  get-by_bytes q es = get-from_entries order (by_bytes es) q ∙ find-by_bytes q es

  -- what a look-up finds after a change at one name
  after : (k q : List ℕ) (w : Option X) (es fs : List (Vec ℕ Z × X)) → lookup (has_bytes k) fs ≡ w → KeepsOthers (eq_by_cmp key_order) (has_bytes k) es fs
      → lookup (has_bytes q) fs ≡ cond (eq_by_cmp name_order q k) w (lookup (has_bytes q) es)
  unfolding KeepsOthers
  after k q w es fs here others = by (eq_by_cmp name_order q k) refl
    where
      by : (b : Bool) → eq_by_cmp name_order q k ≡ b → lookup (has_bytes q) fs ≡ cond b w (lookup (has_bytes q) es)
      by true e = ap (λ t. lookup (has_bytes t) fs) (same_name q k e) ∙ here
      by false e =
          others (has_bytes q) (λ x y is. ap (λ t. eq_by_cmp name_order t y.items) (same_name q x.items is))
          (λ x is. ap (eq_by_cmp name_order q) (sym (same_name k x.items is)) ∙ e)

  -- a value that is put at a name is inserted
  pub inserted : (k : List ℕ) (v : X) (m n : BTreeMap (Vec ℕ Z) X) → UpdatesBy key_order (λ x. name_order k x.items) m n (Some v)
      → from_entries {R = name_order} (by_bytes n.entries) ≡ insert (from_entries (by_bytes m.entries)) k v
  inserted k v m n u =
      same_map order alike _ _ (λ q.
      get-by_bytes q n.entries ∙ after k q (Some v) m.entries n.entries u.1 u.3
      ∙ sym (get-insert order (from_entries (by_bytes m.entries)) k v q ∙ ap (cond (eq_by_cmp name_order q k) (Some v)) (get-by_bytes q m.entries)))

  -- a name that is taken out is removed
  pub removed : (k : List ℕ) (m n : BTreeMap (Vec ℕ Z) X) → UpdatesBy key_order (λ x. name_order k x.items) m n None
      → from_entries {R = name_order} (by_bytes n.entries) ≡ remove (from_entries (by_bytes m.entries)) k
  removed k m n u =
      same_map order alike _ _ (λ q.
      get-by_bytes q n.entries ∙ after k q None m.entries n.entries u.1 u.3
      ∙ sym (get-remove order (from_entries (by_bytes m.entries)) k q ∙ ap (cond (eq_by_cmp name_order q k) None) (get-by_bytes q m.entries)))
