-- How an entry put in place, last or taken out changes the map of a list.
use Rattle.std.proofs.Common.{rules, arith, ◌≡◌, ℕ, suc, ◌+◌, ◌<◌, nat_eq, Bool, true, false, cond, not, List, [], ◌∷◌, ◌++◌, length, take, drop, Option, Some, None, refl, sym, ap, ◌∙◌}
use Rattle.std.specs.declared.cmp.Ordering.{Ordering}
use Rattle.std.specs.declared.cmp.Ordering.TheVariants.{Less, Equal, Greater}
use Rattle.std.specs.Ordering.{eq_by_cmp, is_eq}
use Rattle.std.specs.Cmp.Lexicographic.{nat_list_cmp_total, pointwise, texts_ties}
use Rattle.std.specs.Cmp.{IsTotalOrder, eq_by_cmp_equiv}
use Rattle.std.specs.Prelude.{is_some, slice_index_or, slice_set}
use Rattle.std.specs.List.{filter}
use Rattle.std.proofs.Math.Seq.{drop-cons, set_split}
use Rattle.std.proofs.lemmas.List.{take-append-drop, take_more}
use Rattle.std.specs.FinMap.{find, from_entries, insert, remove, contains_key, same_map, get-from_entries, get-insert, get-remove, from_entries_push, nat_cmp-IsAntisymmetric, slice_cmp-IsAntisymmetric}
use Rattle.std.specs.FinMap.Entries.{find_tied, find-where_key}
use Rattle.std.specs.Prelude.{MatchOption}
use Rattle.resin_base.specs.Contents.{byte_order}
use Rattle.resin_base.specs.Places.{IsPlace}

same : (x y : List ℕ) → byte_order x y ≡ Equal → x ≡ y
same = slice_cmp-IsAntisymmetric nat_cmp-IsAntisymmetric

equal_of : (r : Ordering) → is_eq r ≡ true → r ≡ Equal
equal_of Less e = search rules
equal_of Equal e = refl
equal_of Greater e = search rules

order : IsTotalOrder byte_order
order = nat_list_cmp_total

itself : (k : List ℕ) → eq_by_cmp byte_order k k ≡ true
itself k = (eq_by_cmp_equiv order).refl k

module _ {X : Type 0} where
  -- the first of two, if it is there
  or_else : Option X → Option X → Option X
  or_else None y = y
  or_else (Some x) y = Some x

  find-join : (q : List ℕ) (xs ys : List (List ℕ × X)) → find byte_order q (xs ++ ys) ≡ or_else (find byte_order q xs) (find byte_order q ys)
  unfolding or_else
  find-join q [] ys = refl
  find-join q (x ∷ xs) ys =
      elim (eq_by_cmp byte_order q x.0) as (λ b. cond b (Some x.1) (find byte_order q (xs ++ ys)) ≡ or_else (cond b (Some x.1) (find byte_order q xs)) (find byte_order q ys))
      [ true ↦ refl | false ↦ find-join q xs ys ]

  find-replace : (q k : List ℕ) (xs ys : List (List ℕ × X)) (old new : X) → find byte_order k xs ≡ None
      → or_else (find byte_order q xs) (cond (eq_by_cmp byte_order q k) (Some new) (find byte_order q ys))
      ≡ cond (eq_by_cmp byte_order q k) (Some new) (or_else (find byte_order q xs) (cond (eq_by_cmp byte_order q k) (Some old) (find byte_order q ys)))
  unfolding or_else
  find-replace q k xs ys old new none =
      elim (eq_by_cmp byte_order q k) as (λ b. eq_by_cmp byte_order q k ≡ b → or_else (find byte_order q xs) (cond b (Some new) (find byte_order q ys)) ≡ cond b (Some new) (or_else (find byte_order q xs) (cond b (Some old) (find byte_order q ys)))) [
        | true ↦ λ e. ap (λ o. or_else o (Some new)) (sym (find_tied byte_order nat_list_cmp_total q k (equal_of _ e) xs) ∙ none)
        | false ↦ λ e. refl
      ] refl

  -- a value in place of the first at its key is that value inserted
  pub from_entries_replaced : (k : List ℕ) (xs ys : List (List ℕ × X)) (old new : X) → find byte_order k xs ≡ None
      → from_entries {R = byte_order} (xs ++ (k, new) ∷ ys) ≡ insert (from_entries (xs ++ (k, old) ∷ ys)) k new
  from_entries_replaced k xs ys old new none =
      same_map nat_list_cmp_total same _ _ (λ q.
      get-from_entries nat_list_cmp_total _ q ∙ find-join q xs _ ∙ find-replace q k xs ys old new none
      ∙ sym (get-insert nat_list_cmp_total _ k new q ∙ ap (cond (eq_by_cmp byte_order q k) (Some new)) (get-from_entries nat_list_cmp_total _ q ∙ find-join q xs _)))

  -- no entry before the next index is at the path
  pub find-next : (k : List ℕ) (es : List (List ℕ × X)) (i : ℕ) (d : List ℕ × X) → i < length es → find byte_order k (take i es) ≡ None
      → pointwise nat_eq (slice_index_or es i d).0 k ≡ false → find byte_order k (take (i + 1) es) ≡ None
  unfolding or_else
  find-next k es i d within none other =
      let apart : eq_by_cmp byte_order k (slice_index_or es i d).0 ≡ false = (eq_by_cmp_equiv order).symm k _ ∙ sym (texts_ties _ k) ∙ other in
      rw (take_more es i d within, find-join k (take i es) (slice_index_or es i d ∷ []), none)
      (ap (λ b. cond b (Some (slice_index_or es i d).1) None) apart)

  -- the list around an index
  around : (es : List (List ℕ × X)) (i : ℕ) (d : List ℕ × X) → i < length es → es ≡ take i es ++ slice_index_or es i d ∷ drop (suc i) es
  around es i d within = sym (take-append-drop i es) ∙ ap (λ xs. take i es ++ xs) (drop-cons es i d within)

  -- the first entry at the path is found
  pub find-here : (k : List ℕ) (es : List (List ℕ × X)) (i : ℕ) (d : List ℕ × X) → i < length es → find byte_order k (take i es) ≡ None
      → (slice_index_or es i d).0 ≡ k → find byte_order k es ≡ Some (slice_index_or es i d).1
  unfolding or_else
  find-here k es i d within none is =
      ap (find byte_order k) (around es i d within) ∙ find-join k (take i es) (slice_index_or es i d ∷ drop (suc i) es)
      ∙ ap (λ o. or_else o (find byte_order k (slice_index_or es i d ∷ drop (suc i) es))) none
      ∙ ap (λ x. cond (eq_by_cmp byte_order k x) (Some (slice_index_or es i d).1) (find byte_order k (drop (suc i) es))) is
      ∙ ap (λ b. cond b (Some (slice_index_or es i d).1) (find byte_order k (drop (suc i) es))) (itself k)

  -- a value put in place of the first at the path is inserted
  pub from_entries-set : (k : List ℕ) (es : List (List ℕ × X)) (i : ℕ) (d : List ℕ × X) (new : X) → i < length es → find byte_order k (take i es) ≡ None
      → (slice_index_or es i d).0 ≡ k → from_entries {R = byte_order} (slice_set es i ((slice_index_or es i d).0, new)) ≡ insert (from_entries es) k new
  from_entries-set k es i d new within none is =
      ap from_entries (ap (λ x. slice_set es i (x, new)) is ∙ set_split es i (k, new) within)
      ∙ from_entries_replaced k (take i es) (drop (suc i) es) (slice_index_or es i d).1 new none
      ∙ ap (λ xs. insert (from_entries xs) k new) (ap (λ x. take i es ++ (x, (slice_index_or es i d).1) ∷ drop (suc i) es) (sym is) ∙ sym (around es i d within))

  -- a value put in place of one that was read there
  pub from_entries-place : (k : List ℕ) (es : List (List ℕ × X)) (i : ℕ) (x : List ℕ × X) (new : X) → IsPlace k es i → x ≡ slice_index_or es i x
      → from_entries {R = byte_order} (slice_set es i (x.0, new)) ≡ insert (from_entries es) k new
  from_entries-place k es i x new p is =
      ap (λ y. from_entries (slice_set es i (y.0, new))) is ∙ from_entries-set k es i x new p.within p.none (p.here x)

  -- an entry whose path is not there, put last, is inserted
  pub from_entries-last : (k : List ℕ) (es : List (List ℕ × X)) (new : X) → find byte_order k es ≡ None → from_entries {R = byte_order} (es ++ (k, new) ∷ []) ≡ insert (from_entries es) k new
  from_entries-last k es new none = from_entries_push order same es k new none

  swapped_cond : (b : Bool) (x : Option X) → cond (not b) x None ≡ cond b None x
  swapped_cond true x = refl
  swapped_cond false x = refl

  -- the entries at other paths
  pub from_entries-filter : (k : List ℕ) (es : List (List ℕ × X)) → from_entries {R = byte_order} (filter (λ e. not (pointwise nat_eq e.0 k)) es) ≡ remove (from_entries es) k
  from_entries-filter k es = same_map order same _ _ (λ q.
      get-from_entries order _ q
      ∙ find-where_key byte_order (λ x. not (pointwise nat_eq x k)) q (λ x t. ap (λ y. not (pointwise nat_eq y k)) (sym (same q x t))) es
      ∙ swapped_cond (pointwise nat_eq q k) (find byte_order q es)
      ∙ ap (λ b. cond b None (find byte_order q es)) (texts_ties q k)
      ∙ sym (get-remove order (from_entries es) k q ∙ ap (cond (eq_by_cmp byte_order q k) None) (get-from_entries order es q)))

  -- whether the map has the path
  pub contains-find : (k : List ℕ) (es : List (List ℕ × X)) → contains_key (from_entries {R = byte_order} es) k ≡ is_some (find byte_order k es)
  contains-find k es = ap is_some (get-from_entries order es k)

  -- some entry stands in a list that has a place
  some_entry : (es : List (List ℕ × X)) (i : ℕ) → i < length es → List ℕ × X
  some_entry [] i within = absurd (omega (arith, within))
  some_entry (e ∷ es) i within = e

  -- a look-up that answers a place finds an entry
  pub is_some-place : (k : List ℕ) (es : List (List ℕ × X)) (r : Option ℕ) → MatchOption r (find byte_order k es ≡ None) (IsPlace k es) → is_some r ≡ contains_key (from_entries {R = byte_order} es) k
  is_some-place k es None none = sym (contains-find k es ∙ ap is_some none)
  is_some-place k es (Some i) p =
      let d = some_entry es i p.within in
      sym (contains-find k es ∙ ap is_some (find-here k es i d p.within p.none (p.here d)))
