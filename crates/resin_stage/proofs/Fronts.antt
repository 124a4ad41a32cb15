-- A front of a journal that obeys the access law obeys it.
use Rattle.std.proofs.Common.{◌≡◌, ℕ, ◌<◌, nat_eq, ◌==◌, ◌||◌, ◌&&◌, Bool, true, false, not, cond, List, [], ◌∷◌, ◌++◌, map, filter, refl, sym, ap, subst, ◌∙◌, append_assoc, append-nil, true≢false}
use Rattle.std.specs.Prelude.{nat_lt, nat_le}
use Rattle.std.specs.List.{list_all, list_any, flat_map}
use Rattle.resin_scope.specs.Under.label.Sets.{numbers}
use Rattle.std.specs.Cmp.Lexicographic.{pointwise, bytes_decides}
use Rattle.std.proofs.lemmas.Bool.{and_parts, and_from, ne_eqb, eqb-false}
use Rattle.std.proofs.lemmas.List.{map-append}
use Rattle.std.proofs.lemmas.List.Folds.{list_all-append, list_any-append}
use Rattle.std.proofs.lemmas.List.Elements.{filter-append}
use Rattle.resin_scope.specs.Under.lstr.Texts.{distinct, policies_in_order, sets_of}
use Rattle.resin_scope.specs.Under.journal.declared.event.Event.{Event}
use Rattle.resin_scope.specs.Under.journal.declared.event.Event.TheVariants.{Passed, Sent, Denied, FilterDenied}
use Rattle.resin_scope.specs.Under.journal.Events.{EventList}
use Rattle.resin_scope.specs.Under.journal.Access.{write_of, is_placed, events_of, passed_first, behind_passed, is_among, are_distinct, may_end, is_one_write, never_fall, writes_of, ObeysAccessLaw}
use Rattle.resin_stage.specs.Writes.{FrontsObey}
use Rattle.resin_stage.proofs.Orders.{never, order_distinct}

-- ---- numbers that never fall
fall_front : (ms ns : List ℕ) → never_fall (ms ++ ns) ≡ true → never_fall ms ≡ true
fall_front [] ns h = refl
fall_front (m ∷ ms) ns h =
    let both = and_parts (list_all (nat_le m) (ms ++ ns)) (never_fall (ms ++ ns)) h in
    and_from (list_all (nat_le m) ms) (never_fall ms)
    (and_parts (list_all (nat_le m) ms) (list_all (nat_le m) ns) (sym (list_all-append (nat_le m) ms ns) ∙ both.0)).0 (fall_front ms ns both.1)

-- ---- numbers that stand once
neither : (a b : Bool) → not (a || b) ≡ true → not a ≡ true
neither true b h = h
neither false b h = refl

distinct_front : (ps qs : List ℕ) → are_distinct (ps ++ qs) ≡ true → are_distinct ps ≡ true
distinct_front [] qs h = refl
distinct_front (p ∷ ps) qs h =
    let both = and_parts (not (is_among p (ps ++ qs))) (are_distinct (ps ++ qs)) h in
    and_from (not (is_among p ps)) (are_distinct ps)
    (neither (is_among p ps) (is_among p qs) (ap not (sym (list_any-append (λ q. q == p) ps qs)) ∙ both.0)) (distinct_front ps qs both.1)

-- ---- one write
ends_distinct : (ps : List ℕ) (es : EventList) → may_end ps es ≡ true → are_distinct ps ≡ true
ends_distinct ps [] h = h
ends_distinct ps (Passed w p ∷ es) h = never h
ends_distinct ps (Sent w c d ∷ []) h = subst (λ qs. are_distinct qs ≡ true) (sym ((bytes_decides ps (policies_in_order d)).0 h)) (order_distinct (flat_map numbers (sets_of d)))
ends_distinct ps (Sent w c d ∷ e ∷ es) h = never h
ends_distinct ps (Denied w c p class from to by ∷ []) h =
    (and_parts (are_distinct ps) (not (is_among p ps)) (and_parts (are_distinct ps && not (is_among p ps)) (nat_lt from to) h).0).0
ends_distinct ps (Denied w c p class from to by ∷ e ∷ es) h = never h
ends_distinct [] (FilterDenied w c f class len by ∷ es) h = refl
ends_distinct (p ∷ ps) (FilterDenied w c f class len by ∷ es) h = never h

one_front : (ps : List ℕ) (es fs : EventList) → may_end (ps ++ passed_first (es ++ fs)) (behind_passed (es ++ fs)) ≡ true
    → may_end (ps ++ passed_first es) (behind_passed es) ≡ true
one_front ps [] fs h =
    ap are_distinct (append-nil ps) ∙ distinct_front ps (passed_first fs) (ends_distinct (ps ++ passed_first fs) (behind_passed fs) h)
one_front ps (Passed w p ∷ es) fs h =
    ap (λ qs. may_end qs (behind_passed es)) (sym (append_assoc ps (p ∷ []) (passed_first es)))
    ∙ one_front (ps ++ p ∷ []) es fs (ap (λ qs. may_end qs (behind_passed (es ++ fs))) (append_assoc ps (p ∷ []) (passed_first (es ++ fs))) ∙ h)
one_front ps (Sent w c d ∷ []) [] h = h
one_front ps (Sent w c d ∷ []) (f ∷ fs) h = never h
one_front ps (Sent w c d ∷ e ∷ es) fs h = never h
one_front ps (Denied w c p class from to by ∷ []) [] h = h
one_front ps (Denied w c p class from to by ∷ []) (f ∷ fs) h = never h
one_front ps (Denied w c p class from to by ∷ e ∷ es) fs h = never h
one_front ps (FilterDenied w c g class len by ∷ []) [] h = h
one_front [] (FilterDenied w c g class len by ∷ []) (f ∷ fs) h = never h
one_front (p ∷ ps) (FilterDenied w c g class len by ∷ []) (f ∷ fs) h = never h
one_front [] (FilterDenied w c g class len by ∷ e ∷ es) fs h = never h
one_front (p ∷ ps) (FilterDenied w c g class len by ∷ e ∷ es) fs h = never h

pub fronts_obey : FrontsObey
fronts_obey j k law = record {
  placed = (and_parts (list_all is_placed j) (list_all is_placed k) (sym (list_all-append is_placed j k) ∙ law.placed)).0;
  checked = λ w above. one_front [] (events_of w j) (events_of w k) (ap is_one_write (sym (filter-append (λ e. write_of e == w) j k)) ∙ law.checked w above);
  in_order =
      fall_front (writes_of j) (writes_of k)
      (ap never_fall (sym (ap (filter (nat_lt 0)) (map-append write_of j k) ∙ filter-append (nat_lt 0) (map write_of j) (map write_of k))) ∙ law.in_order);
}
