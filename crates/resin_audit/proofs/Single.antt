-- A text has one verdict.
use Rattle.std.proofs.Common.{◌≡◌, ◌≢◌, ℕ, zero, suc, ◌+◌, ◌-◌, ◌<◌, ◌≤◌, List, [], ◌∷◌, ◌++◌, Bool, true, false, cond, not, ◌&&◌, ◌||◌, nat_lt, nat_le, nat_eq, length, take, drop, map, refl, sym, ap, subst, ◌∙◌, arith, append_assoc, append-nil, ◌⊎◌, inl, inr}
use Rattle.std.specs.Prelude.{◌==◌}
use Rattle.std.specs.List.{filter, list_all, list_any, flat_map}
use Rattle.std.specs.Cmp.Lexicographic.{pointwise}
use Rattle.std.proofs.lemmas.List.{map-append, take-append-drop}
use Rattle.std.proofs.lemmas.List.Elements.{filter-append}
use Rattle.std.proofs.lemmas.List.Folds.{list_all-append}
use Rattle.std.proofs.lemmas.Bool.Decides.{nat_tests}
use Rattle.resin_label.specs.Sets.{numbers}
use Rattle.resin_lstr.specs.Texts.{Text, distinct, sets_of, policies_in_order}
use Rattle.resin_journal.specs.declared.event.Event.{Event}
use Rattle.resin_journal.specs.declared.event.Event.TheVariants.{Passed, Sent, Denied, FilterDenied}
use Rattle.resin_journal.specs.Events.{EventList}
use Rattle.resin_journal.specs.Access.{write_of, is_placed, events_of, passed_first, behind_passed, is_among, are_distinct, may_end, is_one_write, never_fall, writes_of, ObeysAccessLaw}
use Rattle.resin_journal_file.specs.Limits.{Each, IsFileOf, IsFile}
use Rattle.resin_journal_file.proofs.Decimals.{text_is}
use Rattle.resin_journal_file.proofs.Once.{says_one_thing}
use Rattle.resin_audit.specs.declared.verdict.Verdict.{Verdict}
use Rattle.resin_audit.specs.declared.verdict.Verdict.TheVariants.{Yes, Form, Law}
use Rattle.resin_audit.specs.Verdicts.{events_in, EndsFile, BreaksAt, IsYes, IsBroken, Says, HasOneVerdict}

false_true : false ≡ true → ⊥
false_true e = cc

first_true : (a b : Bool) → (a && b) ≡ true → a ≡ true
first_true true b h = refl
first_true false b h = absurd (false_true h)

second_true : (a b : Bool) → (a && b) ≡ true → b ≡ true
second_true true b h = h
second_true false b h = absurd (false_true h)

both : (a b : Bool) → a ≡ true → b ≡ true → (a && b) ≡ true
both a b h k = ap (λ x. x && b) h ∙ k

-- ---- lists without repeats
not_true : (b : Bool) → not b ≡ true → b ≡ false
not_true true h = absurd (false_true h)
not_true false h = refl

among_kept : (p : ℕ) (t : ℕ → Bool) (ps : List ℕ) → is_among p ps ≡ false → is_among p (filter t ps) ≡ false
among_kept p t [] h = refl
among_kept p t (q ∷ ps) h = by (q == p) (t q) refl h (λ k. among_kept p t ps k)
  where
    by : (b c : Bool) → (q == p) ≡ b → (b || is_among p ps) ≡ false → (is_among p ps ≡ false → is_among p (filter t ps) ≡ false) → is_among p (cond c (q ∷ filter t ps) (filter t ps)) ≡ false
    by true c e h rest = absurd (false_true (sym h))
    by false true e h rest = ap (λ b. b || is_among p (filter t ps)) e ∙ rest h
    by false false e h rest = rest h

kept_distinct : (t : ℕ → Bool) (ps : List ℕ) → are_distinct ps ≡ true → are_distinct (filter t ps) ≡ true
kept_distinct t [] h = refl
kept_distinct t (p ∷ ps) h = by (t p) (kept_distinct t ps (second_true (not (is_among p ps)) (are_distinct ps) h)) (not_true (is_among p ps) (first_true (not (is_among p ps)) (are_distinct ps) h))
  where
    by : (c : Bool) → are_distinct (filter t ps) ≡ true → is_among p ps ≡ false → are_distinct (cond c (p ∷ filter t ps) (filter t ps)) ≡ true
    by true rest out = both (not (is_among p (filter t ps))) (are_distinct (filter t ps)) (ap not (among_kept p t ps out)) rest
    by false rest out = rest

taken_out : (p : ℕ) (ps : List ℕ) → is_among p (filter (λ q. not (nat_eq p q)) ps) ≡ false
taken_out p [] = refl
taken_out p (q ∷ ps) = by (nat_eq p q) refl (taken_out p ps)
  where
    by : (b : Bool) → nat_eq p q ≡ b → is_among p (filter (λ q. not (nat_eq p q)) ps) ≡ false
        → is_among p (cond (not b) (q ∷ filter (λ q. not (nat_eq p q)) ps) (filter (λ q. not (nat_eq p q)) ps)) ≡ false
    by true e rest = rest
    by false e rest = (let other : (q == p) ≡ false = grind (arith, nat_tests) in ap (λ b. b || is_among p (filter (λ q. not (nat_eq p q)) ps)) other) ∙ rest

distinct_once : (ns : List ℕ) → are_distinct (distinct nat_eq ns) ≡ true
distinct_once [] = refl
distinct_once (n ∷ ns) =
    both (not (is_among n (filter (λ m. not (nat_eq n m)) (distinct nat_eq ns)))) (are_distinct (filter (λ m. not (nat_eq n m)) (distinct nat_eq ns)))
    (ap not (taken_out n (distinct nat_eq ns))) (kept_distinct (λ m. not (nat_eq n m)) (distinct nat_eq ns) (distinct_once ns))

among_front : (p : ℕ) (ps qs : List ℕ) → is_among p (ps ++ qs) ≡ false → is_among p ps ≡ false
among_front p [] qs h = refl
among_front p (r ∷ ps) qs h = by (r == p) h (λ k. among_front p ps qs k)
  where
    by : (b : Bool) → (b || is_among p (ps ++ qs)) ≡ false → (is_among p (ps ++ qs) ≡ false → is_among p ps ≡ false) → (b || is_among p ps) ≡ false
    by true h rest = absurd (false_true (sym h))
    by false h rest = rest h

distinct_front : (ps qs : List ℕ) → are_distinct (ps ++ qs) ≡ true → are_distinct ps ≡ true
distinct_front [] qs h = refl
distinct_front (p ∷ ps) qs h =
    both (not (is_among p ps)) (are_distinct ps) (out (is_among p (ps ++ qs)) refl (first_true (not (is_among p (ps ++ qs))) (are_distinct (ps ++ qs)) h))
    (distinct_front ps qs (second_true (not (is_among p (ps ++ qs))) (are_distinct (ps ++ qs)) h))
  where
    out : (b : Bool) → is_among p (ps ++ qs) ≡ b → not b ≡ true → not (is_among p ps) ≡ true
    out true e h = absurd (false_true h)
    out false e h = ap not (among_front p ps qs e)

-- ---- a front of the events of one write
-- behind an event that ends a write none may come
no_more : (ps : List ℕ) (e d : Event) (es : EventList) → may_end ps (e ∷ d ∷ es) ≡ false
no_more [] (Passed w p) d es = refl
no_more (q ∷ ps) (Passed w p) d es = refl
no_more [] (Sent w c t) d es = refl
no_more (q ∷ ps) (Sent w c t) d es = refl
no_more [] (Denied w c p class from to by) d es = refl
no_more (q ∷ ps) (Denied w c p class from to by) d es = refl
no_more [] (FilterDenied w c f class len by) d es = refl
no_more (q ∷ ps) (FilterDenied w c f class len by) d es = refl

end_distinct : (ps : List ℕ) (es : EventList) → may_end ps es ≡ true → are_distinct ps ≡ true
end_distinct ps [] h = h
end_distinct ps (e ∷ d ∷ es) h = absurd (false_true (sym (no_more ps e d es) ∙ h))
end_distinct [] (Passed w p ∷ []) h = absurd (false_true h)
end_distinct (q ∷ ps) (Passed w p ∷ []) h = absurd (false_true h)
end_distinct [] (Sent w c t ∷ []) h = refl
end_distinct (q ∷ ps) (Sent w c t ∷ []) h = ap are_distinct (text_is (q ∷ ps) (policies_in_order t) h) ∙ distinct_once (flat_map numbers (sets_of t))
end_distinct [] (Denied w c p class from to by ∷ []) h = refl
end_distinct (q ∷ ps) (Denied w c p class from to by ∷ []) h =
    first_true (are_distinct (q ∷ ps)) (not (is_among p (q ∷ ps))) (first_true (are_distinct (q ∷ ps) && not (is_among p (q ∷ ps))) (nat_lt from to) h)
end_distinct [] (FilterDenied w c f class len by ∷ []) h = refl
end_distinct (q ∷ ps) (FilterDenied w c f class len by ∷ []) h = absurd (false_true h)

ending_front : (ps : List ℕ) (e : Event) (es fs : EventList) → may_end (ps ++ []) (e ∷ (es ++ fs)) ≡ true → may_end (ps ++ []) (e ∷ es) ≡ true
ending_front ps e [] [] h = h
ending_front ps e [] (f ∷ fs) h = absurd (false_true (sym (no_more (ps ++ []) e f fs) ∙ h))
ending_front ps e (d ∷ es) fs h = absurd (false_true (sym (no_more (ps ++ []) e d (es ++ fs)) ∙ h))

write_front : (ps : List ℕ) (es fs : EventList) → may_end (ps ++ passed_first (es ++ fs)) (behind_passed (es ++ fs)) ≡ true → may_end (ps ++ passed_first es) (behind_passed es) ≡ true
write_front ps [] fs h = ap are_distinct (append-nil ps) ∙ distinct_front ps (passed_first fs) (end_distinct (ps ++ passed_first fs) (behind_passed fs) h)
write_front ps (Passed w p ∷ es) fs h =
    ap (λ qs. may_end qs (behind_passed es)) (sym (append_assoc ps (p ∷ []) (passed_first es)))
    ∙ write_front (ps ++ p ∷ []) es fs (ap (λ qs. may_end qs (behind_passed (es ++ fs))) (append_assoc ps (p ∷ []) (passed_first (es ++ fs))) ∙ h)
write_front ps (Sent w c t ∷ es) fs h = ending_front ps (Sent w c t) es fs h
write_front ps (Denied w c p class from to by ∷ es) fs h = ending_front ps (Denied w c p class from to by) es fs h
write_front ps (FilterDenied w c f class len by ∷ es) fs h = ending_front ps (FilterDenied w c f class len by) es fs h

-- ---- a front of a journal
all_front : (t : ℕ → Bool) (ms ns : List ℕ) → list_all t (ms ++ ns) ≡ true → list_all t ms ≡ true
all_front t ms ns h = first_true (list_all t ms) (list_all t ns) (sym (list_all-append t ms ns) ∙ h)

fall_front : (ms ns : List ℕ) → never_fall (ms ++ ns) ≡ true → never_fall ms ≡ true
fall_front [] ns h = refl
fall_front (m ∷ ms) ns h =
    both (list_all (nat_le m) ms) (never_fall ms) (all_front (nat_le m) ms ns (first_true (list_all (nat_le m) (ms ++ ns)) (never_fall (ms ++ ns)) h))
    (fall_front ms ns (second_true (list_all (nat_le m) (ms ++ ns)) (never_fall (ms ++ ns)) h))

obeys_front : (j k : EventList) → ObeysAccessLaw (j ++ k) → ObeysAccessLaw j
obeys_front j k l = record {
  placed = first_true (list_all is_placed j) (list_all is_placed k) (sym (list_all-append is_placed j k) ∙ l.placed);
  checked = λ w h. write_front [] (events_of w j) (events_of w k) (ap is_one_write (sym (filter-append (λ e. write_of e == w) j k)) ∙ l.checked w h);
  in_order = fall_front (writes_of j) (writes_of k)
      (ap never_fall (sym (ap (filter (λ w. nat_lt 0 w)) (map-append write_of j k) ∙ filter-append (λ w. nat_lt 0 w) (map write_of j) (map write_of k))) ∙ l.in_order);
}

take_obeys : (n : ℕ) (j : EventList) → ObeysAccessLaw j → ObeysAccessLaw (take n j)
take_obeys n j l = obeys_front (take n j) (drop n j) (subst ObeysAccessLaw (sym (take-append-drop n j)) l)

-- ---- verdicts
each_at : (P : EventList → Type 0) (js : List EventList) (j : EventList) (ks : List EventList) → Each P (js ++ j ∷ ks) → P j
each_at P [] j ks h = h.0
each_at P (i ∷ js) j ks h = each_at P js j ks h.1

-- the first journal that breaks the law is one
record Same (before before2 : List EventList) (j j2 : EventList) : Type 0 where
  places : length before ≡ length before2
  journal : j ≡ j2

same_first : (before before2 : List EventList) (j j2 : EventList) (behind behind2 : List EventList) → before ++ j ∷ behind ≡ before2 ++ j2 ∷ behind2
    → Each ObeysAccessLaw before → Each ObeysAccessLaw before2 → (ObeysAccessLaw j → ⊥) → (ObeysAccessLaw j2 → ⊥) → Same before before2 j j2
same_first [] [] j j2 behind behind2 e o o2 n n2 = record { places = refl; journal = head e }
  where
    head : j ∷ behind ≡ j2 ∷ behind2 → j ≡ j2
    head e = cc
same_first [] (i ∷ before2) j j2 behind behind2 e o o2 n n2 = absurd (n (subst ObeysAccessLaw (sym (head e)) o2.0))
  where
    head : j ∷ behind ≡ i ∷ (before2 ++ j2 ∷ behind2) → j ≡ i
    head e = cc
same_first (i ∷ before) [] j j2 behind behind2 e o o2 n n2 = absurd (n2 (subst ObeysAccessLaw (head e) o.0))
  where
    head : i ∷ (before ++ j ∷ behind) ≡ j2 ∷ behind2 → i ≡ j2
    head e = cc
same_first (i ∷ before) (i2 ∷ before2) j j2 behind behind2 e o o2 n n2 =
    let s = same_first before before2 j j2 behind behind2 (tail e) o.1 o2.1 n n2 in record { places = ap suc s.places; journal = s.journal }
  where
    tail : i ∷ (before ++ j ∷ behind) ≡ i2 ∷ (before2 ++ j2 ∷ behind2) → before ++ j ∷ behind ≡ before2 ++ j2 ∷ behind2
    tail e = cc

not_lawful : (k : ℕ) (j : EventList) → BreaksAt k j → ObeysAccessLaw j → ⊥
not_lawful k j b o = b.breaks (take_obeys k j o)

in_turn : (a b : ℕ) → (a < b → ⊥) → (b < a → ⊥) → a ≡ b
in_turn zero zero h k = refl
in_turn zero (suc b) h k = absurd (h (omega arith))
in_turn (suc a) zero h k = absurd (k (omega arith))
in_turn (suc a) (suc b) h k = ap suc (in_turn a b (λ l. h (omega (arith, l))) (λ l. k (omega (arith, l))))

same_event : (a b : ℕ) (j : EventList) → BreaksAt a j → BreaksAt b j → a ≡ b
same_event a b j x y = in_turn a b (λ l. x.breaks (y.fewer a l)) (λ l. y.breaks (x.fewer b l))

pub one_verdict : HasOneVerdict
one_verdict text (Yes q e) (Yes r f) a b =
    let same = says_one_thing text a.journals b.journals a.file b.file in
    let qs : q ≡ r = a.requests_are ∙ ap length same ∙ sym b.requests_are in
    let es : e ≡ f = a.events_are ∙ ap events_in same ∙ sym b.events_are in
    ap (λ n. Yes n e) qs ∙ ap (λ n. Yes r n) es
one_verdict text (Yes q e) (Form at) a b = absurd (b.0 (a.journals, a.file))
one_verdict text (Yes q e) (Law r k) a b =
    let same = says_one_thing text a.journals (b.before ++ b.journal ∷ b.behind) a.file b.file in
    absurd (not_lawful k b.journal b.breaks (each_at ObeysAccessLaw b.before b.journal b.behind (subst (Each ObeysAccessLaw) same a.obey)))
one_verdict text (Form at) (Yes r f) a b = absurd (a.0 (b.journals, b.file))
one_verdict text (Form at) (Form to) a b =
    ap Form (in_turn at to (λ l. a.1.longest to l b.1.within b.1.is_file) (λ l. b.1.longest at l a.1.within a.1.is_file))
one_verdict text (Form at) (Law r k) a b = absurd (a.0 (b.before ++ b.journal ∷ b.behind, b.file))
one_verdict text (Law q e) (Yes r f) a b =
    let same = says_one_thing text b.journals (a.before ++ a.journal ∷ a.behind) b.file a.file in
    absurd (not_lawful e a.journal a.breaks (each_at ObeysAccessLaw a.before a.journal a.behind (subst (Each ObeysAccessLaw) same b.obey)))
one_verdict text (Law q e) (Form to) a b = absurd (b.0 (a.before ++ a.journal ∷ a.behind, a.file))
one_verdict text (Law q e) (Law r f) a b =
    let same = says_one_thing text (a.before ++ a.journal ∷ a.behind) (b.before ++ b.journal ∷ b.behind) a.file b.file in
    let s = same_first a.before b.before a.journal b.journal a.behind b.behind same a.obey b.obey (not_lawful e a.journal a.breaks) (not_lawful f b.journal b.breaks) in
    let qs : q ≡ r = a.request_is ∙ ap (λ n. n + 1) s.places ∙ sym b.request_is in
    let es : e ≡ f = same_event e f b.journal (subst (BreaksAt e) s.journal a.breaks) b.breaks in
    ap (λ n. Law n e) qs ∙ ap (λ n. Law r n) es
