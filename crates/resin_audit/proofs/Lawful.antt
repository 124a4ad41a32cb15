-- One more event keeps the access law exactly where what is kept of the events before lets it come.
use Rattle.std.proofs.Common.{◌≡◌, ◌≢◌, ℕ, suc, ◌+◌, ◌≤◌, ◌<◌, List, [], ◌∷◌, ◌++◌, Bool, true, false, cond, not, ◌&&◌, ◌||◌, nat_lt, nat_le, nat_eq, map, Option, Some, None, refl, sym, ap, subst, ◌∙◌, arith, append_assoc}
use Rattle.std.specs.Prelude.{◌==◌}
use Rattle.std.specs.List.{filter, list_all, list_any}
use Rattle.std.specs.Cmp.Lexicographic.{pointwise}
use Rattle.std.proofs.lemmas.List.{append-nil, map-append}
use Rattle.std.proofs.lemmas.List.Elements.{filter-append}
use Rattle.std.proofs.lemmas.List.Folds.{list_all-append, list_any-append}
use Rattle.std.proofs.lemmas.Bool.Decides.{nat_tests}
use Rattle.resin_lstr.specs.Texts.{Text, policies_in_order}
use Rattle.resin_journal.specs.declared.event.Event.{Event}
use Rattle.resin_journal.specs.declared.event.Event.TheVariants.{Passed, Sent, Denied, FilterDenied}
use Rattle.resin_journal.specs.declared.channel.Channel.{Channel}
use Rattle.resin_journal.specs.Channels.{is_leaving}
use Rattle.resin_journal.specs.Events.{EventList}
use Rattle.resin_journal.specs.Access.{write_of, is_placed, events_of, passed_first, behind_passed, is_among, are_distinct, may_end, is_one_write, never_fall, writes_of, ObeysAccessLaw}
use Rattle.resin_journal_file.specs.Reading.{and_then}
use Rattle.resin_audit.specs.Following.{Last, nothing_yet, goes_on, may_leave, passes, ends, is_none, behind}
use Rattle.resin_audit.specs.Told.{told_of}

false_true : false ≡ true → ⊥
false_true e = cc

ne_false : (a b : ℕ) → a ≢ b → (a == b) ≡ false
ne_false a b h = grind (arith, nat_tests)

eq_true : (a b : ℕ) → a ≡ b → (a == b) ≡ true
eq_true a b h = grind (arith, nat_tests)

eq_from : (a b : ℕ) → (a == b) ≡ true → a ≡ b
eq_from a b h = grind (arith, nat_tests)

lt_true : (a b : ℕ) → a < b → nat_lt a b ≡ true
lt_true a b h = grind (arith, nat_tests)

lt_from : (a b : ℕ) → nat_lt a b ≡ true → a < b
lt_from a b h = grind (arith, nat_tests)

lt_not : (a b : ℕ) → nat_lt a b ≡ false → b ≤ a
lt_not a b h = grind (arith, nat_tests)

le_true : (a b : ℕ) → a ≤ b → nat_le a b ≡ true
le_true a b h = grind (arith, nat_tests)

le_from : (a b : ℕ) → nat_le a b ≡ true → a ≤ b
le_from a b h = grind (arith, nat_tests)

both : (a b : Bool) → a ≡ true → b ≡ true → (a && b) ≡ true
both a b h k = ap (λ x. x && b) h ∙ k

first_true : (a b : Bool) → (a && b) ≡ true → a ≡ true
first_true true b h = refl
first_true false b h = absurd (false_true h)

second_true : (a b : Bool) → (a && b) ≡ true → b ≡ true
second_true true b h = h
second_true false b h = absurd (false_true h)

-- ---- numbers of writes
bound_more : (n m : ℕ) (j : EventList) → n ≤ m → list_all (λ e. nat_le (write_of e) n) j ≡ true → list_all (λ e. nat_le (write_of e) m) j ≡ true
bound_more n m [] le h = refl
bound_more n m (e ∷ j) le h =
    both (nat_le (write_of e) m) _ (le_true (write_of e) m (let k = le_from (write_of e) n (first_true (nat_le (write_of e) n) (list_all (λ e. nat_le (write_of e) n) j) h) in omega (arith, le, k)))
    (bound_more n m j le (second_true (nat_le (write_of e) n) (list_all (λ e. nat_le (write_of e) n) j) h))

none_above : (n w : ℕ) (j : EventList) → n < w → list_all (λ e. nat_le (write_of e) n) j ≡ true → events_of w j ≡ []
none_above n w [] lt h = refl
none_above n w (e ∷ j) lt h =
    ap (λ b. cond b (e ∷ events_of w j) (events_of w j))
    (ne_false (write_of e) w (λ q. let k = le_from (write_of e) n (first_true (nat_le (write_of e) n) (list_all (λ e. nat_le (write_of e) n) j) h) in omega (arith, lt, k, q)))
    ∙ none_above n w j lt (second_true (nat_le (write_of e) n) (list_all (λ e. nat_le (write_of e) n) j) h)

one_of : (w : ℕ) (e : Event) → write_of e ≡ w → events_of w (e ∷ []) ≡ e ∷ []
one_of w e h = ap (λ b. cond b (e ∷ []) []) (eq_true (write_of e) w h)

other_of : (w : ℕ) (e : Event) → write_of e ≢ w → events_of w (e ∷ []) ≡ []
other_of w e h = ap (λ b. cond b (e ∷ []) []) (ne_false (write_of e) w h)

events-append : (w : ℕ) (j k : EventList) → events_of w (j ++ k) ≡ events_of w j ++ events_of w k
events-append w j k = filter-append (λ e. write_of e == w) j k

events_next : (w : ℕ) (j : EventList) (e : Event) → write_of e ≡ w → events_of w (j ++ e ∷ []) ≡ events_of w j ++ e ∷ []
events_next w j e h = events-append w j (e ∷ []) ∙ ap (λ es. events_of w j ++ es) (one_of w e h)

events_same : (w : ℕ) (j : EventList) (e : Event) → write_of e ≢ w → events_of w (j ++ e ∷ []) ≡ events_of w j
events_same w j e h = events-append w j (e ∷ []) ∙ ap (λ es. events_of w j ++ es) (other_of w e h) ∙ append-nil (events_of w j)

writes-append : (j k : EventList) → writes_of (j ++ k) ≡ writes_of j ++ writes_of k
writes-append j k = ap (filter (λ w. nat_lt 0 w)) (map-append write_of j k) ∙ filter-append (λ w. nat_lt 0 w) (map write_of j) (map write_of k)

writes_next : (w : ℕ) (j : EventList) (e : Event) → 0 < w → write_of e ≡ w → writes_of (j ++ e ∷ []) ≡ writes_of j ++ w ∷ []
writes_next w j e pos h =
    writes-append j (e ∷ [])
    ∙ ap (λ ws. writes_of j ++ ws) (ap (λ n. cond (nat_lt 0 n) (n ∷ []) []) h ∙ ap (λ b. cond b (w ∷ []) []) (lt_true 0 w pos))

writes_same : (j : EventList) (e : Event) → write_of e ≡ 0 → writes_of (j ++ e ∷ []) ≡ writes_of j
writes_same j e h = writes-append j (e ∷ []) ∙ ap (λ ws. writes_of j ++ ws) (ap (λ n. cond (nat_lt 0 n) (n ∷ []) []) h) ∙ append-nil (writes_of j)

bounded : (n : ℕ) (j : EventList) → list_all (λ e. nat_le (write_of e) n) j ≡ true → list_all (λ w. nat_le w n) (writes_of j) ≡ true
bounded n [] h = refl
bounded n (e ∷ j) h = by (bounded n j (second_true (nat_le (write_of e) n) (list_all (λ e. nat_le (write_of e) n) j) h)) (nat_lt 0 (write_of e))
  where
    by : list_all (λ w. nat_le w n) (writes_of j) ≡ true → (b : Bool) → list_all (λ w. nat_le w n) (cond b (write_of e ∷ writes_of j) (writes_of j)) ≡ true
    by rest true = both (nat_le (write_of e) n) (list_all (λ w. nat_le w n) (writes_of j)) (first_true (nat_le (write_of e) n) (list_all (λ e. nat_le (write_of e) n) j) h) rest
    by rest false = rest

rising_next : (n : ℕ) (ns : List ℕ) → list_all (λ w. nat_le w n) ns ≡ true → never_fall ns ≡ true → never_fall (ns ++ n ∷ []) ≡ true
rising_next n [] h r = refl
rising_next n (m ∷ ns) h r =
    both (list_all (nat_le m) (ns ++ n ∷ [])) (never_fall (ns ++ n ∷ []))
    (list_all-append (nat_le m) ns (n ∷ []) ∙ both (list_all (nat_le m) ns) (nat_le m n && true) (first_true (list_all (nat_le m) ns) (never_fall ns) r)
    (both (nat_le m n) true (first_true (nat_le m n) (list_all (λ w. nat_le w n) ns) h) refl))
    (rising_next n ns (second_true (nat_le m n) (list_all (λ w. nat_le w n) ns) h) (second_true (list_all (nat_le m) ns) (never_fall ns) r))

-- behind a number none is below it
never_below : (v w : ℕ) (ns : List ℕ) → never_fall ((ns ++ v ∷ []) ++ w ∷ []) ≡ true → v ≤ w
never_below v w [] h = le_from v w (first_true (nat_le v w) true (first_true (nat_le v w && true) true h))
never_below v w (n ∷ ns) h = never_below v w ns (second_true (list_all (nat_le n) ((ns ++ v ∷ []) ++ w ∷ [])) (never_fall ((ns ++ v ∷ []) ++ w ∷ [])) h)

-- ---- one more event
all-next : (p : Event → Bool) (j : EventList) (e : Event) → list_all p j ≡ true → p e ≡ true → list_all p (j ++ e ∷ []) ≡ true
all-next p j e h k = list_all-append p j (e ∷ []) ∙ both (list_all p j) (p e && true) h (both (p e) true k refl)

placed_last : (j : EventList) (e : Event) → ObeysAccessLaw (j ++ e ∷ []) → is_placed e ≡ true
placed_last j e l = first_true (is_placed e) true (second_true (list_all is_placed j) (is_placed e && true) (sym (list_all-append is_placed j (e ∷ [])) ∙ l.placed))

-- the write under way, in which these policies returned
pub record Open (j : EventList) (w : ℕ) (ps : List ℕ) : Type 0 where
  pub law : ObeysAccessLaw j
  pub bounded : list_all (λ e. nat_le (write_of e) w) j ≡ true
  pub positive : 0 < w
  pub events : events_of w j ≡ map (Passed w) ps
  pub distinct : are_distinct ps ≡ true

obeys_next : (j : EventList) (w : ℕ) (ps : List ℕ) (e : Event) → Open j w ps → write_of e ≡ w → is_placed e ≡ true → is_one_write (events_of w j ++ e ∷ []) ≡ true → ObeysAccessLaw (j ++ e ∷ [])
obeys_next j w ps e o same placed one = record {
  placed = all-next is_placed j e o.law.placed placed;
  checked = λ v h. each v h (w == v) refl;
  in_order = ap never_fall (writes_next w j e o.positive same) ∙ rising_next w (writes_of j) (bounded w j o.bounded) o.law.in_order;
}
  where
    each : (v : ℕ) → 0 < v → (b : Bool) → (w == v) ≡ b → is_one_write (events_of v (j ++ e ∷ [])) ≡ true
    each v h true t = subst (λ u. is_one_write (events_of u (j ++ e ∷ [])) ≡ true) (eq_from w v t) (ap is_one_write (events_next w j e same) ∙ one)
    each v h false t = ap is_one_write (events_same v j e (λ k. false_true (sym t ∙ eq_true w v (sym same ∙ k)))) ∙ o.law.checked v h

obeys_outside : (j : EventList) (e : Event) → ObeysAccessLaw j → write_of e ≡ 0 → is_placed e ≡ true → ObeysAccessLaw (j ++ e ∷ [])
obeys_outside j e l zero placed = record {
  placed = all-next is_placed j e l.placed placed;
  checked = λ w h. ap is_one_write (events_same w j e (λ q. omega (arith, h, zero, q))) ∙ l.checked w h;
  in_order = ap never_fall (writes_same j e zero) ∙ l.in_order;
}

-- ---- the events of one write
passed_first-map : (w : ℕ) (ps : List ℕ) (es : EventList) → passed_first (map (Passed w) ps ++ es) ≡ ps ++ passed_first es
passed_first-map w [] es = refl
passed_first-map w (p ∷ ps) es = ap (λ qs. p ∷ qs) (passed_first-map w ps es)

behind-map : (w : ℕ) (ps : List ℕ) (es : EventList) → behind_passed (map (Passed w) ps ++ es) ≡ behind_passed es
behind-map w [] es = refl
behind-map w (p ∷ ps) es = behind-map w ps es

one_write : (w : ℕ) (ps : List ℕ) (es fs : EventList) → es ≡ map (Passed w) ps → is_one_write (es ++ fs) ≡ may_end (ps ++ passed_first fs) (behind_passed fs)
one_write w ps es fs h = ap (λ es. is_one_write (es ++ fs)) h ∙ (λ i. may_end (passed_first-map w ps fs i) (behind-map w ps fs i))

among_next : (q : ℕ) (ps : List ℕ) (p : ℕ) → is_among q (ps ++ p ∷ []) ≡ (is_among q ps || (p == q))
among_next q ps p = list_any-append (λ r. r == q) ps (p ∷ []) ∙ ap (λ b. is_among q ps || b) (elim (p == q) as (λ b. (b || false) ≡ b) [ true ↦ refl | false ↦ refl ])

not_true : (b : Bool) → not b ≡ true → b ≡ false
not_true true h = absurd (false_true h)
not_true false h = refl

distinct_next : (ps : List ℕ) (p : ℕ) → are_distinct ps ≡ true → is_among p ps ≡ false → are_distinct (ps ++ p ∷ []) ≡ true
distinct_next [] p d o = refl
distinct_next (q ∷ ps) p d o = by (λ k. distinct_next ps p (second_true (not (is_among q ps)) (are_distinct ps) d) k) (q == p) refl
  where
    by : (is_among p ps ≡ false → are_distinct (ps ++ p ∷ []) ≡ true) → (b : Bool) → (q == p) ≡ b → are_distinct (q ∷ (ps ++ p ∷ [])) ≡ true
    by rest true t = absurd (false_true (sym o ∙ ap (λ b. b || is_among p ps) t))
    by rest false t =
        let o' : is_among p ps ≡ false = sym (ap (λ b. b || is_among p ps) t) ∙ o in
        let ne : p ≢ q = λ e. false_true (sym t ∙ eq_true q p (sym e)) in
        let out : is_among q (ps ++ p ∷ []) ≡ false =
        among_next q ps p ∙ (ap (λ b. b || (p == q)) (not_true _ (first_true (not (is_among q ps)) (are_distinct ps) d)) ∙ ne_false p q ne) in
        both (not (is_among q (ps ++ p ∷ []))) (are_distinct (ps ++ p ∷ [])) (ap not out) (rest o')

or_true : (a b : Bool) → b ≡ true → (a || b) ≡ true
or_true true b h = refl
or_true false b h = h

-- a number that stands there already
not_again : (ps : List ℕ) (p : ℕ) → are_distinct (ps ++ p ∷ []) ≡ true → is_among p ps ≡ false
not_again [] p d = refl
not_again (q ∷ ps) p d = by (q == p) refl (not_again ps p (second_true (not (is_among q (ps ++ p ∷ []))) (are_distinct (ps ++ p ∷ [])) d))
  where
    head : not (is_among q (ps ++ p ∷ [])) ≡ true
    head = first_true (not (is_among q (ps ++ p ∷ []))) (are_distinct (ps ++ p ∷ [])) d

    by : (b : Bool) → (q == p) ≡ b → is_among p ps ≡ false → is_among p (q ∷ ps) ≡ false
    by true t out =
        let there : is_among q (ps ++ p ∷ []) ≡ true = among_next q ps p ∙ or_true (is_among q ps) (p == q) (eq_true p q (sym (eq_from q p t))) in
        absurd (false_true (sym (not_true _ head) ∙ there))
    by false t out = ap (λ b. b || is_among p ps) t ∙ out

-- ---- what is kept
-- of the last write: while it goes on, the policies that returned; once it ended, that no event of it may follow
abbrev pub Current : EventList → ℕ → List ℕ → Bool → Type 0
Current j w ps false = 0 < w → (events_of w j ≡ map (Passed w) ps) × (are_distinct ps ≡ true)
Current j w ps true = (0 < w) × ((e : Event) → write_of e ≡ w → is_one_write (events_of w j ++ e ∷ []) ≡ false)

-- what is kept of a journal that obeys the law
pub record Follows (j : EventList) (s : Last) : Type 0 where
  pub law : ObeysAccessLaw j
  pub bounded : list_all (λ e. nat_le (write_of e) s.write) j ≡ true
  pub latest : (w : ℕ) → never_fall (writes_of j ++ w ∷ []) ≡ true → s.write ≤ w
  pub current : Current j s.write s.passed s.ended

pub follows_none : Follows [] nothing_yet
follows_none = record {
  law = record { placed = refl; checked = λ w h. refl; in_order = refl };
  bounded = refl;
  latest = λ w h. omega arith;
  current = λ h. (absurd (omega (arith, h)), refl);
}

-- what is known behind one more event, or why it may not come
abbrev pub Steps : EventList → Event → Option Last → Type 0
Steps j e (Some t) = Follows (j ++ e ∷ []) t
Steps j e None = ObeysAccessLaw (j ++ e ∷ []) → ⊥

-- what is known where an event of a write may come, or why it may not
abbrev Goes : EventList → Event → ℕ → Option Last → Type 0
Goes j e w (Some t) = Open j w t.passed × (t.write ≡ w) × (t.ended ≡ false)
Goes j e w None = 0 < w → ObeysAccessLaw (j ++ e ∷ []) → ⊥

goes : (j : EventList) (s : Last) (e : Event) (w : ℕ) → Follows j s → write_of e ≡ w → Goes j e w (goes_on w s)
goes j s e w f same = begins (nat_lt s.write w) refl
  where
    falls : w < s.write → 0 < w → ObeysAccessLaw (j ++ e ∷ []) → ⊥
    falls lt pos l = let k : s.write ≤ w = f.latest w (ap never_fall (sym (writes_next w j e pos same)) ∙ l.in_order) in omega (arith, k, lt)

    closed : (b : Bool) → s.ended ≡ b → w ≡ s.write → 0 < w → Goes j e w (cond (not b) (Some s) None)
    closed true t is pos = λ p l.
        let cur : Current j s.write s.passed true = subst (Current j s.write s.passed) t f.current in
        let no : is_one_write (events_of w j ++ e ∷ []) ≡ false = subst (λ v. is_one_write (events_of v j ++ e ∷ []) ≡ false) (sym is) (cur.1 e (same ∙ is)) in
        false_true (sym no ∙ ap is_one_write (sym (events_next w j e same)) ∙ l.checked w p)
    closed false t is pos =
        let cur : Current j s.write s.passed false = subst (Current j s.write s.passed) t f.current in
        let here = cur (omega (arith, is, pos)) in (
          record {
            law = f.law;
            bounded = subst (λ v. list_all (λ e. nat_le (write_of e) v) j ≡ true) (sym is) f.bounded;
            positive = pos;
            events = subst (λ v. events_of v j ≡ map (Passed v) s.passed) (sym is) here.0;
            distinct = here.1;
          },
          sym is,
          t,
        )

    goes_same : (b c : Bool) → (w == s.write) ≡ b → nat_lt 0 w ≡ c → w ≤ s.write → Goes j e w (cond (b && c && not s.ended) (Some s) None)
    goes_same true true x y le = closed s.ended refl (eq_from w s.write x) (lt_from 0 w y)
    goes_same true false x y le = λ p l. false_true (sym y ∙ lt_true 0 w p)
    goes_same false c x y le = λ p l. falls (below x) p l
      where
        below : (w == s.write) ≡ false → w < s.write
        below x = let ne : w ≢ s.write = λ q. false_true (sym x ∙ eq_true w s.write q) in omega (arith, le, ne)

    begins : (b : Bool) → nat_lt s.write w ≡ b → Goes j e w (cond b (Some (record { write = w; passed = []; ended = false })) (cond (w == s.write && nat_lt 0 w && not s.ended) (Some s) None))
    begins true t =
        let lt = lt_from s.write w t in (
          record {
            law = f.law;
            bounded = bound_more s.write w j (omega (arith, lt)) f.bounded;
            positive = omega (arith, lt);
            events = none_above s.write w j lt f.bounded;
            distinct = refl;
          },
          refl,
          refl,
        )
    begins false t = goes_same (w == s.write) (nat_lt 0 w) refl refl (lt_not s.write w t)

-- what an event does to a write in which it may come
then_steps : (j : EventList) (e : Event) (w : ℕ) (o : Option Last) (f : Last → Option Last) → Goes j e w o → (is_placed e ≡ true → 0 < w)
    → ((t : Last) → Open j w t.passed → t.write ≡ w → t.ended ≡ false → Steps j e (f t)) → Steps j e (and_then o f)
then_steps j e w None f g pos k = λ l. g (pos (placed_last j e l)) l
then_steps j e w (Some t) f g pos k = k t g.0 g.1 g.2

-- the same of an event on a channel, by which data has to leave
leaving_steps : (j : EventList) (s : Last) (e : Event) (w : ℕ) (c : Channel) (k : Last → Option Last) → Follows j s → write_of e ≡ w
    → (is_placed e ≡ true → is_leaving c ≡ true) → (is_placed e ≡ true → 0 < w)
    → (is_leaving c ≡ true → (t : Last) → Open j w t.passed → t.write ≡ w → t.ended ≡ false → Steps j e (k t)) → Steps j e (and_then (may_leave w c s) k)
leaving_steps j s e w c k f same leaves pos cont = by (is_leaving c) refl
  where
    by : (b : Bool) → is_leaving c ≡ b → Steps j e (and_then (may_leave w c s) k)
    by true t = subst (λ b. Steps j e (and_then (cond b (goes_on w s) None) k)) (sym t) (then_steps j e w (goes_on w s) k (goes j s e w f same) pos (cont t))
    by false t = subst (λ b. Steps j e (and_then (cond b (goes_on w s) None) k)) (sym t) (λ l. false_true (sym t ∙ leaves (placed_last j e l)))

latest_next : (j : EventList) (e : Event) (w : ℕ) → 0 < w → write_of e ≡ w → (v : ℕ) → never_fall (writes_of (j ++ e ∷ []) ++ v ∷ []) ≡ true → w ≤ v
latest_next j e w pos same v h = never_below w v (writes_of j) (ap (λ ws. never_fall (ws ++ v ∷ [])) (sym (writes_next w j e pos same)) ∙ h)

bounded_next : (j : EventList) (e : Event) (w : ℕ) → list_all (λ e. nat_le (write_of e) w) j ≡ true → write_of e ≡ w → list_all (λ e. nat_le (write_of e) w) (j ++ e ∷ []) ≡ true
bounded_next j e w h same = all-next (λ e. nat_le (write_of e) w) j e h (le_true (write_of e) w (omega (arith, same)))

-- a policy returned
pub step_passed : (j : EventList) (s : Last) (w p : ℕ) → Follows j s → Steps j (Passed w p) (behind (told_of (Passed w p)) s)
step_passed j s w p f = then_steps j (Passed w p) w (goes_on w s) (passes p) (goes j s (Passed w p) w f refl) (lt_from 0 w) (λ t o is going. by t o is going (is_among p t.passed) refl)
  where
    by : (t : Last) → Open j w t.passed → t.write ≡ w → t.ended ≡ false → (b : Bool) → is_among p t.passed ≡ b
        → Steps j (Passed w p) (cond b None (Some (record { write = t.write; passed = t.passed ++ p ∷ []; ended = t.ended })))
    by t o is going true a = λ l.
        let one : is_one_write (events_of w (j ++ Passed w p ∷ [])) ≡ true = l.checked w o.positive in
        let d : are_distinct (t.passed ++ p ∷ []) ≡ true =
        sym (ap is_one_write (events_next w j (Passed w p) refl) ∙ one_write w t.passed (events_of w j) (Passed w p ∷ []) o.events) ∙ one in
        false_true (sym (not_again t.passed p d) ∙ a)
    by t o is going false a =
        let d = distinct_next t.passed p o.distinct a in
        record {
          law = obeys_next j w t.passed (Passed w p) o refl (lt_true 0 w o.positive) (one_write w t.passed (events_of w j) (Passed w p ∷ []) o.events ∙ d);
          bounded = subst (λ v. list_all (λ e. nat_le (write_of e) v) (j ++ Passed w p ∷ []) ≡ true) (sym is) (bounded_next j (Passed w p) w o.bounded refl);
          latest = λ v h. let k = latest_next j (Passed w p) w o.positive refl v h in omega (arith, is, k);
          current = subst (Current (j ++ Passed w p ∷ []) t.write (t.passed ++ p ∷ [])) (sym going) (λ h. (
            subst (λ v. events_of v (j ++ Passed w p ∷ []) ≡ map (Passed v) (t.passed ++ p ∷ [])) (sym is)
                (events_next w j (Passed w p) refl ∙ ap (λ es. es ++ Passed w p ∷ []) o.events ∙ sym (map-append (Passed w) t.passed (p ∷ []))),
            d,
          ));
        }

-- an event that ends its write, where it may end so
ends_step : (j : EventList) (e : Event) (w : ℕ) (t : Last) (lawful : Bool) → Open j w t.passed → t.write ≡ w → write_of e ≡ w
    → (lawful ≡ true → is_placed e ≡ true) → is_one_write (events_of w j ++ e ∷ []) ≡ lawful
    → ((d : Event) → is_one_write ((events_of w j ++ e ∷ []) ++ d ∷ []) ≡ false) → Steps j e (ends lawful t)
ends_step j e w t true o is same placed one last = record {
  law = obeys_next j w t.passed e o same (placed refl) one;
  bounded = subst (λ v. list_all (λ e. nat_le (write_of e) v) (j ++ e ∷ []) ≡ true) (sym is) (bounded_next j e w o.bounded same);
  latest = λ v h. let k = latest_next j e w o.positive same v h in omega (arith, is, k);
  current = (let pos = o.positive in omega (arith, is, pos), λ d h. subst (λ v. is_one_write (events_of v (j ++ e ∷ []) ++ d ∷ []) ≡ false) (sym is) (ap (λ es. is_one_write (es ++ d ∷ [])) (events_next w j e same) ∙ last d));
}
ends_step j e w t false o is same placed one last = λ l. false_true (sym one ∙ ap is_one_write (sym (events_next w j e same)) ∙ l.checked w o.positive)

-- behind an event that ends its write nothing of that write may come
more_than_one : (j : EventList) (w : ℕ) (ps : List ℕ) (e d : Event) → Open j w ps → may_end (ps ++ passed_first (e ∷ d ∷ [])) (behind_passed (e ∷ d ∷ [])) ≡ false
    → is_one_write ((events_of w j ++ e ∷ []) ++ d ∷ []) ≡ false
more_than_one j w ps e d o h = ap is_one_write (append_assoc (events_of w j) (e ∷ []) (d ∷ [])) ∙ one_write w ps (events_of w j) (e ∷ d ∷ []) o.events ∙ h

sent_more : (ps : List ℕ) (w : ℕ) (c : Channel) (t : Text) (d : Event) → may_end ps (Sent w c t ∷ d ∷ []) ≡ false
sent_more [] w c t d = refl
sent_more (p ∷ ps) w c t d = refl

denied_more : (ps : List ℕ) (w : ℕ) (c : Channel) (p : ℕ) (class : List ℕ) (from to : ℕ) (by : List ℕ) (d : Event) → may_end ps (Denied w c p class from to by ∷ d ∷ []) ≡ false
denied_more [] w c p class from to by d = refl
denied_more (q ∷ ps) w c p class from to by d = refl

filter_more : (ps : List ℕ) (w : ℕ) (c : Channel) (f : ℕ) (class : List ℕ) (len : ℕ) (by : List ℕ) (d : Event) → may_end ps (FilterDenied w c f class len by ∷ d ∷ []) ≡ false
filter_more [] w c f class len by d = refl
filter_more (q ∷ ps) w c f class len by d = refl

-- a text went out
step_sent : (j : EventList) (s : Last) (w : ℕ) (c : Channel) (d : Text) → Follows j s → Steps j (Sent w c d) (behind (told_of (Sent w c d)) s)
step_sent j s w c d f =
    leaving_steps j s (Sent w c d) w c (λ s. ends (pointwise nat_eq s.passed (policies_in_order d)) s) f refl
    (second_true (nat_lt 0 w) (is_leaving c)) (λ p. lt_from 0 w (first_true (nat_lt 0 w) (is_leaving c) p))
    (λ l t o is going. ends_step j (Sent w c d) w t (pointwise nat_eq t.passed (policies_in_order d)) o is refl
    (λ h. both (nat_lt 0 w) (is_leaving c) (lt_true 0 w o.positive) l)
    (one_write w t.passed (events_of w j) (Sent w c d ∷ []) o.events ∙ ap (λ ps. may_end ps (Sent w c d ∷ [])) (append-nil t.passed))
    (λ x. more_than_one j w t.passed (Sent w c d) x o (sent_more (t.passed ++ []) w c d x)))

swapped : (a b c : Bool) → a ≡ true → (a && b && c) ≡ (c && b)
swapped true true true h = refl
swapped true true false h = refl
swapped true false true h = refl
swapped true false false h = refl
swapped false b c h = absurd (false_true h)

-- a policy denied
step_denied : (j : EventList) (s : Last) (w : ℕ) (c : Channel) (p : ℕ) (class : List ℕ) (from to : ℕ) (by : List ℕ) → Follows j s
    → Steps j (Denied w c p class from to by) (behind (told_of (Denied w c p class from to by)) s)
step_denied j s w c p class from to by f =
    leaving_steps j s (Denied w c p class from to by) w c (λ s. ends (nat_lt from to && not (is_among p s.passed)) s) f refl
    (second_true (nat_lt 0 w) (is_leaving c)) (λ p. lt_from 0 w (first_true (nat_lt 0 w) (is_leaving c) p))
    (λ l t o is going. ends_step j (Denied w c p class from to by) w t (nat_lt from to && not (is_among p t.passed)) o is refl
    (λ h. both (nat_lt 0 w) (is_leaving c) (lt_true 0 w o.positive) l)
    (one_write w t.passed (events_of w j) (Denied w c p class from to by ∷ []) o.events ∙ ap (λ ps. may_end ps (Denied w c p class from to by ∷ [])) (append-nil t.passed)
    ∙ swapped (are_distinct t.passed) (not (is_among p t.passed)) (nat_lt from to) o.distinct)
    (λ x. more_than_one j w t.passed (Denied w c p class from to by) x o (denied_more (t.passed ++ []) w c p class from to by x)))

filter_ends : (ps : List ℕ) (w : ℕ) (c : Channel) (f : ℕ) (class : List ℕ) (len : ℕ) (by : List ℕ) → may_end ps (FilterDenied w c f class len by ∷ []) ≡ is_none ps
filter_ends [] w c f class len by = refl
filter_ends (q ∷ ps) w c f class len by = refl

-- a filter denied
step_filter : (j : EventList) (s : Last) (w : ℕ) (c : Channel) (o : ℕ) (class : List ℕ) (len : ℕ) (by : List ℕ) → Follows j s
    → Steps j (FilterDenied w c o class len by) (behind (told_of (FilterDenied w c o class len by)) s)
step_filter j s w c o class len by f = zero_or (w == 0) refl
  where
    outside : (b : Bool) → is_leaving c ≡ b → w ≡ 0 → Steps j (FilterDenied w c o class len by) (cond b None (Some s))
    outside true t z = λ l.
        let p : cond (w == 0) (not (is_leaving c)) (is_leaving c) ≡ true = placed_last j (FilterDenied w c o class len by) l in
        let q : not (is_leaving c) ≡ true = sym (ap (λ b. cond b (not (is_leaving c)) (is_leaving c)) (eq_true w 0 z)) ∙ p in
        false_true (sym (ap not t) ∙ q)
    outside false t z = record {
      law = obeys_outside j (FilterDenied w c o class len by) f.law z (ap (λ b. cond b (not (is_leaving c)) (is_leaving c)) (eq_true w 0 z) ∙ ap not t);
      bounded = all-next (λ e. nat_le (write_of e) s.write) j (FilterDenied w c o class len by) f.bounded (le_true w s.write (omega (arith, z)));
      latest = λ v h. f.latest v (ap (λ ws. never_fall (ws ++ v ∷ [])) (sym (writes_same j (FilterDenied w c o class len by) z)) ∙ h);
      current = kept s.ended f.current z;
    }
      where
        kept : (b : Bool) → Current j s.write s.passed b → w ≡ 0 → Current (j ++ FilterDenied w c o class len by ∷ []) s.write s.passed b
        kept false k z = λ h. (events_same s.write j (FilterDenied w c o class len by) (λ q. omega (arith, h, z, q)) ∙ (k h).0, (k h).1)
        kept true k z = (k.0, λ d h. ap (λ es. is_one_write (es ++ d ∷ [])) (events_same s.write j (FilterDenied w c o class len by) (λ q. let p = k.0 in omega (arith, p, z, q))) ∙ k.1 d h)

    inside : (w == 0) ≡ false → Steps j (FilterDenied w c o class len by) (and_then (may_leave w c s) (λ s. ends (is_none s.passed) s))
    inside t =
        let placed_is : cond (w == 0) (not (is_leaving c)) (is_leaving c) ≡ is_leaving c = ap (λ b. cond b (not (is_leaving c)) (is_leaving c)) t in
        leaving_steps j s (FilterDenied w c o class len by) w c (λ s. ends (is_none s.passed) s) f refl
        (λ p. sym placed_is ∙ p) (λ p. positive t)
        (λ l u op is going. ends_step j (FilterDenied w c o class len by) w u (is_none u.passed) op is refl
        (λ h. placed_is ∙ l)
        (one_write w u.passed (events_of w j) (FilterDenied w c o class len by ∷ []) op.events ∙ ap (λ ps. may_end ps (FilterDenied w c o class len by ∷ [])) (append-nil u.passed)
        ∙ filter_ends u.passed w c o class len by)
        (λ x. more_than_one j w u.passed (FilterDenied w c o class len by) x op (filter_more (u.passed ++ []) w c o class len by x)))
      where
        positive : (w == 0) ≡ false → 0 < w
        positive t = let ne : w ≢ 0 = λ q. false_true (sym t ∙ eq_true w 0 q) in omega (arith, ne)

    zero_or : (b : Bool) → (w == 0) ≡ b → Steps j (FilterDenied w c o class len by) (behind (told_of (FilterDenied w c o class len by)) s)
    zero_or true t = subst (λ b. Steps j (FilterDenied w c o class len by) (cond b (cond (is_leaving c) None (Some s)) (and_then (may_leave w c s) (λ s. ends (is_none s.passed) s)))) (sym t)
        (outside (is_leaving c) refl (eq_from w 0 t))
    zero_or false t = subst (λ b. Steps j (FilterDenied w c o class len by) (cond b (cond (is_leaving c) None (Some s)) (and_then (may_leave w c s) (λ s. ends (is_none s.passed) s)))) (sym t) (inside t)

-- one more event
pub step : (j : EventList) (s : Last) (e : Event) → Follows j s → Steps j e (behind (told_of e) s)
step j s (Passed w p) f = step_passed j s w p f
step j s (Sent w c d) f = step_sent j s w c d f
step j s (Denied w c p class from to by) f = step_denied j s w c p class from to by f
step j s (FilterDenied w c o class len by) f = step_filter j s w c o class len by f
