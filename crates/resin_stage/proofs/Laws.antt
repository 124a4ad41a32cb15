-- Each step of a write keeps the access law.
use Rattle.std.proofs.Common.{◌≡◌, ◌≢◌, ℕ, suc, ◌+◌, ◌≤◌, ◌<◌, List, [], ◌∷◌, ◌++◌, Bool, true, false, cond, not, ◌&&◌, ◌||◌, nat_lt, nat_le, nat_eq, map, IsTrue, refl, sym, ap, subst, ◌∙◌, arith}
use Rattle.std.specs.Prelude.{◌==◌}
use Rattle.std.specs.List.{filter, list_all, list_any}
use Rattle.std.specs.Cmp.Lexicographic.{pointwise}
use Rattle.std.proofs.lemmas.List.{append-nil, map-append}
use Rattle.std.proofs.lemmas.List.Elements.{filter-append}
use Rattle.std.proofs.lemmas.List.Folds.{list_all-append, list_any-append}
use Rattle.std.proofs.lemmas.Bool.Decides.{nat_tests}
use Rattle.resin_scan.specs.Words.{IsName}
use Rattle.resin_scope.specs.Under.lstr.Texts.{Text, policies_in_order}
use Rattle.resin_scope.specs.Under.journal.declared.event.Event.{Event}
use Rattle.resin_scope.specs.Under.journal.declared.event.Event.TheVariants.{Passed, Sent, Denied, FilterDenied}
use Rattle.resin_scope.specs.Under.journal.declared.channel.Channel.{Channel}
use Rattle.resin_scope.specs.Under.journal.Channels.{is_leaving}
use Rattle.resin_scope.specs.Under.journal.Events.{EventList}
use Rattle.resin_scope.specs.Under.journal.Access.{write_of, is_placed, events_of, passed_first, behind_passed, is_among, are_distinct, may_end, is_one_write, never_fall, writes_of, ObeysAccessLaw, TellsNames, ClassesAreNames}
use Rattle.resin_stage.specs.Writes.{IsLawful, IsOpen, MayAsk, MaySend}

false_true : false ≡ true → ⊥
false_true e = cc

ne_false : (a b : ℕ) → a ≢ b → (a == b) ≡ false
ne_false a b h = grind (arith, nat_tests)

eq_true : (a b : ℕ) → a ≡ b → (a == b) ≡ true
eq_true a b h = grind (arith, nat_tests)

lt_true : (a b : ℕ) → a < b → nat_lt a b ≡ true
lt_true a b h = grind (arith, nat_tests)

le_true : (a b : ℕ) → a ≤ b → nat_le a b ≡ true
le_true a b h = grind (arith, nat_tests)

le_from : (a b : ℕ) → nat_le a b ≡ true → a ≤ b
le_from a b h = grind (arith, nat_tests)

both : (a b : Bool) → a ≡ true → b ≡ true → (a && b) ≡ true
both a b h k = ap (λ x. x && b) h ∙ k

first_true : (a b : Bool) → (a && b) ≡ true → a ≡ true
first_true true b h = refl
first_true false b h = absurd (false_true h)

second_true : (a b : Bool) → (a && b) ≡ true → b ≡ true
second_true true b h = h
second_true false b h = absurd (false_true h)

-- ---- numbers of writes

bound_more : (n m : ℕ) (j : EventList) → n ≤ m → list_all (λ e. nat_le (write_of e) n) j ≡ true → list_all (λ e. nat_le (write_of e) m) j ≡ true
bound_more n m [] le h = refl
bound_more n m (e ∷ j) le h =
    both _ _ (le_true (write_of e) m (let k = le_from (write_of e) n (first_true _ _ h) in omega (arith, le, k)))
    (bound_more n m j le (second_true _ _ h))

-- no event has the next number
none_above : (n w : ℕ) (j : EventList) → n < w → list_all (λ e. nat_le (write_of e) n) j ≡ true → events_of w j ≡ []
none_above n w [] lt h = refl
none_above n w (e ∷ j) lt h =
    ap (λ b. cond b (e ∷ events_of w j) (events_of w j)) (ne_false (write_of e) w (λ q. let k = le_from (write_of e) n (first_true _ _ h) in omega (arith, lt, k, q)))
    ∙ none_above n w j lt (second_true _ _ h)

one_of : (w : ℕ) (e : Event) → write_of e ≡ w → events_of w (e ∷ []) ≡ e ∷ []
one_of w e h = ap (λ b. cond b (e ∷ []) []) (eq_true (write_of e) w h)

other_of : (w : ℕ) (e : Event) → write_of e ≢ w → events_of w (e ∷ []) ≡ []
other_of w e h = ap (λ b. cond b (e ∷ []) []) (ne_false (write_of e) w h)

events-append : (w : ℕ) (j k : EventList) → events_of w (j ++ k) ≡ events_of w j ++ events_of w k
events-append w j k = filter-append (λ e. write_of e == w) j k

writes-append : (j k : EventList) → writes_of (j ++ k) ≡ writes_of j ++ writes_of k
writes-append j k = ap (filter (λ w. nat_lt 0 w)) (map-append write_of j k) ∙ filter-append (λ w. nat_lt 0 w) (map write_of j) (map write_of k)

writes_one : (e : Event) → 0 < write_of e → writes_of (e ∷ []) ≡ write_of e ∷ []
writes_one e h = ap (λ b. cond b (write_of e ∷ []) []) (lt_true 0 (write_of e) h)

writes_zero : (e : Event) → write_of e ≡ 0 → writes_of (e ∷ []) ≡ []
writes_zero e h = ap (λ n. cond (nat_lt 0 n) (n ∷ []) []) h

-- the numbers of a journal are at most the last one drawn
bounded : (n : ℕ) (j : EventList) → list_all (λ e. nat_le (write_of e) n) j ≡ true → list_all (λ w. nat_le w n) (writes_of j) ≡ true
bounded n [] h = refl
bounded n (e ∷ j) h = by (bounded n j (second_true _ _ h)) (nat_lt 0 (write_of e))
  where
    by : list_all (λ w. nat_le w n) (writes_of j) ≡ true → (b : Bool) → list_all (λ w. nat_le w n) (cond b (write_of e ∷ writes_of j) (writes_of j)) ≡ true
    by rest true = both _ _ (first_true _ _ h) rest
    by rest false = rest

-- one more number, which none before passes
rising_next : (n : ℕ) (ns : List ℕ) → list_all (λ w. nat_le w n) ns ≡ true → never_fall ns ≡ true → never_fall (ns ++ n ∷ []) ≡ true
rising_next n [] h r = refl
rising_next n (m ∷ ns) h r =
    both _ _ (list_all-append (nat_le m) ns (n ∷ []) ∙ both _ _ (first_true _ _ r) (both _ _ (first_true _ _ h) refl))
    (rising_next n ns (second_true _ _ h) (second_true _ _ r))

-- ---- one more event

all-next : (p : Event → Bool) (j : EventList) (e : Event) → list_all p j ≡ true → p e ≡ true → list_all p (j ++ e ∷ []) ≡ true
all-next p j e h k = list_all-append p j (e ∷ []) ∙ both _ _ h (both _ _ k refl)

named_next : (j : EventList) (e : Event) → ClassesAreNames j → TellsNames e → ClassesAreNames (j ++ e ∷ [])
named_next [] e h k = (k, tt)
named_next (d ∷ j) e h k = (h.0, named_next j e h.1 k)

-- of the write under way
pub lawful_next : (j : EventList) (n : ℕ) (e : Event) → IsLawful j n → 0 < n → write_of e ≡ n → is_placed e ≡ true → is_one_write (events_of n j ++ e ∷ []) ≡ true → TellsNames e → IsLawful (j ++ e ∷ []) n
lawful_next j n e l pos same placed one names = record {
  law = record {
    placed = all-next is_placed j e l.law.placed placed;
    checked = λ w h. subst (λ es. is_one_write es ≡ true) (sym (events-append w j (e ∷ []))) (each w h (n == w) refl);
    in_order = ap never_fall (writes-append j (e ∷ []) ∙ (ap (λ ws. writes_of j ++ ws) (writes_one e (omega (arith, pos, same)) ∙ ap (λ w. w ∷ []) same)))
        ∙ rising_next n (writes_of j) (bounded n j l.drawn) l.law.in_order;
  };
  drawn = all-next (λ e. nat_le (write_of e) n) j e l.drawn (le_true (write_of e) n (omega (arith, same)));
  named = named_next j e l.named names;
}
  where
    each : (w : ℕ) → 0 < w → (b : Bool) → (n == w) ≡ b → is_one_write (events_of w j ++ events_of w (e ∷ [])) ≡ true
    each w h true t =
        let q : n ≡ w = grind (arith, nat_tests) in
        subst (λ v. is_one_write (events_of v j ++ events_of v (e ∷ [])) ≡ true) q (ap (λ es. is_one_write (events_of n j ++ es)) (one_of n e same) ∙ one)
    each w h false t =
        let q : write_of e ≢ w = λ k. false_true (sym t ∙ eq_true n w (sym same ∙ k)) in
        ap (λ es. is_one_write (events_of w j ++ es)) (other_of w e q) ∙ (ap is_one_write (append-nil (events_of w j)) ∙ l.law.checked w h)

-- outside of the writes that leave
pub lawful_outside : (j : EventList) (n : ℕ) (e : Event) → IsLawful j n → write_of e ≡ 0 → is_placed e ≡ true → TellsNames e → IsLawful (j ++ e ∷ []) n
lawful_outside j n e l zero placed names = record {
  law = record {
    placed = all-next is_placed j e l.law.placed placed;
    checked = λ w h.
        ap is_one_write (events-append w j (e ∷ []) ∙ (ap (λ es. events_of w j ++ es) (other_of w e (λ q. omega (arith, h, zero, q))) ∙ append-nil (events_of w j)))
        ∙ l.law.checked w h;
    in_order = ap never_fall (writes-append j (e ∷ []) ∙ (ap (λ ws. writes_of j ++ ws) (writes_zero e zero) ∙ append-nil (writes_of j))) ∙ l.law.in_order;
  };
  drawn = all-next (λ e. nat_le (write_of e) n) j e l.drawn (le_true (write_of e) n (omega (arith, zero)));
  named = named_next j e l.named names;
}

pub lawful_new : IsLawful [] 0
lawful_new = record { law = record { placed = refl; checked = λ w h. refl; in_order = refl }; drawn = refl; named = tt }

-- a write begins
pub lawful_drawn : (j : EventList) (n : ℕ) → IsLawful j n → IsLawful j (n + 1)
lawful_drawn j n l = record { law = l.law; drawn = bound_more n (n + 1) j (omega arith) l.drawn; named = l.named }

pub open_drawn : (j : EventList) (n : ℕ) → IsLawful j n → IsOpen (n + 1) [] j (n + 1)
open_drawn j n l = record { last = refl; positive = omega arith; events = none_above n (n + 1) j (omega arith) l.drawn; distinct = refl }

-- ---- the events of one write

passed_first-map : (w : ℕ) (ps : List ℕ) (es : EventList) → passed_first (map (Passed w) ps ++ es) ≡ ps ++ passed_first es
passed_first-map w [] es = refl
passed_first-map w (p ∷ ps) es = ap (λ qs. p ∷ qs) (passed_first-map w ps es)

behind-map : (w : ℕ) (ps : List ℕ) (es : EventList) → behind_passed (map (Passed w) ps ++ es) ≡ behind_passed es
behind-map w [] es = refl
behind-map w (p ∷ ps) es = behind-map w ps es

one_write : (w : ℕ) (ps : List ℕ) (j : EventList) (e : Event) → events_of w j ≡ map (Passed w) ps → is_one_write (events_of w j ++ e ∷ []) ≡ may_end (ps ++ passed_first (e ∷ [])) (behind_passed (e ∷ []))
one_write w ps j e h =
    ap (λ es. is_one_write (es ++ e ∷ [])) h
    ∙ (λ i. may_end (passed_first-map w ps (e ∷ []) i) (behind-map w ps (e ∷ []) i))

among_next : (q : ℕ) (ps : List ℕ) (p : ℕ) → is_among q (ps ++ p ∷ []) ≡ (is_among q ps || (p == q))
among_next q ps p = list_any-append (λ r. r == q) ps (p ∷ []) ∙ ap (λ b. is_among q ps || b) (elim (p == q) as (λ b. (b || false) ≡ b) [ true ↦ refl | false ↦ refl ])

not_true : (b : Bool) → not b ≡ true → b ≡ false
not_true true h = absurd (false_true h)
not_true false h = refl

distinct_next : (ps : List ℕ) (p : ℕ) → are_distinct ps ≡ true → is_among p ps ≡ false → are_distinct (ps ++ p ∷ []) ≡ true
distinct_next [] p d o = refl
distinct_next (q ∷ ps) p d o = by (λ k. distinct_next ps p (second_true _ _ d) k) (q == p) refl
  where
    by : (is_among p ps ≡ false → are_distinct (ps ++ p ∷ []) ≡ true) → (b : Bool) → (q == p) ≡ b → are_distinct (q ∷ (ps ++ p ∷ [])) ≡ true
    by rest true t = absurd (false_true (sym o ∙ ap (λ b. b || is_among p ps) t))
    by rest false t =
        let o' : is_among p ps ≡ false = sym (ap (λ b. b || is_among p ps) t) ∙ o in
        let ne : p ≢ q = λ e. false_true (sym t ∙ eq_true q p (sym e)) in
        let out : is_among q (ps ++ p ∷ []) ≡ false =
        among_next q ps p ∙ (ap (λ b. b || (p == q)) (not_true _ (first_true _ _ d)) ∙ ne_false p q ne) in
        both _ _ (ap not out) (rest o')

pointwise_refl : (xs : List ℕ) → pointwise nat_eq xs xs ≡ true
pointwise_refl [] = refl
pointwise_refl (x ∷ xs) = both _ _ (eq_true x x refl) (pointwise_refl xs)

-- a policy returned
pub lawful_passed : (j : EventList) (n w p : ℕ) → IsLawful j n → MayAsk w p j n → IsLawful (j ++ Passed w p ∷ []) n
lawful_passed j n w p l k =
    lawful_next j n (Passed w p) l (omega (arith, k.way.positive, k.way.last)) k.way.last (lt_true 0 w k.way.positive)
    (subst (λ v. is_one_write (events_of v j ++ Passed w p ∷ []) ≡ true) k.way.last
    (one_write w k.passed j (Passed w p) k.way.events ∙ distinct_next k.passed p k.way.distinct k.out))
    tt

-- a policy denied
pub lawful_denied : (j : EventList) (n w : ℕ) (c : Channel) (p : ℕ) (class : List ℕ) (from to : ℕ) (by : List ℕ) → IsLawful j n → MayAsk w p j n → is_leaving c ≡ true → from < to → IsName class → IsName by → IsLawful (j ++ Denied w c p class from to by ∷ []) n
lawful_denied j n w c p class from to by l k leaving lt class_named by_named =
    lawful_next j n (Denied w c p class from to by) l (omega (arith, k.way.positive, k.way.last)) k.way.last (both _ _ (lt_true 0 w k.way.positive) leaving)
    (subst (λ v. is_one_write (events_of v j ++ Denied w c p class from to by ∷ []) ≡ true) k.way.last
    (one_write w k.passed j (Denied w c p class from to by) k.way.events
    ∙ (ap (λ ps. may_end ps (Denied w c p class from to by ∷ [])) (append-nil k.passed)
    ∙ both _ _ (both _ _ k.way.distinct (ap not k.out)) (lt_true from to lt))))
    (class_named, by_named)

-- the text went out
pub lawful_sent : (j : EventList) (n w : ℕ) (c : Channel) (t : Text) → IsLawful j n → MaySend w t j n → is_leaving c ≡ true → IsLawful (j ++ Sent w c t ∷ []) n
lawful_sent j n w c t l o leaving =
    lawful_next j n (Sent w c t) l (omega (arith, o.positive, o.last)) o.last (both _ _ (lt_true 0 w o.positive) leaving)
    (subst (λ v. is_one_write (events_of v j ++ Sent w c t ∷ []) ≡ true) o.last
    (one_write w (policies_in_order t) j (Sent w c t) o.events
    ∙ (ap (λ ps. may_end ps (Sent w c t ∷ [])) (append-nil (policies_in_order t))
    ∙ pointwise_refl (policies_in_order t))))
    tt

-- a filter denied before any policy was asked
pub lawful_filtered : (j : EventList) (n w : ℕ) (c : Channel) (f : ℕ) (class : List ℕ) (len : ℕ) (by : List ℕ) → IsLawful j n → IsOpen w [] j n → is_leaving c ≡ true → IsName class → IsName by → IsLawful (j ++ FilterDenied w c f class len by ∷ []) n
lawful_filtered j n w c f class len by l o leaving class_named by_named =
    lawful_next j n (FilterDenied w c f class len by) l (omega (arith, o.positive, o.last)) o.last
    (ap (λ b. cond b (not (is_leaving c)) (is_leaving c)) (ne_false w 0 (λ e. omega (arith, e, o.positive))) ∙ leaving)
    (subst (λ v. is_one_write (events_of v j ++ FilterDenied w c f class len by ∷ []) ≡ true) o.last
    (one_write w [] j (FilterDenied w c f class len by) o.events))
    (class_named, by_named)

-- a filter denied outside of the writes that leave
pub lawful_kept : (j : EventList) (n : ℕ) (c : Channel) (f : ℕ) (class : List ℕ) (len : ℕ) (by : List ℕ) → IsLawful j n → is_leaving c ≡ false → IsName class → IsName by → IsLawful (j ++ FilterDenied 0 c f class len by ∷ []) n
lawful_kept j n c f class len by l kept class_named by_named = lawful_outside j n (FilterDenied 0 c f class len by) l refl (ap not kept) (class_named, by_named)

-- ---- the write under way

map-next : (w p : ℕ) (ps : List ℕ) → map (Passed w) ps ++ Passed w p ∷ [] ≡ map (Passed w) (ps ++ p ∷ [])
map-next w p ps = sym (map-append (Passed w) ps (p ∷ []))

-- with one more policy that returned
pub open_passed : (j : EventList) (n w p : ℕ) (ps : List ℕ) → IsOpen w ps j n → is_among p ps ≡ false → IsOpen w (ps ++ p ∷ []) (j ++ Passed w p ∷ []) n
open_passed j n w p ps o out = record {
  last = o.last;
  positive = o.positive;
  events = events-append w j (Passed w p ∷ []) ∙ ((λ i. o.events i ++ one_of w (Passed w p) refl i) ∙ map-next w p ps);
  distinct = distinct_next ps p o.distinct out;
}
