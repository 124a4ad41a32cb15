-- What is known of a text while its items are read: its front is the file of some journals, and what is kept says what they are.
use Rattle.std.proofs.Common.{◌≡◌, ◌≢◌, ℕ, zero, suc, ◌+◌, ◌-◌, ◌^◌, ◌<◌, ◌≤◌, min, List, [], ◌∷◌, ◌++◌, length, take, drop, map, Option, Some, None, refl, sym, ap, subst, ◌∙◌, arith, append_assoc, append-nil, length-append, ◌⊎◌, inl, inr}
use Rattle.std.specs.Prelude.{Ok, Err, option_map}
use Rattle.std.specs.List.{flat_map}
use Rattle.std.proofs.lemmas.List.{take-append-le, take-append-drop, take_all, length-take}
use Rattle.std.proofs.lemmas.List.Concat.{flat_map-append}
use Rattle.std.proofs.Math.Seq.{take-append_seam, take-append-add}
use Rattle.resin_journal.specs.declared.event.Event.{Event}
use Rattle.resin_journal.specs.Events.{EventList}
use Rattle.resin_journal.specs.Access.{ObeysAccessLaw}
use Rattle.resin_journal_file.specs.Files.{line, event_text, request_line, journal_text, file_from, file_of}
use Rattle.resin_journal_file.specs.Limits.{Each, IsNumber, CanBeTold, IsFileOf, IsFile}
use Rattle.resin_journal_file.specs.Reading.{Item, Request, Happened, item_text, IsItem, item}
use Rattle.resin_journal_file.proofs.Items.{item-item}
use Rattle.resin_journal_file.proofs.Once.{from_some, none_some, each-append, items_from, file-items, items_told, NoEvent, parted, no_event, same_tail, room}
use Rattle.resin_journal_file.proofs.Fronts.{Fronts, item_read}
use Rattle.resin_audit.specs.declared.stop.Stop.TheVariants.{Form, Memory}
use Rattle.resin_audit.specs.declared.verdict.Verdict.TheVariants as verdict
use Rattle.resin_audit.specs.declared.progress.Progress.{Progress}
use Rattle.resin_audit.specs.Following.{Last, nothing_yet, behind}
use Rattle.resin_audit.specs.Told.{told_of, kept_of, kept_front, next_item}
use Rattle.resin_audit.specs.Progress.{none_yet, begun, IsNoted, noted, Adds, Goes, verdict_of}
use Rattle.resin_audit.specs.Verdicts.{events_in, EndsFile, BreaksAt, IsYes, IsBroken, Says}
use Rattle.resin_audit.proofs.Lawful.{Follows, follows_none, Steps, step}

-- ---- files
lengths-append : (js ks : List EventList) → length (js ++ ks) ≡ length js + length ks
lengths-append js ks = length-append js ks

file_from-append : (q : ℕ) (js ks : List EventList) → file_from q (js ++ ks) ≡ file_from q js ++ file_from (q + length js) ks
file_from-append q [] ks = let e : q ≡ q + length {A = EventList} [] = omega arith in ap (λ n. file_from n ks) e
file_from-append q (j ∷ js) ks =
    let e : q + 1 + length js ≡ q + length (j ∷ js) = omega arith in
    ap (λ t. journal_text q j ++ t) (file_from-append (q + 1) js ks ∙ ap (λ n. file_from (q + 1) js ++ file_from n ks) e)
    ∙ sym (append_assoc (journal_text q j) (file_from (q + 1) js) (file_from (q + length (j ∷ js)) ks))

one_journal : (q : ℕ) (j : EventList) → file_from q (j ∷ []) ≡ journal_text q j
one_journal q j = append-nil (journal_text q j)

-- a journal begins
file_begun : (js : List EventList) → file_of (js ++ [] ∷ []) ≡ file_of js ++ request_line (1 + length js)
file_begun js = file_from-append 1 js ([] ∷ []) ∙ ap (λ t. file_of js ++ t) (one_journal (1 + length js) [] ∙ append-nil (request_line (1 + length js)))

journal_more : (q : ℕ) (j : EventList) (e : Event) → journal_text q (j ++ e ∷ []) ≡ journal_text q j ++ event_text e
journal_more q j e =
    ap (λ t. request_line q ++ t) (flat_map-append event_text j (e ∷ []) ∙ ap (λ t. flat_map event_text j ++ t) (append-nil (event_text e)))
    ∙ sym (append_assoc (request_line q) (flat_map event_text j) (event_text e))

-- an event more in the last journal
file_more : (b : List EventList) (j : EventList) (e : Event) → file_of (b ++ (j ++ e ∷ []) ∷ []) ≡ file_of (b ++ j ∷ []) ++ event_text e
file_more b j e =
    file_from-append 1 b ((j ++ e ∷ []) ∷ [])
    ∙ ap (λ t. file_of b ++ t) (one_journal (1 + length b) (j ++ e ∷ []) ∙ journal_more (1 + length b) j e)
    ∙ sym (append_assoc (file_of b) (journal_text (1 + length b) j) (event_text e))
    ∙ ap (λ t. t ++ event_text e) (ap (λ t. file_of b ++ t) (sym (one_journal (1 + length b) j)) ∙ sym (file_from-append 1 b (j ∷ [])))

-- ---- texts of items aren't empty
some_text : (i : Item) → IsItem i → 0 < length (item_text i)
some_text i h = by (item_text i) refl
  where
    by : (t : List ℕ) → item_text i ≡ t → 0 < length (item_text i)
    by [] e = absurd (none_some (i, []) (ap (λ t. item (t ++ [])) (sym e) ∙ item-item i h []))
    by (x ∷ t) e = let k = ap length e in omega (arith, k)

events_fit : (q : ℕ) (js : List EventList) → Each (Each CanBeTold) js → events_in js ≤ length (file_from q js)
events_fit q [] h = omega arith
events_fit q (j ∷ js) h =
    let k = events_fit (q + 1) js h.1 in
    let l = journal_fits j h.0 in
    let m = length-append (journal_text q j) (file_from (q + 1) js) in
    let n = length-append (request_line q) (flat_map event_text j) in
    omega (arith, k, l, m, n)
  where
    journal_fits : (j : EventList) → Each CanBeTold j → length j ≤ length (flat_map event_text j)
    journal_fits [] h = omega arith
    journal_fits (e ∷ j) h =
        let k = journal_fits j h.1 in
        let l = some_text (Happened e) h.0 in
        let m = length-append (event_text e) (flat_map event_text j) in
        omega (arith, k, l, m)

-- ---- what is known
abbrev journals : Option (List EventList × EventList) → List EventList
journals None = []
journals (Some p) = p.0 ++ p.1 ∷ []

abbrev last : Option (List EventList × EventList) → EventList
last None = []
last (Some p) = p.1

-- some journal of the list is the first that breaks the law
record Breaks (k : ℕ × ℕ) (js : List EventList) : Type 0 where
  before : List EventList
  journal : EventList
  behind : List EventList
  split : js ≡ before ++ journal ∷ behind
  obey : Each ObeysAccessLaw before
  breaks : BreaksAt k.1 journal
  place : k.0 ≡ length before + 1

-- each front of a journal obeys the law
abbrev AllFronts : EventList → Type 0
AllFronts j = (n : ℕ) → ObeysAccessLaw (take n j)

abbrev Judged : Option (ℕ × ℕ) → Last → Option (List EventList × EventList) → Type 0
Judged None l None = Unit {0}
Judged None l (Some p) = Each ObeysAccessLaw p.0 × Follows p.1 l × AllFronts p.1
Judged (Some k) l None = ⊥
Judged (Some k) l (Some p) = Breaks k p.0 ⊎ (Each ObeysAccessLaw p.0 × BreaksAt k.1 p.1 × (k.0 ≡ length p.0 + 1))

pub record Stands (text : List ℕ) (s : Progress) (rest : List ℕ) : Type 0 where
  so_far : Option (List EventList × EventList)
  text_is : text ≡ file_of (journals so_far) ++ rest
  count : IsNumber (length (journals so_far))
  told : Each (Each CanBeTold) (journals so_far)
  requests : s.requests ≡ length (journals so_far)
  events : s.events ≡ events_in (journals so_far)
  here : s.here ≡ length (last so_far)
  law : Judged s.broken s.law so_far

pub stands_first : (text : List ℕ) → Stands text none_yet text
stands_first text = record { so_far = None; text_is = refl; count = omega arith; told = tt; requests = refl; events = refl; here = refl; law = tt }

-- ---- a journal begins
events-append : (js ks : List EventList) → events_in (js ++ ks) ≡ events_in js + events_in ks
events-append [] ks = omega arith
events-append (j ∷ js) ks = let k = events-append js ks in omega (arith, k)

no_front : AllFronts []
no_front zero = follows_none.law
no_front (suc n) = follows_none.law

all_obey : (l : Last) (o : Option (List EventList × EventList)) → Judged None l o → Each ObeysAccessLaw (journals o)
all_obey l None h = tt
all_obey l (Some p) h = each-append ObeysAccessLaw p.0 (p.1 ∷ []) h.0 (h.1.law, tt)

breaks_in : (k : ℕ × ℕ) (l : Last) (o : Option (List EventList × EventList)) → Judged (Some k) l o → Breaks k (journals o)
breaks_in k l None h = absurd h
breaks_in k l (Some p) (inl b) = record {
  before = b.before;
  journal = b.journal;
  behind = b.behind ++ p.1 ∷ [];
  split = ap (λ js. js ++ p.1 ∷ []) b.split ∙ append_assoc b.before (b.journal ∷ b.behind) (p.1 ∷ []);
  obey = b.obey;
  breaks = b.breaks;
  place = b.place;
}
breaks_in k l (Some p) (inr h) = record { before = p.0; journal = p.1; behind = []; split = refl; obey = h.0; breaks = h.1; place = h.2 }

judged_begun : (b : Option (ℕ × ℕ)) (l : Last) (o : Option (List EventList × EventList)) → Judged b l o → Judged b nothing_yet (Some (journals o, []))
judged_begun None l o h = (all_obey l o h, follows_none, no_front)
judged_begun (Some k) l o h = inl (breaks_in k l o h)

begins : (text : List ℕ) (s new : Progress) (rest rest' : List ℕ) (q : ℕ) → Stands text s rest → rest ≡ request_line q ++ rest' → IsNumber q → q ≡ s.requests + 1 → new ≡ begun q s → Stands text new rest'
begins text s new rest rest' q st e small next is = subst (λ n. Stands text n rest') (sym is) (record {
  so_far = Some (js, []);
  text_is = st.text_is ∙ ap (λ t. file_of js ++ t) (e ∙ ap (λ n. request_line n ++ rest') number)
      ∙ sym (append_assoc (file_of js) (request_line (1 + length js)) rest') ∙ ap (λ t. t ++ rest') (sym (file_begun js));
  count = let l = length-append js ([] ∷ []) in let r = st.requests in omega (arith, l, r, small, next);
  told = each-append (Each CanBeTold) js ([] ∷ []) st.told (tt, tt);
  requests = let l = length-append js ([] ∷ []) in let r = st.requests in omega (arith, l, r, next);
  events = let l = events-append js ([] ∷ []) in let r = st.events in omega (arith, l, r);
  here = refl;
  law = judged_begun s.broken s.law st.so_far st.law;
})
  where
    js : List EventList
    js = journals st.so_far

    number : q ≡ 1 + length (journals st.so_far)
    number = let r = st.requests in omega (arith, r, next)

-- ---- an event more
front_short : (j : EventList) (e : Event) (n : ℕ) → n ≤ length j → take n (j ++ e ∷ []) ≡ take n j
front_short j e n le = take-append-le n j (e ∷ []) le

length_more : (j : EventList) (e : Event) → length (j ++ e ∷ []) ≡ length j + 1
length_more j e = length-append j (e ∷ [])

front_whole : (j : EventList) (e : Event) (n : ℕ) → length j < n → take n (j ++ e ∷ []) ≡ j ++ e ∷ []
front_whole j e n lt = take_all n (j ++ e ∷ []) (let l = length_more j e in omega (arith, l, lt))

fronts_more : (j : EventList) (e : Event) → AllFronts j → ObeysAccessLaw (j ++ e ∷ []) → AllFronts (j ++ e ∷ [])
fronts_more j e h o n = by (nat_cases n (length j))
  where
    nat_cases : (a b : ℕ) → (a ≤ b) ⊎ (b < a)
    nat_cases zero b = inl (omega arith)
    nat_cases (suc a) zero = inr (omega arith)
    nat_cases (suc a) (suc b) = more (nat_cases a b)
      where
        more : (a ≤ b) ⊎ (b < a) → (suc a ≤ suc b) ⊎ (suc b < suc a)
        more (inl h) = inl (omega (arith, h))
        more (inr h) = inr (omega (arith, h))

    by : (n ≤ length j) ⊎ (length j < n) → ObeysAccessLaw (take n (j ++ e ∷ []))
    by (inl le) = subst ObeysAccessLaw (sym (front_short j e n le)) (h n)
    by (inr lt) = subst ObeysAccessLaw (sym (front_whole j e n lt)) o

breaks_longer : (k : ℕ) (j : EventList) (e : Event) → BreaksAt k j → BreaksAt k (j ++ e ∷ [])
breaks_longer k j e b = record {
  within = let w = b.within in let l = length_more j e in omega (arith, w, l);
  breaks = λ o. b.breaks (subst ObeysAccessLaw (front_short j e k b.within) o);
  fewer = λ n lt. subst ObeysAccessLaw (sym (front_short j e n (let w = b.within in omega (arith, w, lt)))) (b.fewer n lt);
}

breaks_now : (j : EventList) (e : Event) → AllFronts j → (ObeysAccessLaw (j ++ e ∷ []) → ⊥) → BreaksAt (length j + 1) (j ++ e ∷ [])
breaks_now j e h refuses = record {
  within = let l = length_more j e in omega (arith, l);
  breaks = λ o. refuses (subst ObeysAccessLaw (front_whole j e (length j + 1) (omega arith)) o);
  fewer = λ n lt. subst ObeysAccessLaw (sym (front_short j e n (omega (arith, lt)))) (h n);
}

-- the last journal has an event more
judged_more : (b : List EventList) (j : EventList) (e : Event) (s new : Progress) (o : Option (ℕ × ℕ)) (r : Option Last) → s.broken ≡ o → behind (told_of e) s.law ≡ r
    → noted o r s new → s.requests ≡ length b + 1 → s.here ≡ length j → Judged o s.law (Some (b, j)) → Judged new.broken new.law (Some (b, j ++ e ∷ []))
judged_more b j e s new None (Some l) is r n req here h =
    let f : Follows (j ++ e ∷ []) l = subst (Steps j e) r (step j s.law e h.1) in
    subst (λ k. Judged k new.law (Some (b, j ++ e ∷ []))) (sym n.1)
    (h.0, subst (Follows (j ++ e ∷ [])) (sym n.0) f, fronts_more j e h.2 f.law)
judged_more b j e s new None None is r n req here h =
    let refuses : ObeysAccessLaw (j ++ e ∷ []) → ⊥ = subst (Steps j e) r (step j s.law e h.1) in
    subst (λ k. Judged k new.law (Some (b, j ++ e ∷ []))) (sym n)
    (inr (h.0, subst (λ k. BreaksAt (k + 1) (j ++ e ∷ [])) (sym here) (breaks_now j e h.2 refuses), req))
judged_more b j e s new (Some k) r is q n req here (inl h) = subst (λ k. Judged k new.law (Some (b, j ++ e ∷ []))) (sym n) (inl h)
judged_more b j e s new (Some k) r is q n req here (inr h) =
    subst (λ k. Judged k new.law (Some (b, j ++ e ∷ []))) (sym n) (inr (h.0, breaks_longer k.1 j e h.1, h.2))

happens : (text : List ℕ) (s new : Progress) (rest rest' : List ℕ) (e : Event) → Stands text s rest → rest ≡ event_text e ++ rest' → CanBeTold e → IsNoted (told_of e) s new → Stands text new rest'
happens text s new rest rest' e st is told n = by st.so_far st.text_is st.count st.told st.requests st.events st.here st.law
  where
    each_last : (b : List EventList) (j : EventList) → Each (Each CanBeTold) (b ++ j ∷ []) → Each (Each CanBeTold) (b ++ (j ++ e ∷ []) ∷ [])
    each_last [] j h = (each-append CanBeTold j (e ∷ []) h.0 (told, tt), tt)
    each_last (c ∷ b) j h = (h.0, each_last b j h.1)

    by : (o : Option (List EventList × EventList)) → text ≡ file_of (journals o) ++ rest → IsNumber (length (journals o)) → Each (Each CanBeTold) (journals o)
        → s.requests ≡ length (journals o) → s.events ≡ events_in (journals o) → s.here ≡ length (last o) → Judged s.broken s.law o → Stands text new rest'
    by None t c d r ev h l = absurd (n.begun r)
    by (Some (b, j)) t c d r ev h l =
        let old = length-append b (j ∷ []) in
        let more = length-append b ((j ++ e ∷ []) ∷ []) in
        record {
          so_far = Some (b, j ++ e ∷ []);
          text_is = t ∙ ap (λ u. file_of (b ++ j ∷ []) ++ u) is ∙ sym (append_assoc (file_of (b ++ j ∷ [])) (event_text e) rest') ∙ ap (λ u. u ++ rest') (sym (file_more b j e));
          count = omega (arith, c, old, more);
          told = each_last b j d;
          requests = n.requests ∙ r ∙ omega (arith, old, more);
          events = let x = events-append b (j ∷ []) in let y = events-append b ((j ++ e ∷ []) ∷ []) in let z = length_more j e in let w = n.events in omega (arith, x, y, z, w, ev);
          here = let z = length_more j e in let w = n.here in omega (arith, z, w, h);
          law = judged_more b j e s new s.broken (behind (told_of e) s.law) refl refl n.law (r ∙ old) h l;
        }

-- ---- an item more
adds : (text : List ℕ) (s new : Progress) (rest rest' : List ℕ) (i : Item) → Stands text s rest → Fronts rest i rest' → Adds (kept_of i) s (Ok tt) new → Stands text new rest'
adds text s new rest rest' (Request q) st f a = begins text s new rest rest' q st f.0 f.1 a.0 a.1
adds text s new rest rest' (Happened e) st f a = happens text s new rest rest' e st f.0 f.1 a

pub goes_on : (text : List ℕ) (s new : Progress) (rest rest' : List ℕ) → Stands text s rest → Goes (next_item rest) s (Ok tt) new rest' → Stands text new rest'
goes_on text s new rest rest' st g = by (item rest) refl g
  where
    by : (o : Option (Item × List ℕ)) → item rest ≡ o → Goes (kept_front o) s (Ok tt) new rest' → Stands text new rest'
    by None e g = absurd g
    by (Some p) e g = subst (Stands text new) g.1 (adds text s new rest p.1 p.0 st (item_read rest p.0 p.1 e) g.0)

-- less is left
pub shorter : (s new : Progress) (rest rest' : List ℕ) → Goes (next_item rest) s (Ok tt) new rest' → length rest' < length rest
shorter s new rest rest' g = by (item rest) refl g
  where
    by : (o : Option (Item × List ℕ)) → item rest ≡ o → Goes (kept_front o) s (Ok tt) new rest' → length rest' < length rest
    by None e g = absurd g
    by (Some p) e g =
        let f = item_read rest p.0 p.1 e in
        let l = ap length f.0 ∙ length-append (item_text p.0) p.1 in
        let m = some_text p.0 f.1 in
        let n = ap length g.1 in
        omega (arith, l, m, n)

-- ---- how many events there are
pub counted : (text : List ℕ) (s : Progress) (rest : List ℕ) → Stands text s rest → s.here ≤ s.events
counted text s rest st = by st.so_far st.here st.events
  where
    by : (o : Option (List EventList × EventList)) → s.here ≡ length (last o) → s.events ≡ events_in (journals o) → s.here ≤ s.events
    by None h e = omega (arith, h, e)
    by (Some p) h e = let x = events-append p.0 (p.1 ∷ []) in omega (arith, h, e, x)

pub fewer_events : (text : List ℕ) (s : Progress) (rest : List ℕ) → Stands text s rest → 0 < length rest → length text < 2 ^ 64 → s.events < 2 ^ 64 - 1
fewer_events text s rest st some short =
    let e = events_fit 1 (journals st.so_far) st.told in
    let l = ap length st.text_is ∙ length-append (file_of (journals st.so_far)) rest in
    let x = st.events in
    omega (arith, e, l, x, some, short)

pub rest_within : (text : List ℕ) (s : Progress) (rest : List ℕ) → Stands text s rest → length rest ≤ length text
rest_within text s rest st = let l = ap length st.text_is ∙ length-append (file_of (journals st.so_far)) rest in omega (arith, l)

-- ---- the end of a text that is a file
yes_or_broken : (text : List ℕ) (s : Progress) (b : Option (ℕ × ℕ)) (o : Option (List EventList × EventList)) → IsFileOf text (journals o) → s.broken ≡ b
    → s.requests ≡ length (journals o) → s.events ≡ events_in (journals o) → Judged b s.law o → Says text (verdict_of s)
yes_or_broken text s None o f is r e h =
    subst (λ b. Says text (verdict_of (record { requests = s.requests; events = s.events; here = s.here; law = s.law; broken = b }))) (sym is)
    (record { journals = journals o; file = f; obey = all_obey s.law o h; requests_are = r; events_are = e })
yes_or_broken text s (Some k) o f is r e h =
    let b = breaks_in k s.law o h in
    subst (λ b. Says text (verdict_of (record { requests = s.requests; events = s.events; here = s.here; law = s.law; broken = b }))) (sym is)
    (record { before = b.before; journal = b.journal; behind = b.behind; file = subst (IsFileOf text) b.split f; obey = b.obey; breaks = b.breaks; request_is = b.place })

pub ends : (text : List ℕ) (s : Progress) (rest : List ℕ) → Stands text s rest → length rest ≡ 0 → Says text (verdict_of s)
ends text s rest st e =
    yes_or_broken text s s.broken st.so_far (record { text_is = st.text_is ∙ ap (λ r. file_of (journals st.so_far) ++ r) (none rest e) ∙ append-nil (file_of (journals st.so_far)); count = st.count; told = st.told })
    refl st.requests st.events st.law
  where
    none : (r : List ℕ) → length r ≡ 0 → r ≡ []
    none [] e = refl
    none (x ∷ r) e = absurd (omega (arith, e))

-- ---- the end of the longest front that is a file

-- items whose text goes on behind the text of others are those others with more
record Goes_on (is ks : List Item) (more : List ℕ) : Type 0 where
  others : List Item
  split : ks ≡ is ++ others
  text_is : flat_map item_text others ≡ more
  told : Each IsItem others

more_items : (is ks : List Item) (more : List ℕ) → Each IsItem is → Each IsItem ks → flat_map item_text ks ≡ flat_map item_text is ++ more → Goes_on is ks more
more_items [] ks more h k e = record { others = ks; split = refl; text_is = e; told = k }
more_items (i ∷ is) [] more h k e =
    absurd (none_some (i, flat_map item_text is ++ more) (ap item e ∙ ap item (append_assoc (item_text i) (flat_map item_text is) more) ∙ item-item i h.0 (flat_map item_text is ++ more)))
more_items (i ∷ is) (m ∷ ks) more h k e =
    let pair = from_some {A = Item × List ℕ} (m, flat_map item_text ks) (i, flat_map item_text is ++ more)
    (sym (item-item m k.0 (flat_map item_text ks)) ∙ ap item e ∙ ap item (append_assoc (item_text i) (flat_map item_text is) more) ∙ item-item i h.0 (flat_map item_text is ++ more)) in
    let g = more_items is ks more h.1 k.1 (ap (λ p. p.1) pair) in
    record { others = g.others; split = ap (λ p. p.0 ∷ ks) pair ∙ ap (λ xs. i ∷ xs) g.split; text_is = g.text_is; told = g.told }

-- the item may go on with so many journals
abbrev Fits : ℕ → Item → Type 0
Fits n (Request q) = q ≡ n + 1
Fits n (Happened e) = 0 < n

first_item : (i m : Item) (is ks : List Item) → i ∷ is ≡ m ∷ ks → i ≡ m
first_item i m is ks e = cc

none_item : (i : Item) (is : List Item) → [] ≡ i ∷ is → ⊥
none_item i is e = cc

fits_next : (n : ℕ) (js ks : List EventList) (i : Item) (ms : List Item) → items_from (n + 1) ks ≡ items_from (n + 1) js ++ i ∷ ms → Fits (n + length js) i
fits_next n [] [] i ms e = absurd (none_item i ms e)
fits_next n [] (k ∷ ks) i ms e = subst (Fits (n + 0)) (first_item _ i _ ms e) (let q : n + 1 ≡ n + 0 + 1 = omega arith in q)
fits_next n (j ∷ js) ks (Happened e) ms h = omega arith
fits_next n (j ∷ js) [] (Request q) ms h = absurd (none_item _ _ h)
fits_next n (j ∷ js) (k ∷ ks) (Request q) ms h =
    let tails = same_tail (Request (n + 1)) (Request (n + 1)) _ _ h ∙ append_assoc (map Happened j) (items_from (n + 1 + 1) js) (Request q ∷ ms) in
    let rest = (parted k j (items_from (n + 1 + 1) ks) (items_from (n + 1 + 1) js ++ Request q ∷ ms) (no_event (n + 1 + 1) ks) (begins_one js) tails).1 in
    let fits = fits_next (n + 1) js ks (Request q) ms rest in
    let e : n + 1 + length js + 1 ≡ n + length (j ∷ js) + 1 = omega arith in fits ∙ e
  where
    begins_one : (js : List EventList) → NoEvent (items_from (n + 1 + 1) js ++ Request q ∷ ms)
    begins_one [] = tt
    begins_one (j ∷ js) = tt

-- a file that goes on behind a file goes on with an item that fits
record Fitting (js : List EventList) (rest : List ℕ) : Type 0 where
  next : Item
  behind : List ℕ
  read : item rest ≡ Some (next, behind)
  fits : Fits (length js) next

longer_file : (js ks : List EventList) (more rest tail : List ℕ) → IsNumber (length js) → Each (Each CanBeTold) js → IsFileOf (file_of js ++ more) ks → 0 < length more → rest ≡ more ++ tail → Fitting js rest
longer_file js ks more rest tail count told f pos is =
    let g = more_items (items_from 1 js) (items_from 1 ks) more (items_told 1 js (room js count) told) (items_told 1 ks (room ks f.count) f.told)
    (sym (file-items 1 ks) ∙ sym f.text_is ∙ ap (λ t. t ++ more) (file-items 1 js)) in
    by g.others g.split g.text_is g.told
  where
    by : (ms : List Item) → items_from 1 ks ≡ items_from 1 js ++ ms → flat_map item_text ms ≡ more → Each IsItem ms → Fitting js rest
    by [] s t h = absurd (let l = ap length t in omega (arith, l, pos))
    by (i ∷ ms) s t h = record {
      next = i;
      behind = flat_map item_text ms ++ tail;
      read = ap item (is ∙ ap (λ u. u ++ tail) (sym t) ∙ append_assoc (item_text i) (flat_map item_text ms) tail) ∙ item-item i h.0 (flat_map item_text ms ++ tail);
      fits = let e : 0 + length js ≡ length js = omega arith in subst (λ n. Fits n i) e (fits_next 0 js ks i ms s);
    }

-- an item that was refused doesn't fit
refused : (s new : Progress) (js : List EventList) (i : Item) → s.requests ≡ length js → Fits (length js) i → Adds (kept_of i) s (Err Form) new → ⊥
refused s new js (Request q) r f a = a (f ∙ ap (λ n. n + 1) (sym r))
refused s new js (Happened e) r f a = omega (arith, r, f, a)

stops : (s new : Progress) (rest rest' : List ℕ) (js : List EventList) → s.requests ≡ length js → Goes (next_item rest) s (Err Form) new rest' → Fitting js rest → ⊥
stops s new rest rest' js r g f = refused s new js f.next r f.fits (subst (λ o. Goes (kept_front o) s (Err Form) new rest') f.read g)

pub not_further : (text : List ℕ) (s new : Progress) (rest rest' : List ℕ) (at : ℕ) → Stands text s rest → 0 < length rest → Goes (next_item rest) s (Err Form) new rest'
    → at ≡ length text - length rest → Says text (verdict.Form at)
not_further text s new rest rest' at st some g is = (
  λ f. longest (length text) (omega (arith, long, some, is)) (omega arith) (subst IsFile (sym (take_all (length text) text (omega arith))) f),
  record {
    within = omega (arith, is);
    is_file = (js, subst (λ t. IsFileOf t js) (sym here) (record { text_is = refl; count = st.count; told = st.told }));
    longest = longest;
  },
)
  where
    js : List EventList
    js = journals st.so_far

    long : length text ≡ length (file_of (journals st.so_far)) + length rest
    long = ap length st.text_is ∙ length-append (file_of (journals st.so_far)) rest

    at_is : at ≡ length (file_of (journals st.so_far))
    at_is = let l = long in omega (arith, l, is)

    here : take at text ≡ file_of (journals st.so_far)
    here = ap (λ n. take n text) at_is ∙ ap (take (length (file_of (journals st.so_far)))) st.text_is ∙ take-append_seam (file_of (journals st.so_far)) rest

    longest : (n : ℕ) → at < n → n ≤ length text → IsFile (take n text) → ⊥
    longest n lt le f =
        let m = n - at in
        let front : take n text ≡ file_of (journals st.so_far) ++ take m rest =
        (let e : n ≡ length (file_of (journals st.so_far)) + m = (let a = at_is in omega (arith, a, lt)) in ap (λ k. take k text) e)
        ∙ ap (take (length (file_of (journals st.so_far)) + m)) st.text_is ∙ take-append-add (file_of (journals st.so_far)) rest m in
        let some_more : 0 < length (take m rest) = (let l = length-take m rest in omega (arith, l, lt, some)) in
        stops s new rest rest' (journals st.so_far) st.requests g
        (longer_file (journals st.so_far) f.0 (take m rest) rest (drop m rest) st.count st.told (subst (λ t. IsFileOf t f.0) front f.1) some_more (sym (take-append-drop m rest)))
