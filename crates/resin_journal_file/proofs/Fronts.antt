-- What is read from a line is an item that a file can tell, and the line is that item's.
use Rattle.std.proofs.Common.{◌≡◌, ℕ, ◌^◌, ◌<◌, ◌≤◌, Bool, true, false, cond, List, [], ◌∷◌, ◌++◌, length, Option, Some, None, decimal, codes, refl, sym, ap, subst, ◌∙◌, arith, append_assoc}
use Rattle.std.specs.List.{flat_map}
use Rattle.resin_lstr.specs.declared.limits.TheConstants.{LONGEST}
use Rattle.resin_lstr.specs.Texts.{bytes_of, sets_of}
use Rattle.resin_scan.specs.Words.{IsName}
use Rattle.resin_journal.specs.declared.channel.Channel.{Channel}
use Rattle.resin_journal.specs.declared.event.Event.TheVariants.{Passed, Sent, Denied, FilterDenied}
use Rattle.resin_journal.specs.Channels.{channel_name}
use Rattle.resin_journal_file.specs.Files.{line, runs_of, run_line}
use Rattle.resin_journal_file.specs.Reading.{Item, Request, Happened, item_text, IsItem, and_then, is_text, cut, fields_of, number, LARGEST, LARGEST_OBJECT, name, channel, next_as, next_number, next_object, next_channel, next_name, at_end, request, passed, denied, filter, Heading, heading, labelled, sent, told, said, item}
use Rattle.resin_journal_file.proofs.Decimals.{number_read, text_is}
use Rattle.resin_journal_file.proofs.Once.{from_some, none_some}
use Rattle.resin_journal_file.proofs.Back.{bound, line_read, name_read, channel_read, labelled_read}

-- ---- fields
took : {A : Type 0} (read : List ℕ → Option A) (fs : List (List ℕ)) (r : A × List (List ℕ)) → next_as read fs ≡ Some r → (f : List ℕ) × (fs ≡ f ∷ r.1) × (read f ≡ Some r.0)
took read [] r e = absurd (none_some r e)
took {A = A} read (f ∷ fs) r e =
    let b = bound {B = A × List (List ℕ)} (read f) (λ a. Some (a, fs)) r e in
    let pair = from_some {A = A × List (List ℕ)} (b.0, fs) r b.2 in
    (f, ap (λ p. f ∷ p.1) pair, b.1 ∙ ap (λ p. Some p.0) pair)

took_number : (most : ℕ) (fs : List (List ℕ)) (r : ℕ × List (List ℕ)) → next_number most fs ≡ Some r → (fs ≡ decimal r.0 ∷ r.1) × (r.0 ≤ most) × (r.0 < 2 ^ 64)
took_number most fs r e =
    let t = took (number most) fs r e in
    let n = number_read most r.0 t.0 t.2 in
    (t.1 ∙ ap (λ f. f ∷ r.1) n.0, n.1, n.2)

took_object : (fs : List (List ℕ)) (r : ℕ × List (List ℕ)) → next_object fs ≡ Some r → (fs ≡ decimal r.0 ∷ r.1) × (r.0 < 2 ^ 32)
took_object fs r e =
    let t = took_number LARGEST_OBJECT fs r e in
    let le : r.0 ≤ LARGEST_OBJECT = t.1 in
    (t.0, omega (arith, le))

took_channel : (fs : List (List ℕ)) (r : Channel × List (List ℕ)) → next_channel fs ≡ Some r → fs ≡ channel_name r.0 ∷ r.1
took_channel fs r e = let t = took channel fs r e in t.1 ∙ ap (λ f. f ∷ r.1) (channel_read t.0 r.0 t.2)

took_name : (fs : List (List ℕ)) (r : List ℕ × List (List ℕ)) → next_name fs ≡ Some r → (fs ≡ r.0 ∷ r.1) × IsName r.0
took_name fs r e =
    let t = took name fs r e in
    let n = name_read t.0 r.0 t.2 in
    (t.1 ∙ ap (λ f. f ∷ r.1) n.0, n.1)

ended : {A : Type 0} (a i : A) (fs : List (List ℕ)) → at_end a fs ≡ Some i → (fs ≡ []) × (a ≡ i)
ended a i [] e = (refl, from_some a i e)
ended a i (f ∷ fs) e = absurd (none_some i e)

-- ---- what holds of the fields of a line, field by field
module _ {A : Type 0} (i : A) (P : List (List ℕ) → Type 0) where
  number_then : (most : ℕ) (fs : List (List ℕ)) (k : ℕ × List (List ℕ) → Option A) → and_then (next_number most fs) k ≡ Some i
      → ((n : ℕ) (gs : List (List ℕ)) → n ≤ most → n < 2 ^ 64 → k (n, gs) ≡ Some i → P (decimal n ∷ gs)) → P fs
  number_then most fs k e next =
      let b = bound (next_number most fs) k i e in
      let t = took_number most fs b.0 b.1 in
      subst P (sym t.0) (next b.0.0 b.0.1 t.1 t.2 b.2)

  object_then : (fs : List (List ℕ)) (k : ℕ × List (List ℕ) → Option A) → and_then (next_object fs) k ≡ Some i
      → ((n : ℕ) (gs : List (List ℕ)) → n < 2 ^ 32 → k (n, gs) ≡ Some i → P (decimal n ∷ gs)) → P fs
  object_then fs k e next =
      let b = bound (next_object fs) k i e in
      let t = took_object fs b.0 b.1 in
      subst P (sym t.0) (next b.0.0 b.0.1 t.1 b.2)

  channel_then : (fs : List (List ℕ)) (k : Channel × List (List ℕ) → Option A) → and_then (next_channel fs) k ≡ Some i
      → ((c : Channel) (gs : List (List ℕ)) → k (c, gs) ≡ Some i → P (channel_name c ∷ gs)) → P fs
  channel_then fs k e next =
      let b = bound (next_channel fs) k i e in
      subst P (sym (took_channel fs b.0 b.1)) (next b.0.0 b.0.1 b.2)

  name_then : (fs : List (List ℕ)) (k : List ℕ × List (List ℕ) → Option A) → and_then (next_name fs) k ≡ Some i
      → ((n : List ℕ) (gs : List (List ℕ)) → IsName n → k (n, gs) ≡ Some i → P (n ∷ gs)) → P fs
  name_then fs k e next =
      let b = bound (next_name fs) k i e in
      let t = took_name fs b.0 b.1 in
      subst P (sym t.0) (next b.0.0 b.0.1 t.1 b.2)

  end_then : (a : A) (fs : List (List ℕ)) → at_end a fs ≡ Some i → (a ≡ i → P []) → P fs
  end_then a fs e next = let z = ended a i fs e in subst P (sym z.0) (next z.1)

-- ---- lines
-- a line with this verb and these fields tells the item
abbrev Tells : List ℕ → List (List ℕ) → Item → Type 0
Tells verb fs i = (line (verb ∷ fs) ≡ item_text i) × IsItem i

request_read : (fs : List (List ℕ)) (i : Item) → request fs ≡ Some i → Tells (codes "request") fs i
request_read fs i e =
    number_then i (λ gs. Tells (codes "request") gs i) LARGEST fs (λ q. at_end (Request q.0) q.1) e (λ q f1 q_le q_lt e1.
    end_then i (λ gs. Tells (codes "request") (decimal q ∷ gs) i) (Request q) f1 e1 (λ z.
    subst (Tells (codes "request") (decimal q ∷ [])) z (refl, q_lt)))

passed_read : (fs : List (List ℕ)) (i : Item) → passed fs ≡ Some i → Tells (codes "passed") fs i
passed_read fs i e =
    number_then i (λ gs. Tells (codes "passed") gs i) LARGEST fs (λ w. and_then (next_object w.1) (λ p. at_end (Happened (Passed w.0 p.0)) p.1)) e (λ w f1 w_le w_lt e1.
    object_then i (λ gs. Tells (codes "passed") (decimal w ∷ gs) i) f1 (λ p. at_end (Happened (Passed w p.0)) p.1) e1 (λ p f2 p_lt e2.
    end_then i (λ gs. Tells (codes "passed") (decimal w ∷ decimal p ∷ gs) i) (Happened (Passed w p)) f2 e2 (λ z.
    subst (Tells (codes "passed") (decimal w ∷ decimal p ∷ [])) z (refl, (w_lt, p_lt)))))

denied_read : (fs : List (List ℕ)) (i : Item) → denied fs ≡ Some i → Tells (codes "denied") fs i
denied_read fs i e =
    number_then i (λ gs. Tells (codes "denied") gs i) LARGEST fs
    (λ w. and_then (next_channel w.1) (λ c. and_then (next_object c.1) (λ p. and_then (next_name p.1) (λ class. and_then (next_number LARGEST class.1) (λ from.
    and_then (next_number LARGEST from.1) (λ to. and_then (next_name to.1) (λ by. at_end (Happened (Denied w.0 c.0 p.0 class.0 from.0 to.0 by.0)) by.1))))))) e (λ w f1 w_le w_lt e1.
    channel_then i (λ gs. Tells (codes "denied") (decimal w ∷ gs) i) f1
    (λ c. and_then (next_object c.1) (λ p. and_then (next_name p.1) (λ class. and_then (next_number LARGEST class.1) (λ from.
    and_then (next_number LARGEST from.1) (λ to. and_then (next_name to.1) (λ by. at_end (Happened (Denied w c.0 p.0 class.0 from.0 to.0 by.0)) by.1)))))) e1 (λ c f2 e2.
    object_then i (λ gs. Tells (codes "denied") (decimal w ∷ channel_name c ∷ gs) i) f2
    (λ p. and_then (next_name p.1) (λ class. and_then (next_number LARGEST class.1) (λ from.
    and_then (next_number LARGEST from.1) (λ to. and_then (next_name to.1) (λ by. at_end (Happened (Denied w c p.0 class.0 from.0 to.0 by.0)) by.1))))) e2 (λ p f3 p_lt e3.
    name_then i (λ gs. Tells (codes "denied") (decimal w ∷ channel_name c ∷ decimal p ∷ gs) i) f3
    (λ class. and_then (next_number LARGEST class.1) (λ from.
    and_then (next_number LARGEST from.1) (λ to. and_then (next_name to.1) (λ by. at_end (Happened (Denied w c p class.0 from.0 to.0 by.0)) by.1)))) e3 (λ class f4 class_is e4.
    number_then i (λ gs. Tells (codes "denied") (decimal w ∷ channel_name c ∷ decimal p ∷ class ∷ gs) i) LARGEST f4
    (λ from. and_then (next_number LARGEST from.1) (λ to. and_then (next_name to.1) (λ by. at_end (Happened (Denied w c p class from.0 to.0 by.0)) by.1))) e4 (λ from f5 from_le from_lt e5.
    number_then i (λ gs. Tells (codes "denied") (decimal w ∷ channel_name c ∷ decimal p ∷ class ∷ decimal from ∷ gs) i) LARGEST f5
    (λ to. and_then (next_name to.1) (λ by. at_end (Happened (Denied w c p class from to.0 by.0)) by.1)) e5 (λ to f6 to_le to_lt e6.
    name_then i (λ gs. Tells (codes "denied") (decimal w ∷ channel_name c ∷ decimal p ∷ class ∷ decimal from ∷ decimal to ∷ gs) i) f6
    (λ by. at_end (Happened (Denied w c p class from to by.0)) by.1) e6 (λ by f7 by_is e7.
    end_then i (λ gs. Tells (codes "denied") (decimal w ∷ channel_name c ∷ decimal p ∷ class ∷ decimal from ∷ decimal to ∷ by ∷ gs) i) (Happened (Denied w c p class from to by)) f7 e7 (λ z.
    subst (Tells (codes "denied") (decimal w ∷ channel_name c ∷ decimal p ∷ class ∷ decimal from ∷ decimal to ∷ by ∷ [])) z
    (refl, (w_lt, p_lt, class_is, from_lt, to_lt, by_is))))))))))

filter_read : (fs : List (List ℕ)) (i : Item) → filter fs ≡ Some i → Tells (codes "filter") fs i
filter_read fs i e =
    number_then i (λ gs. Tells (codes "filter") gs i) LARGEST fs
    (λ w. and_then (next_channel w.1) (λ c. and_then (next_object c.1) (λ f. and_then (next_name f.1) (λ class. and_then (next_number LARGEST class.1) (λ len.
    and_then (next_name len.1) (λ by. at_end (Happened (FilterDenied w.0 c.0 f.0 class.0 len.0 by.0)) by.1)))))) e (λ w f1 w_le w_lt e1.
    channel_then i (λ gs. Tells (codes "filter") (decimal w ∷ gs) i) f1
    (λ c. and_then (next_object c.1) (λ f. and_then (next_name f.1) (λ class. and_then (next_number LARGEST class.1) (λ len.
    and_then (next_name len.1) (λ by. at_end (Happened (FilterDenied w c.0 f.0 class.0 len.0 by.0)) by.1))))) e1 (λ c f2 e2.
    object_then i (λ gs. Tells (codes "filter") (decimal w ∷ channel_name c ∷ gs) i) f2
    (λ f. and_then (next_name f.1) (λ class. and_then (next_number LARGEST class.1) (λ len.
    and_then (next_name len.1) (λ by. at_end (Happened (FilterDenied w c f.0 class.0 len.0 by.0)) by.1)))) e2 (λ o f3 o_lt e3.
    name_then i (λ gs. Tells (codes "filter") (decimal w ∷ channel_name c ∷ decimal o ∷ gs) i) f3
    (λ class. and_then (next_number LARGEST class.1) (λ len. and_then (next_name len.1) (λ by. at_end (Happened (FilterDenied w c o class.0 len.0 by.0)) by.1))) e3 (λ class f4 class_is e4.
    number_then i (λ gs. Tells (codes "filter") (decimal w ∷ channel_name c ∷ decimal o ∷ class ∷ gs) i) LARGEST f4
    (λ len. and_then (next_name len.1) (λ by. at_end (Happened (FilterDenied w c o class len.0 by.0)) by.1)) e4 (λ len f5 len_le len_lt e5.
    name_then i (λ gs. Tells (codes "filter") (decimal w ∷ channel_name c ∷ decimal o ∷ class ∷ decimal len ∷ gs) i) f5
    (λ by. at_end (Happened (FilterDenied w c o class len by.0)) by.1) e5 (λ by f6 by_is e6.
    end_then i (λ gs. Tells (codes "filter") (decimal w ∷ channel_name c ∷ decimal o ∷ class ∷ decimal len ∷ by ∷ gs) i) (Happened (FilterDenied w c o class len by)) f6 e6 (λ z.
    subst (Tells (codes "filter") (decimal w ∷ channel_name c ∷ decimal o ∷ class ∷ decimal len ∷ by ∷ [])) z
    (refl, (w_lt, o_lt, class_is, len_lt, by_is)))))))))

-- what a heading tells
record ReadHeading (fs : List (List ℕ)) (h : Heading) : Type 0 where
  fields : fs ≡ decimal h.write ∷ channel_name h.channel ∷ decimal h.len ∷ decimal h.count ∷ []
  write : h.write < 2 ^ 64
  short : h.len ≤ LONGEST

heading_read : (fs : List (List ℕ)) (h : Heading) → heading fs ≡ Some h → ReadHeading fs h
heading_read fs h e =
    number_then h (λ gs. ReadHeading gs h) LARGEST fs
    (λ w. and_then (next_channel w.1) (λ c. and_then (next_number LONGEST c.1) (λ len. and_then (next_number LARGEST len.1) (λ count.
    at_end (record { write = w.0; channel = c.0; len = len.0; count = count.0 }) count.1)))) e (λ w f1 w_le w_lt e1.
    channel_then h (λ gs. ReadHeading (decimal w ∷ gs) h) f1
    (λ c. and_then (next_number LONGEST c.1) (λ len. and_then (next_number LARGEST len.1) (λ count.
    at_end (record { write = w; channel = c.0; len = len.0; count = count.0 }) count.1))) e1 (λ c f2 e2.
    number_then h (λ gs. ReadHeading (decimal w ∷ channel_name c ∷ gs) h) LONGEST f2
    (λ len. and_then (next_number LARGEST len.1) (λ count. at_end (record { write = w; channel = c; len = len.0; count = count.0 }) count.1)) e2 (λ len f3 len_le len_lt e3.
    number_then h (λ gs. ReadHeading (decimal w ∷ channel_name c ∷ decimal len ∷ gs) h) LARGEST f3
    (λ count. at_end (record { write = w; channel = c; len = len; count = count.0 }) count.1) e3 (λ count f4 count_le count_lt e4.
    end_then h (λ gs. ReadHeading (decimal w ∷ channel_name c ∷ decimal len ∷ decimal count ∷ gs) h) (record { write = w; channel = c; len = len; count = count }) f4 e4 (λ z.
    subst (ReadHeading (decimal w ∷ channel_name c ∷ decimal len ∷ decimal count ∷ [])) z (record { fields = refl; write = w_lt; short = len_le }))))))

-- the item whose text stands in front of what is behind
abbrev pub Fronts : List ℕ → Item → List ℕ → Type 0
Fronts xs i rest = (xs ≡ item_text i ++ rest) × IsItem i

sent_read : (fs : List (List ℕ)) (xs : List ℕ) (i : Item) (rest : List ℕ) → sent fs xs ≡ Some (i, rest) → Fronts (line (codes "sent" ∷ fs) ++ xs) i rest
sent_read fs xs i rest e =
    let h = bound {B = Item × List ℕ} (heading fs) (λ h. and_then (labelled h.len h.count xs) (λ t. Some (Happened (Sent h.write h.channel t.0), t.1))) (i, rest) e in
    let l = bound {B = Item × List ℕ} (labelled h.0.len h.0.count xs) (λ t. Some (Happened (Sent h.0.write h.0.channel t.0), t.1)) (i, rest) h.2 in
    let head = heading_read fs h.0 h.1 in
    let text = labelled_read h.0.len h.0.count xs l.0.0 l.0.1 head.short l.1 in
    let pair = from_some {A = Item × List ℕ} (Happened (Sent h.0.write h.0.channel l.0.0), l.0.1) (i, rest) l.2 in
    let t = l.0.0 in
    let rs = runs_of (sets_of t) in
    let first = line (codes "sent" ∷ decimal h.0.write ∷ channel_name h.0.channel ∷ decimal (length t) ∷ decimal (length rs) ∷ []) in
    let lines = flat_map run_line rs in
    subst (λ (p : Item × List ℕ). Fronts (line (codes "sent" ∷ fs) ++ xs) p.0 p.1) pair (
      ap (λ gs. line (codes "sent" ∷ gs) ++ xs) head.fields
          ∙ ap (λ n. line (codes "sent" ∷ decimal h.0.write ∷ channel_name h.0.channel ∷ decimal n ∷ decimal h.0.count ∷ []) ++ xs) text.length_is
          ∙ ap (λ n. line (codes "sent" ∷ decimal h.0.write ∷ channel_name h.0.channel ∷ decimal (length t) ∷ decimal n ∷ []) ++ xs) text.count_is
          ∙ ap (λ ys. first ++ ys) text.text_is
          ∙ sym (append_assoc first (lines ++ (bytes_of t ++ 10 ∷ [])) l.0.1 ∙ ap (λ u. first ++ u) (append_assoc lines (bytes_of t ++ 10 ∷ []) l.0.1 ∙ ap (λ u. lines ++ u) (append_assoc (bytes_of t) (10 ∷ []) l.0.1))),
      (head.write, text.told),
    )

-- one of two ways to read
chosen_read : {A : Type 0} (P : A → Type 0) (b : Bool) (o q : Option A) (r : A) → cond b o q ≡ Some r → (b ≡ true → o ≡ Some r → P r) → (q ≡ Some r → P r) → P r
chosen_read P true o q r e here other = here refl e
chosen_read P false o q r e here other = other e

verb_is : (verb word : List ℕ) (fs : List (List ℕ)) (i : Item) → is_text verb word ≡ true → Tells word fs i → Tells verb fs i
verb_is verb word fs i t h = subst (λ v. Tells v fs i) (sym (text_is verb word t)) h

told_read : (verb : List ℕ) (fs : List (List ℕ)) (i : Item) → told verb fs ≡ Some i → Tells verb fs i
told_read verb fs i e =
    chosen_read (Tells verb fs) (is_text verb (codes "request")) (request fs) _ i e (λ t r. verb_is verb (codes "request") fs i t (request_read fs i r)) (λ e1.
    chosen_read (Tells verb fs) (is_text verb (codes "passed")) (passed fs) _ i e1 (λ t r. verb_is verb (codes "passed") fs i t (passed_read fs i r)) (λ e2.
    chosen_read (Tells verb fs) (is_text verb (codes "denied")) (denied fs) _ i e2 (λ t r. verb_is verb (codes "denied") fs i t (denied_read fs i r)) (λ e3.
    chosen_read (Tells verb fs) (is_text verb (codes "filter")) (filter fs) None i e3 (λ t r. verb_is verb (codes "filter") fs i t (filter_read fs i r)) (λ e4. absurd (none_some i e4)))))

said_read : (fs : List (List ℕ)) (xs : List ℕ) (i : Item) (rest : List ℕ) → said fs xs ≡ Some (i, rest) → Fronts (line fs ++ xs) i rest
said_read [] xs i rest e = absurd (none_some (i, rest) e)
said_read (verb ∷ fs) xs i rest e =
    chosen_read (λ (p : Item × List ℕ). Fronts (line (verb ∷ fs) ++ xs) p.0 p.1) (is_text verb (codes "sent")) (sent fs xs) (and_then (told verb fs) (λ i. Some (i, xs))) (i, rest) e
    (λ t r. subst (λ v. Fronts (line (v ∷ fs) ++ xs) i rest) (sym (text_is verb (codes "sent") t)) (sent_read fs xs i rest r))
    (λ r.
    let b = bound {B = Item × List ℕ} (told verb fs) (λ i. Some (i, xs)) (i, rest) r in
    let pair = from_some {A = Item × List ℕ} (b.0, xs) (i, rest) b.2 in
    let h = told_read verb fs b.0 b.1 in
    subst (λ (p : Item × List ℕ). Fronts (line (verb ∷ fs) ++ xs) p.0 p.1) pair (ap (λ t. t ++ xs) h.0, h.1))

-- what is read stands in front
pub item_read : (xs : List ℕ) (i : Item) (rest : List ℕ) → item xs ≡ Some (i, rest) → Fronts xs i rest
item_read xs i rest e =
    let l = bound {B = Item × List ℕ} (cut 10 xs) (λ l. said (fields_of l.0) l.1) (i, rest) e in
    let h = said_read (fields_of l.0.0) l.0.1 i rest l.2 in
    (line_read xs l.0.0 l.0.1 l.1 ∙ h.0, h.1)
