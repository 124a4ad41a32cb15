-- Each item of a file is read back, and what is behind it is left.
use Rattle.std.proofs.Common.{◌≡◌, ℕ, suc, ◌+◌, ◌^◌, ◌<◌, ◌≤◌, Bool, true, false, cond, List, [], ◌∷◌, ◌++◌, length, take, drop, get_or, map, Option, Some, None, decimal, codes, refl, sym, ap, subst, ◌∙◌, arith, append_assoc, add-one}
use Rattle.std.specs.Prelude.{◌&&◌, nat_eq, nat_lt}
use Rattle.std.specs.List.{flat_map, list_all, zip}
use Rattle.std.proofs.lemmas.Bool.Decides.{nat_tests}
use Rattle.resin_label.specs.Sets.{NumberSet, same}
use Rattle.resin_lstr.specs.declared.limits.TheConstants.{LONGEST}
use Rattle.resin_lstr.specs.Texts.{Text, bytes_of, sets_of}
use Rattle.resin_scan.specs.Words.{IsName}
use Rattle.resin_scan.proofs.Runs.{take_front}
use Rattle.resin_journal.specs.declared.channel.Channel.{Channel}
use Rattle.resin_journal.specs.declared.event.Event.{Event}
use Rattle.resin_journal.specs.declared.event.Event.TheVariants.{Passed, Sent, Denied, FilterDenied}
use Rattle.resin_journal.specs.Channels.{channel_name}
use Rattle.resin_journal_file.specs.Files.{line, with_place, runs_of, run_line, event_text}
use Rattle.resin_journal_file.specs.Limits.{IsNumber, IsLabelled, CanBeTold}
use Rattle.resin_journal_file.specs.Reading.{Item, Request, Happened, item_text, IsItem, and_then, fields_of, number, LARGEST, LARGEST_OBJECT, name, channel, total, is_coalesced, sets, bytes, labelled, next_as, at_end, Heading, heading, sent, said, item}
use Rattle.resin_journal_file.proofs.Decimals.{both, number-decimal}
use Rattle.resin_journal_file.proofs.Fields.{lacks, lt_true, longer, cut-line, fields-line, lacks-decimal, lacks-name, name-name, channel-name, lacks-channel}
use Rattle.resin_journal_file.proofs.Runs.{as_read, runs-lines, coalesced-runs, total-runs, sets-runs, are_runs}

-- the fields hold neither blank nor newline
pub record Plain (fs : List (List ℕ)) : Type 0 where
  pub blanks : list_all (lacks 32) fs ≡ true
  pub newlines : list_all (lacks 10) fs ≡ true

-- one field more in front
field : (f : List ℕ) (fs : List (List ℕ)) → (lacks 32 f ≡ true) × (lacks 10 f ≡ true) → Plain fs → Plain (f ∷ fs)
field f fs h k = record { blanks = both _ _ h.0 k.blanks; newlines = both _ _ h.1 k.newlines }

decimal_field : (n : ℕ) → n < 2 ^ 64 → (lacks 32 (decimal n) ≡ true) × (lacks 10 (decimal n) ≡ true)
decimal_field n h = (lacks-decimal 32 n (omega arith) h, lacks-decimal 10 n (omega arith) h)

no_field : Plain []
no_field = record { blanks = refl; newlines = refl }

-- a line says what its fields say
pub item-line : (f : List ℕ) (fs : List (List ℕ)) (rest : List ℕ) → (lacks 32 f ≡ true) × (lacks 10 f ≡ true) → Plain fs → item (line (f ∷ fs) ++ rest) ≡ said (f ∷ fs) rest
item-line f fs rest h k =
    ap (λ o. and_then o (λ l. said (fields_of l.0) l.1)) (cut-line f fs rest (both _ _ h.1 k.newlines))
    ∙ ap (λ gs. said gs rest) (fields-line f fs h.0 k.blanks)

wide : (n : ℕ) → IsNumber n → number LARGEST (decimal n) ≡ Some n
wide n h = number-decimal LARGEST n (omega arith) h

object : (n : ℕ) → n < 2 ^ 32 → number LARGEST_OBJECT (decimal n) ≡ Some n
object n h = number-decimal LARGEST_OBJECT n (omega arith) (omega arith)

same_number : (c : ℕ) → nat_eq c c ≡ true
same_number c = grind (arith, nat_tests)

-- ---- a text that goes out
pub length_bytes : (t : Text) → length (bytes_of t) ≡ length t
length_bytes [] = refl
length_bytes (p ∷ t) = ap suc (length_bytes t)

length_sets : (t : Text) → length (sets_of t) ≡ length t
length_sets [] = refl
length_sets (p ∷ t) = ap suc (length_sets t)

zipped : (t : Text) → zip (bytes_of t) (sets_of t) ≡ t
zipped [] = refl
zipped (p ∷ t) = ap (λ u. p ∷ u) (zipped t)

newline_behind : (xs rest : List ℕ) → get_or (xs ++ 10 ∷ rest) (length xs) 0 ≡ 10
newline_behind [] rest = refl
newline_behind (x ∷ xs) rest = newline_behind xs rest

behind : (xs rest : List ℕ) → drop (length xs + 1) (xs ++ 10 ∷ rest) ≡ rest
behind xs rest = rw add-one (past xs)
  where
    past : (zs : List ℕ) → drop (suc (length zs)) (zs ++ 10 ∷ rest) ≡ rest
    past [] = refl
    past (z ∷ zs) = past zs

shorter : (xs rest : List ℕ) → nat_lt (length xs) (length (xs ++ 10 ∷ rest)) ≡ true
shorter xs rest = lt_true (length xs) (length (xs ++ 10 ∷ rest)) (longer xs 10 rest)

bytes-bytes : (xs rest : List ℕ) → bytes (length xs) (xs ++ 10 ∷ rest) ≡ Some (xs, rest)
bytes-bytes xs rest =
    ap (λ b. cond b (Some (take (length xs) (xs ++ 10 ∷ rest), drop (length xs + 1) (xs ++ 10 ∷ rest))) None)
    (both _ _ (shorter xs rest) (ap (λ n. nat_eq n 10) (newline_behind xs rest)))
    ∙ ap (λ ts. Some (ts, drop (length xs + 1) (xs ++ 10 ∷ rest))) (take_front xs (10 ∷ rest))
    ∙ ap (λ us. Some (xs, us)) (behind xs rest)

labelled-text : (t : Text) (rest : List ℕ) → IsLabelled t
    → labelled (length t) (length (runs_of (sets_of t))) (flat_map run_line (runs_of (sets_of t)) ++ (bytes_of t ++ 10 ∷ rest)) ≡ Some (t, rest)
labelled-text t rest h =
    let rs = runs_of (sets_of t) in
    let len = length t in
    let after : List ℕ = bytes_of t ++ 10 ∷ rest in
    let short : length (sets_of t) ≤ LONGEST = subst (λ n. n ≤ LONGEST) (sym (length_sets t)) h.0 in
    let same_total : nat_eq (total (map as_read rs)) len ≡ true = subst (λ n. nat_eq n len ≡ true) (sym (total-runs (sets_of t) ∙ length_sets t)) (same_number len) in
    ap (λ o. and_then o (λ q. cond (is_coalesced None q.0 && nat_eq (total q.0) len) (and_then (bytes len q.1) (λ bs. Some (zip bs.0 (sets q.0), bs.1))) None))
    (runs-lines rs after (are_runs (sets_of t) short h.1))
    ∙ ap (λ b. cond b (and_then (bytes len after) (λ bs. Some (zip bs.0 (sets (map as_read rs)), bs.1))) None) (both _ _ (coalesced-runs (sets_of t)) same_total)
    ∙ ap (λ o. and_then o (λ bs. Some (zip bs.0 (sets (map as_read rs)), bs.1))) (ap (λ n. bytes n after) (sym (length_bytes t)) ∙ bytes-bytes (bytes_of t) rest)
    ∙ ap (λ ss. Some (zip (bytes_of t) ss, rest)) (sets-runs (sets_of t))
    ∙ ap (λ u. Some (u, rest)) (zipped t)

-- ---- items
request_read : (number : List ℕ → Option ℕ) (fq : List ℕ) (q : ℕ) → number fq ≡ Some q → and_then (next_as number (fq ∷ [])) (λ q. at_end (Request q.0) q.1) ≡ Some (Request q)
request_read number fq q h = rw h refl

passed_read : (number object : List ℕ → Option ℕ) (fw fp : List ℕ) (w p : ℕ) → number fw ≡ Some w → object fp ≡ Some p
    → and_then (next_as number (fw ∷ fp ∷ [])) (λ w. and_then (next_as object w.1) (λ p. at_end (Happened (Passed w.0 p.0)) p.1)) ≡ Some (Happened (Passed w p))
passed_read number object fw fp w p h k = rw (h, k) refl

denied_read : (number object : List ℕ → Option ℕ) (channel : List ℕ → Option Channel) (name : List ℕ → Option (List ℕ)) (fw fc fp fn ff ft fb : List ℕ)
    (w : ℕ) (c : Channel) (p : ℕ) (class : List ℕ) (from to : ℕ) (by : List ℕ)
    → number fw ≡ Some w → channel fc ≡ Some c → object fp ≡ Some p → name fn ≡ Some class → number ff ≡ Some from → number ft ≡ Some to → name fb ≡ Some by
    → and_then (next_as number (fw ∷ fc ∷ fp ∷ fn ∷ ff ∷ ft ∷ fb ∷ [])) (λ w. and_then (next_as channel w.1) (λ c. and_then (next_as object c.1) (λ p.
    and_then (next_as name p.1) (λ class. and_then (next_as number class.1) (λ from. and_then (next_as number from.1) (λ to. and_then (next_as name to.1) (λ by.
    at_end (Happened (Denied w.0 c.0 p.0 class.0 from.0 to.0 by.0)) by.1)))))))
    ≡ Some (Happened (Denied w c p class from to by))
denied_read number object channel name fw fc fp fn ff ft fb w c p class from to by hw hc hp hn hf ht hb = rw (hw, hc, hp, hn, hf, ht, hb) refl

filter_read : (number object : List ℕ → Option ℕ) (channel : List ℕ → Option Channel) (name : List ℕ → Option (List ℕ)) (fw fc ff fn fl fb : List ℕ)
    (w : ℕ) (c : Channel) (f : ℕ) (class : List ℕ) (len : ℕ) (by : List ℕ)
    → number fw ≡ Some w → channel fc ≡ Some c → object ff ≡ Some f → name fn ≡ Some class → number fl ≡ Some len → name fb ≡ Some by
    → and_then (next_as number (fw ∷ fc ∷ ff ∷ fn ∷ fl ∷ fb ∷ [])) (λ w. and_then (next_as channel w.1) (λ c. and_then (next_as object c.1) (λ f.
    and_then (next_as name f.1) (λ class. and_then (next_as number class.1) (λ len. and_then (next_as name len.1) (λ by.
    at_end (Happened (FilterDenied w.0 c.0 f.0 class.0 len.0 by.0)) by.1))))))
    ≡ Some (Happened (FilterDenied w c f class len by))
filter_read number object channel name fw fc ff fn fl fb w c f class len by hw hc hf hn hl hb = rw (hw, hc, hf, hn, hl, hb) refl

heading_read : (number short : List ℕ → Option ℕ) (channel : List ℕ → Option Channel) (fw fc fl fn : List ℕ) (w : ℕ) (c : Channel) (len count : ℕ)
    → number fw ≡ Some w → channel fc ≡ Some c → short fl ≡ Some len → number fn ≡ Some count
    → and_then {B = Heading} (next_as number (fw ∷ fc ∷ fl ∷ fn ∷ [])) (λ w. and_then (next_as channel w.1) (λ c. and_then (next_as short c.1) (λ len.
    and_then (next_as number len.1) (λ count. at_end (record { write = w.0; channel = c.0; len = len.0; count = count.0 }) count.1))))
    ≡ Some (record { write = w; channel = c; len = len; count = count })
heading_read number short channel fw fc fl fn w c len count hw hc hl hn = rw (hw, hc, hl, hn) refl

sent_read : (fs : List (List ℕ)) (xs : List ℕ) (h : Heading) (t : Text) (rest : List ℕ) → heading fs ≡ Some h → labelled h.len h.count xs ≡ Some (t, rest)
    → sent fs xs ≡ Some (Happened (Sent h.write h.channel t), rest)
sent_read fs xs h t rest k l =
    ap (λ o. and_then {B = Item × List ℕ} o (λ h. and_then (labelled h.len h.count xs) (λ t. Some (Happened (Sent h.write h.channel t.0), t.1)))) k
    ∙ ap (λ o. and_then {B = Item × List ℕ} o (λ t. Some (Happened (Sent h.write h.channel t.0), t.1))) l

name_field : (s : List ℕ) → IsName s → (lacks 32 s ≡ true) × (lacks 10 s ≡ true)
name_field s h = (lacks-name 32 s refl h, lacks-name 10 s refl h)

small : (n : ℕ) → n < 2 ^ 32 → n < 2 ^ 64
small n h = omega (arith, h)

runs_count : (t : Text) → IsLabelled t → length (runs_of (sets_of t)) < 2 ^ 64
runs_count t h = let k = few (sets_of t) in let e = length_sets t in let short : length t ≤ LONGEST = h.0 in omega (arith, k, e, short)
  where
    placed : (s : NumberSet) (rs : List (ℕ × NumberSet)) → length (with_place s rs) ≤ suc (length rs)
    placed s [] = omega arith
    placed s (r ∷ rs) = by (same s r.1)
      where
        by : (b : Bool) → length (cond b ((r.0 + 1, r.1) ∷ rs) ((1, s) ∷ r ∷ rs)) ≤ suc (length (r ∷ rs))
        by true = omega arith
        by false = omega arith

    few : (ss : List NumberSet) → length (runs_of ss) ≤ length ss
    few [] = omega arith
    few (s ∷ ss) = let i = few ss in let p = placed s (runs_of ss) in omega (arith, i, p)

told_back : (e : Event) → CanBeTold e → (rest : List ℕ) → item (event_text e ++ rest) ≡ Some (Happened e, rest)
told_back (Passed w p) h rest =
    item-line (codes "passed") (decimal w ∷ decimal p ∷ []) rest (refl, refl)
    (field (decimal w) _ (decimal_field w h.0) (field (decimal p) [] (decimal_field p (small p h.1)) no_field))
    ∙ ap (λ o. and_then o (λ i. Some (i, rest))) (passed_read (number LARGEST) (number LARGEST_OBJECT) (decimal w) (decimal p) w p (wide w h.0) (object p h.1))
told_back (Sent w c t) h rest =
    let rs = runs_of (sets_of t) in
    let lines = flat_map run_line rs in
    let short : length t ≤ LONGEST = h.1.0 in
    let few : length rs < 2 ^ 64 = runs_count t h.1 in
    let len : length t < 2 ^ 64 = omega (arith, short) in
    let heading = line (codes "sent" ∷ decimal w ∷ channel_name c ∷ decimal (length t) ∷ decimal (length rs) ∷ []) in
    ap item (append_assoc heading (lines ++ (bytes_of t ++ 10 ∷ [])) rest ∙ ap (λ u. heading ++ u) (append_assoc lines (bytes_of t ++ 10 ∷ []) rest ∙ ap (λ u. lines ++ u) (append_assoc (bytes_of t) (10 ∷ []) rest)))
    ∙ item-line (codes "sent") (decimal w ∷ channel_name c ∷ decimal (length t) ∷ decimal (length rs) ∷ []) (lines ++ (bytes_of t ++ 10 ∷ rest)) (refl, refl)
    (field (decimal w) _ (decimal_field w h.0) (field (channel_name c) _ (lacks-channel c) (field (decimal (length t)) _ (decimal_field (length t) len)
    (field (decimal (length rs)) [] (decimal_field (length rs) few) no_field))))
    ∙ sent_read (decimal w ∷ channel_name c ∷ decimal (length t) ∷ decimal (length rs) ∷ []) (lines ++ (bytes_of t ++ 10 ∷ rest))
    (record { write = w; channel = c; len = length t; count = length rs }) t rest
    (heading_read (number LARGEST) (number LONGEST) channel (decimal w) (channel_name c) (decimal (length t)) (decimal (length rs)) w c (length t) (length rs)
    (wide w h.0) (channel-name c) (number-decimal LONGEST (length t) short len) (wide (length rs) few))
    (labelled-text t rest h.1)
told_back (Denied w c p class from to by) h rest =
    item-line (codes "denied") (decimal w ∷ channel_name c ∷ decimal p ∷ class ∷ decimal from ∷ decimal to ∷ by ∷ []) rest (refl, refl)
    (field (decimal w) _ (decimal_field w h.0) (field (channel_name c) _ (lacks-channel c) (field (decimal p) _ (decimal_field p (small p h.1)) (field class _ (name_field class h.2)
    (field (decimal from) _ (decimal_field from h.3) (field (decimal to) _ (decimal_field to h.4) (field by [] (name_field by h.5) no_field)))))))
    ∙ ap (λ o. and_then o (λ i. Some (i, rest)))
    (denied_read (number LARGEST) (number LARGEST_OBJECT) channel name (decimal w) (channel_name c) (decimal p) class (decimal from) (decimal to) by w c p class from to by (wide w h.0) (channel-name c) (object p h.1) (name-name class h.2) (wide from h.3) (wide to h.4) (name-name by h.5))
told_back (FilterDenied w c f class len by) h rest =
    item-line (codes "filter") (decimal w ∷ channel_name c ∷ decimal f ∷ class ∷ decimal len ∷ by ∷ []) rest (refl, refl)
    (field (decimal w) _ (decimal_field w h.0) (field (channel_name c) _ (lacks-channel c) (field (decimal f) _ (decimal_field f (small f h.1)) (field class _ (name_field class h.2)
    (field (decimal len) _ (decimal_field len h.3) (field by [] (name_field by h.4) no_field))))))
    ∙ ap (λ o. and_then o (λ i. Some (i, rest)))
    (filter_read (number LARGEST) (number LARGEST_OBJECT) channel name (decimal w) (channel_name c) (decimal f) class (decimal len) by w c f class len by (wide w h.0) (channel-name c) (object f h.1) (name-name class h.2) (wide len h.3) (name-name by h.4))

pub item-item : (i : Item) → IsItem i → (rest : List ℕ) → item (item_text i ++ rest) ≡ Some (i, rest)
item-item (Request q) h rest =
    item-line (codes "request") (decimal q ∷ []) rest (refl, refl) (field (decimal q) [] (decimal_field q h) no_field)
    ∙ ap (λ o. and_then o (λ i. Some (i, rest))) (request_read (number LARGEST) (decimal q) q (wide q h))
item-item (Happened e) h rest = told_back e h rest
