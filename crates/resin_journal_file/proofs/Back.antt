-- What is read from the front of a text is what a file can tell, and its text stands there.
use Rattle.std.proofs.Common.{◌≡◌, ℕ, zero, suc, ◌+◌, ◌^◌, ◌<◌, ◌≤◌, Bool, true, false, cond, List, [], ◌∷◌, ◌++◌, length, take, drop, get_or, map, Option, Some, None, decimal, codes, refl, sym, ap, subst, ◌∙◌, arith, append_assoc, length-append}
use Rattle.std.specs.Prelude.{◌&&◌, not, nat_eq, nat_lt, replicate}
use Rattle.std.specs.List.{flat_map, join_with_byte, position_or_len, before_first, after_first, zip, list_all}
use Rattle.std.proofs.lemmas.Bool.Decides.{nat_tests}
use Rattle.std.proofs.lemmas.List.{length-replicate, length-take-le}
use Rattle.std.proofs.lemmas.List.Splits.{join_with_byte-slice_split}
use Rattle.std.proofs.lemmas.List.Sums.{split_at_first, passes_at_first}
use Rattle.std.proofs.Math.Seq.{split_at}
use Rattle.resin_label.specs.Sets.{NumberSet, numbers, same, IsRising}
use Rattle.resin_label.specs.Kept.{of_rising}
use Rattle.resin_label.proofs.Members.{numbers-of_rising}
use Rattle.resin_lstr.specs.declared.limits.TheConstants.{LONGEST}
use Rattle.resin_lstr.specs.Texts.{Text, bytes_of, sets_of}
use Rattle.resin_scan.specs.Bytes.{begins_name, is_name_byte}
use Rattle.resin_scan.specs.Words.{IsName}
use Rattle.resin_journal.specs.declared.channel.Channel.{Channel}
use Rattle.resin_journal.specs.declared.channel.Channel.TheVariants.{Http, Header, Email, File, Sql, Code, Input, Func}
use Rattle.resin_journal.specs.Channels.{channel_name}
use Rattle.resin_journal_file.specs.Files.{line, runs_of, run_line}
use Rattle.resin_journal_file.specs.Limits.{Each, IsObject, IsLabelled}
use Rattle.resin_journal_file.specs.Reading.{and_then, is_text, cut, fields_of, number, LARGEST_OBJECT, objects, is_rising, run_of, RunRead, runs, total, differs, is_coalesced, sets, bytes, labelled, name, channel}
use Rattle.resin_journal_file.proofs.Decimals.{and_left, and_right, number_read, text_is}
use Rattle.resin_journal_file.proofs.Fields.{every_from}
use Rattle.resin_journal_file.proofs.Items.{length_bytes}
use Rattle.resin_journal_file.proofs.Lengths.{one_run}
use Rattle.resin_journal_file.proofs.Once.{from_some, none_some, each-append}

-- a value that was read behind another
pub bound : {A B : Type 0} (o : Option A) (f : A → Option B) (r : B) → and_then o f ≡ Some r → (a : A) × (o ≡ Some a) × (f a ≡ Some r)
bound None f r e = absurd (none_some r e)
bound (Some a) f r e = (a, refl, e)

pub some_if : {A : Type 0} (b : Bool) (a r : A) → cond b (Some a) None ≡ Some r → (b ≡ true) × (a ≡ r)
some_if true a r e = (refl, from_some a r e)
some_if false a r e = absurd (none_some r e)

-- a choice that gives a value
pub chosen : {A : Type 0} (b : Bool) (o : Option A) (r : A) → cond b o None ≡ Some r → (b ≡ true) × (o ≡ Some r)
chosen true o r e = (refl, e)
chosen false o r e = absurd (none_some r e)

pub cut_read : (c : ℕ) (xs l rest : List ℕ) → cut c xs ≡ Some (l, rest) → xs ≡ l ++ c ∷ rest
cut_read c xs l rest e =
    let p : ℕ → Bool = λ b. nat_eq b c in
    let h = some_if (nat_lt (position_or_len p xs) (length xs)) (before_first p xs, after_first p xs) (l, rest) e in
    let lt : position_or_len p xs < length xs = let t : nat_lt (position_or_len p xs) (length xs) ≡ true = h.0 in grind (arith, nat_tests) in
    let at : get_or xs (position_or_len p xs) 0 ≡ c = let t : nat_eq (get_or xs (position_or_len p xs) 0) c ≡ true = passes_at_first p xs 0 lt in grind (arith, nat_tests) in
    split_at_first p xs 0 lt
    ∙ ap (λ b. before_first p xs ++ b ∷ after_first p xs) at
    ∙ ap (λ q. q.0 ++ c ∷ q.1) h.1

pub line_read : (xs l rest : List ℕ) → cut 10 xs ≡ Some (l, rest) → xs ≡ line (fields_of l) ++ rest
line_read xs l rest e =
    cut_read 10 xs l rest e
    ∙ ap (λ t. t ++ 10 ∷ rest) (sym (join_with_byte-slice_split 32 l))
    ∙ sym (append_assoc (join_with_byte 32 (fields_of l)) (10 ∷ []) rest)

pub name_read : (s r : List ℕ) → name s ≡ Some r → (s ≡ r) × IsName r
name_read [] r e = absurd (none_some r e)
name_read (b ∷ bs) r e =
    let h = some_if (begins_name b && list_all is_name_byte bs) (b ∷ bs) r e in
    (h.1, subst IsName h.1 (and_left (begins_name b) (list_all is_name_byte bs) h.0, every_from is_name_byte bs (and_right (begins_name b) (list_all is_name_byte bs) h.0)))

one_channel : (s w : List ℕ) (d c : Channel) (more : Option Channel) (b : Bool) → is_text s w ≡ b → w ≡ channel_name d → (more ≡ Some c → s ≡ channel_name c)
    → cond b (Some d) more ≡ Some c → s ≡ channel_name c
one_channel s w d c more true t is_w rest e = let same : d ≡ c = from_some d c e in text_is s w t ∙ is_w ∙ ap channel_name same
one_channel s w d c more false t is_w rest e = rest e

none_channel : (s : List ℕ) (c : Channel) → None ≡ Some c → s ≡ channel_name c
none_channel s c e = absurd (none_some c e)

pub channel_read : (s : List ℕ) (c : Channel) → channel s ≡ Some c → s ≡ channel_name c
channel_read s c =
    one_channel s (codes "http") Http c _ _ refl refl (one_channel s (codes "header") Header c _ _ refl refl (one_channel s (codes "email") Email c _ _ refl refl
    (one_channel s (codes "file") File c _ _ refl refl (one_channel s (codes "sql") Sql c _ _ refl refl (one_channel s (codes "code") Code c _ _ refl refl
    (one_channel s (codes "input") Input c _ _ refl refl (one_channel s (codes "func") Func c _ _ refl refl (none_channel s c))))))))

objects_read : (fs : List (List ℕ)) (ns : List ℕ) → objects fs ≡ Some ns → (fs ≡ map decimal ns) × Each IsObject ns
objects_read [] ns e = let q : [] ≡ ns = from_some [] ns e in (ap (map decimal) q, subst (Each IsObject) q tt)
objects_read (f ∷ fs) ns e =
    let a = bound (number LARGEST_OBJECT f) (λ n. and_then (objects fs) (λ ms. Some (n ∷ ms))) ns e in
    let b = bound (objects fs) (λ ms. Some (a.0 ∷ ms)) ns a.2 in
    let n = number_read LARGEST_OBJECT a.0 f a.1 in
    let ms = objects_read fs b.0 b.1 in
    let low : a.0 < 2 ^ 32 = let le : a.0 ≤ LARGEST_OBJECT = n.1 in omega arith in
    let whole : a.0 ∷ b.0 ≡ ns = from_some (a.0 ∷ b.0) ns b.2 in
    (ap (λ g. g ∷ fs) n.0 ∙ ap (λ gs. decimal a.0 ∷ gs) ms.0 ∙ ap (map decimal) whole, subst (Each IsObject) whole (low, ms.1))

-- ---- runs

-- a run that was read, as a run of a text
abbrev pub kept : RunRead → ℕ × NumberSet
kept r = (r.0, of_rising r.1)

-- what a line of a run can tell
abbrev pub IsLine : RunRead → Type 0
IsLine r = (r.0 ≤ LONGEST) × Each IsObject r.1 × IsRising r.1

rising_from : (ns : List ℕ) → is_rising ns ≡ true → IsRising ns
rising_from [] h = tt
rising_from (n ∷ []) h = (tt, tt)
rising_from (n ∷ m ∷ ms) h =
    (let t : nat_lt n m ≡ true = and_left (nat_lt n m) (is_rising (m ∷ ms)) h in let lt : n < m = grind (arith, nat_tests) in lt, rising_from (m ∷ ms) (and_right (nat_lt n m) (is_rising (m ∷ ms)) h))

run_read : (fs : List (List ℕ)) (r : RunRead) → run_of fs ≡ Some r → (fs ≡ decimal r.0 ∷ map decimal r.1) × IsLine r
run_read [] r e = absurd (none_some r e)
run_read (f ∷ fs) r e =
    let a = bound (number LONGEST f) (λ len. and_then (objects fs) (λ ps. cond (is_rising ps) (Some (len, ps)) None)) r e in
    let b = bound (objects fs) (λ ps. cond (is_rising ps) (Some (a.0, ps)) None) r a.2 in
    let h = some_if (is_rising b.0) (a.0, b.0) r b.2 in
    let n = number_read LONGEST a.0 f a.1 in
    let ms = objects_read fs b.0 b.1 in
    subst (λ (q : RunRead). (f ∷ fs ≡ decimal q.0 ∷ map decimal q.1) × IsLine q) h.1
    (ap (λ g. g ∷ fs) n.0 ∙ ap (λ gs. decimal a.0 ∷ gs) ms.0, (n.1, ms.1, rising_from b.0 h.0))

kept_line : (r : RunRead) → IsLine r → run_line (kept r) ≡ line (decimal r.0 ∷ map decimal r.1)
kept_line r h = ap (λ ns. line (decimal r.0 ∷ map decimal ns)) (numbers-of_rising r.1 h.2)

pub record ReadRuns (n : ℕ) (xs : List ℕ) (rs : List RunRead) (rest : List ℕ) : Type 0 where
  pub count : n ≡ length rs
  pub text : xs ≡ flat_map run_line (map kept rs) ++ rest
  pub lines : Each IsLine rs

pub runs_read : (n : ℕ) (xs : List ℕ) (rs : List RunRead) (rest : List ℕ) → runs n xs ≡ Some (rs, rest) → ReadRuns n xs rs rest
runs_read zero xs rs rest e =
    let pair = from_some {A = List RunRead × List ℕ} ([], xs) (rs, rest) e in
    let none : [] ≡ rs = ap (λ p. p.0) pair in
    let same : xs ≡ rest = ap (λ p. p.1) pair in
    record { count = ap length none; text = same ∙ ap (λ qs. flat_map run_line (map kept qs) ++ rest) none; lines = subst (Each IsLine) none tt }
runs_read (suc n) xs rs rest e =
    let l = bound (cut 10 xs) (λ l. and_then (run_of (fields_of l.0)) (λ run. and_then (runs n l.1) (λ more. Some (run ∷ more.0, more.1)))) (rs, rest) e in
    let r = bound (run_of (fields_of l.0.0)) (λ run. and_then (runs n l.0.1) (λ more. Some (run ∷ more.0, more.1))) (rs, rest) l.2 in
    let m = bound (runs n l.0.1) (λ more. Some (r.0 ∷ more.0, more.1)) (rs, rest) r.2 in
    let first = run_read (fields_of l.0.0) r.0 r.1 in
    let others = runs_read n l.0.1 m.0.0 m.0.1 m.1 in
    let pair = from_some {A = List RunRead × List ℕ} (r.0 ∷ m.0.0, m.0.1) (rs, rest) m.2 in
    let all : r.0 ∷ m.0.0 ≡ rs = ap (λ p. p.0) pair in
    let end : m.0.1 ≡ rest = ap (λ p. p.1) pair in
    record {
      count = ap suc others.count ∙ ap length all;
      text = line_read xs l.0.0 l.0.1 l.1
          ∙ ap (λ fs. line fs ++ l.0.1) first.0
          ∙ ap (λ t. t ++ l.0.1) (sym (kept_line r.0 first.1))
          ∙ ap (λ t. run_line (kept r.0) ++ t) others.text
          ∙ sym (append_assoc (run_line (kept r.0)) (flat_map run_line (map kept m.0.0)) m.0.1)
          ∙ ap (λ qs. flat_map run_line (map kept qs) ++ m.0.1) all
          ∙ ap (λ t. flat_map run_line (map kept rs) ++ t) end;
      lines = subst (Each IsLine) all (first.1, others.lines);
    }

other_set : (r q : RunRead) → IsLine r → IsLine q → not (is_text r.1 q.1) ≡ true → same (of_rising r.1) (of_rising q.1) ≡ false
other_set r q h k e =
    ap (λ ns. is_text ns (numbers (of_rising q.1))) (numbers-of_rising r.1 h.2)
    ∙ ap (λ ns. is_text r.1 ns) (numbers-of_rising q.1 k.2)
    ∙ false_from (is_text r.1 q.1) e
  where
    false_from : (b : Bool) → not b ≡ true → b ≡ false
    false_from true t = absurd (let c : false ≡ true = t in cc)
    false_from false t = refl

above : (n : ℕ) → nat_lt 0 n ≡ true → 0 < n
above n t = grind (arith, nat_tests)

-- the runs are those of the sets that they spell
runs_back : (before : Option (List ℕ)) (rs : List RunRead) → Each IsLine rs → is_coalesced before rs ≡ true → runs_of (sets rs) ≡ map kept rs
runs_back before [] h e = refl
runs_back before (r ∷ []) h e =
    one_run r.0 (of_rising r.1) [] [] (above r.0 (and_left (nat_lt 0 r.0) (differs before r.1) (and_left (nat_lt 0 r.0 && differs before r.1) true e))) refl tt
runs_back before (r ∷ q ∷ rs) h e =
    let here = nat_lt 0 r.0 && differs before r.1 in
    let next = nat_lt 0 q.0 && not (is_text r.1 q.1) in
    let others = and_right here (is_coalesced (Some r.1) (q ∷ rs)) e in
    one_run r.0 (of_rising r.1) (sets (q ∷ rs)) (map kept (q ∷ rs)) (above r.0 (and_left (nat_lt 0 r.0) (differs before r.1) (and_left here (is_coalesced (Some r.1) (q ∷ rs)) e)))
    (runs_back (Some r.1) (q ∷ rs) h.1 others)
    (other_set r q h.0 h.1.0 (and_right (nat_lt 0 q.0) (not (is_text r.1 q.1)) (and_left next (is_coalesced (Some q.1) rs) others)))

-- ---- the text behind the runs
pub length_total : (rs : List RunRead) → length (sets rs) ≡ total rs
length_total [] = refl
length_total (r ∷ rs) =
    length-append (replicate r.0 (of_rising r.1)) (sets rs) ∙ ap (λ n. n + length (sets rs)) (length-replicate r.0 (of_rising r.1)) ∙ ap (λ n. r.0 + n) (length_total rs)

each-replicate : {X : Type 0} (P : X → Type 0) (n : ℕ) (x : X) → P x → Each P (replicate n x)
each-replicate P zero x h = tt
each-replicate P (suc n) x h = (h, each-replicate P n x h)

carried : (rs : List RunRead) → Each IsLine rs → Each (λ s. Each IsObject (numbers s)) (sets rs)
carried [] h = tt
carried (r ∷ rs) h =
    each-append _ (replicate r.0 (of_rising r.1)) (sets rs)
    (each-replicate _ r.0 (of_rising r.1) (subst (Each IsObject) (sym (numbers-of_rising r.1 h.0.2)) h.0.1))
    (carried rs h.1)

bytes_zipped : (bs : List ℕ) (ss : List NumberSet) → length bs ≡ length ss → bytes_of (zip bs ss) ≡ bs
bytes_zipped [] ss e = refl
bytes_zipped (b ∷ bs) [] e = absurd (omega (arith, e))
bytes_zipped (b ∷ bs) (s ∷ ss) e = ap (λ cs. b ∷ cs) (bytes_zipped bs ss (omega (arith, e)))

pub sets_zipped : (bs : List ℕ) (ss : List NumberSet) → length bs ≡ length ss → sets_of (zip bs ss) ≡ ss
sets_zipped [] [] e = refl
sets_zipped [] (s ∷ ss) e = absurd (omega (arith, e))
sets_zipped (b ∷ bs) [] e = absurd (omega (arith, e))
sets_zipped (b ∷ bs) (s ∷ ss) e = ap (λ ts. s ∷ ts) (sets_zipped bs ss (omega (arith, e)))

-- ---- bytes and a newline
pub bytes_read : (len : ℕ) (xs bs rest : List ℕ) → bytes len xs ≡ Some (bs, rest) → (xs ≡ bs ++ 10 ∷ rest) × (length bs ≡ len)
bytes_read len xs bs rest e =
    let h = some_if {A = List ℕ × List ℕ} (nat_lt len (length xs) && nat_eq (get_or xs len 0) 10) (take len xs, drop (len + 1) xs) (bs, rest) e in
    let t : nat_lt len (length xs) ≡ true = and_left (nat_lt len (length xs)) (nat_eq (get_or xs len 0) 10) h.0 in
    let lt : len < length xs = grind (arith, nat_tests) in
    let u : nat_eq (get_or xs len 0) 10 ≡ true = and_right (nat_lt len (length xs)) (nat_eq (get_or xs len 0) 10) h.0 in
    let at : get_or xs len 0 ≡ 10 = grind (arith, nat_tests) in
    let next : suc len ≡ len + 1 = omega arith in
    let back : drop (suc len) xs ≡ rest = ap (λ n. drop n xs) next ∙ ap (λ p. p.1) h.1 in (
      split_at xs len 0 lt ∙ ap (λ b. take len xs ++ b ∷ drop (suc len) xs) at ∙ ap (λ r. take len xs ++ 10 ∷ r) back ∙ ap (λ t. t ++ 10 ∷ rest) (ap (λ p. p.0) h.1),
      ap length (sym (ap (λ p. p.0) h.1)) ∙ length-take-le len xs (omega (arith, lt)),
    )

-- ---- a text and its runs
pub record ReadText (len count : ℕ) (xs : List ℕ) (t : Text) (rest : List ℕ) : Type 0 where
  pub told : IsLabelled t
  pub length_is : len ≡ length t
  pub count_is : count ≡ length (runs_of (sets_of t))
  pub text_is : xs ≡ flat_map run_line (runs_of (sets_of t)) ++ (bytes_of t ++ 10 ∷ rest)

length_map : {X Y : Type 0} (f : X → Y) (xs : List X) → length (map f xs) ≡ length xs
length_map f [] = refl
length_map f (x ∷ xs) = ap suc (length_map f xs)

pub labelled_read : (len count : ℕ) (xs : List ℕ) (t : Text) (rest : List ℕ) → len ≤ LONGEST → labelled len count xs ≡ Some (t, rest) → ReadText len count xs t rest
labelled_read len count xs t rest short e =
    let a = bound {B = Text × List ℕ} (runs count xs)
    (λ rs. cond (is_coalesced None rs.0 && nat_eq (total rs.0) len) (and_then (bytes len rs.1) (λ bs. Some (zip bs.0 (sets rs.0), bs.1))) None) (t, rest) e in
    let rs = a.0.0 in
    let c = chosen {A = Text × List ℕ} (is_coalesced None rs && nat_eq (total rs) len) (and_then (bytes len a.0.1) (λ bs. Some (zip bs.0 (sets rs), bs.1))) (t, rest) a.2 in
    let b = bound {B = Text × List ℕ} (bytes len a.0.1) (λ bs. Some (zip bs.0 (sets rs), bs.1)) (t, rest) c.1 in
    let lines = runs_read count xs rs a.0.1 a.1 in
    let tail = bytes_read len a.0.1 b.0.0 b.0.1 b.1 in
    let pair = from_some {A = Text × List ℕ} (zip b.0.0 (sets rs), b.0.1) (t, rest) b.2 in
    let u : nat_eq (total rs) len ≡ true = and_right (is_coalesced None rs) (nat_eq (total rs) len) c.0 in
    let sum : total rs ≡ len = grind (arith, nat_tests) in
    let as_long : length b.0.0 ≡ length (sets rs) = tail.1 ∙ sym (length_total rs ∙ sum) in
    let bytes_are : bytes_of t ≡ b.0.0 = ap bytes_of (sym (ap (λ p. p.0) pair)) ∙ bytes_zipped b.0.0 (sets rs) as_long in
    let sets_are : sets_of t ≡ sets rs = ap sets_of (sym (ap (λ p. p.0) pair)) ∙ sets_zipped b.0.0 (sets rs) as_long in
    let runs_are : runs_of (sets_of t) ≡ map kept rs = ap runs_of sets_are ∙ runs_back None rs lines.lines (and_left (is_coalesced None rs) (nat_eq (total rs) len) c.0) in
    let long : length t ≡ len = sym (length_bytes t) ∙ ap length bytes_are ∙ tail.1 in
    record {
      told = (subst (λ n. n ≤ LONGEST) (sym long) short, subst (Each (λ s. Each IsObject (numbers s))) (sym sets_are) (carried rs lines.lines));
      length_is = sym long;
      count_is = lines.count ∙ sym (ap length runs_are ∙ length_map kept rs);
      text_is = lines.text ∙ ap (λ qs. flat_map run_line qs ++ a.0.1) (sym runs_are)
          ∙ ap (λ ys. flat_map run_line (runs_of (sets_of t)) ++ ys) (tail.0 ∙ ap (λ bs. bs ++ 10 ∷ b.0.1) (sym bytes_are) ∙ ap (λ r. bytes_of t ++ 10 ∷ r) (ap (λ p. p.1) pair));
    }
