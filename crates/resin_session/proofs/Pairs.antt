-- Entries are read back, and nothing else is read as one.
use Rattle.std.proofs.Common.{◌≡◌, ℕ, ℤ, ◌+◌, ◌^◌, ◌<◌, Bool, true, false, cond, List, [], ◌∷◌, ◌++◌, length, Option, Some, None, refl, sym, ap, subst, ◌∙◌, arith, append_assoc, length-append}
use Rattle.std.specs.Prelude.{nat_eq, decimal, is_none, is_some, option_map}
use Rattle.std.specs.Fmt.{signed_decimal}
use Rattle.std.specs.Cmp.Lexicographic.{pointwise}
use Rattle.resin_value.specs.Under.bytes.Canonical.{canonical_integer}
use Rattle.resin_value.specs.Under.label.Sets.{empty as no_labels}
use Rattle.resin_value.specs.Under.lstr.Texts.{Text, carrying}
use Rattle.resin_value.specs.declared.key.Key.{Key}
use Rattle.resin_value.specs.declared.key.Key.TheVariants.{Int, Text as TextKey}
use Rattle.resin_value.specs.Keys.{key_or_text, text_key}
use Rattle.resin_value.specs.Trees.{Tree, null, boolean, integer, text, array, object}
use Rattle.resin_value.specs.Arrays.{EntryList}
use Rattle.resin_value.specs.Changes.{lookup}
use Rattle.resin_session.specs.declared.entries.Kind.{Kind}
use Rattle.resin_session.specs.declared.entries.Kind.TheVariants.{Integer as IntegerKind, Text as TextKind}
use Rattle.resin_session.specs.declared.entries.Head.{Head}
use Rattle.resin_session.specs.Texts.{letter, value_text, key_text, head_text, entry_text}
use Rattle.resin_session.specs.Sessions.{IsKey, IsKept}
use Rattle.resin_session.specs.Reading.{and_then, taken, plain, byte, count, kind, value, key, heading, head, value_line, more}
use Rattle.resin_session.proofs.Basics.{text_is, from_some, some_if, chosen, bound, on}
use Rattle.resin_session.proofs.Canonical.{canonical-signed, canonical_read}
use Rattle.resin_session.proofs.Labelled.{carrying-append, length_carrying, taken-front, taken_read, plain-front, plain_read, byte-front, byte_read, count-front, count_read, number-front, number_read}

-- ---- kinds
kind_of : Tree → Kind
kind_of null = TextKind
kind_of (boolean b) = TextKind
kind_of (integer n s) = IntegerKind
kind_of (text t) = TextKind
kind_of (array r l h) = TextKind
kind_of (object n) = TextKind

abbrev letter_of : Kind → ℕ
letter_of TextKind = 115
letter_of IntegerKind = 105

kind-letter : (v : Tree) → kind (letter v ∷ []) ≡ Some (kind_of v)
unfolding kind kind_of
kind-letter null = refl
kind-letter (boolean b) = refl
kind-letter (integer n s) = refl
kind-letter (text t) = refl
kind-letter (array r l h) = refl
kind-letter (object n) = refl

kind_read : (w : List ℕ) (k : Kind) → kind w ≡ Some k → w ≡ letter_of k ∷ []
unfolding kind
kind_read w k e = by (pointwise nat_eq w (115 ∷ [])) refl e
  where
    by : (b : Bool) → pointwise nat_eq w (115 ∷ []) ≡ b → cond b (Some TextKind) (cond (pointwise nat_eq w (105 ∷ [])) (Some IntegerKind) None) ≡ Some k → w ≡ letter_of k ∷ []
    by true is f = text_is w (115 ∷ []) is ∙ ap (λ j. letter_of j ∷ []) (from_some TextKind k f)
    by false is f = let h = some_if (pointwise nat_eq w (105 ∷ [])) IntegerKind k f in text_is w (105 ∷ []) h.0 ∙ ap (λ j. letter_of j ∷ []) h.1

-- ---- values
value-front : (v : Tree) → IsKept v → value (kind_of v) (value_text v) ≡ Some v
unfolding value kind_of
value-front null h = absurd h
value-front (boolean b) h = absurd h
value-front (integer n s) h = number-front n s h
value-front (text t) h = refl
value-front (array r l h) k = absurd k
value-front (object n) h = absurd h

-- a value that was read
record ValueRead (k : Kind) (t : Text) (v : Tree) : Type 0 where
  kept : IsKept v
  told : t ≡ value_text v
  kind : letter_of k ≡ letter v

value_read : (k : Kind) (t : Text) (v : Tree) → value k t ≡ Some v → ValueRead k t v
unfolding value
value_read TextKind t v e = subst (ValueRead TextKind t) (from_some (text t) v e) (record { kept = tt; told = refl; kind = refl })
value_read IntegerKind t v e = let r = number_read t v e in subst (ValueRead IntegerKind t) r.is (record { kept = r.low; told = r.told; kind = refl })

value_line-front : (v : Tree) (rest : Text) → IsKept v → value_line (kind_of v) (length (value_text v)) (value_text v ++ (carrying no_labels (10 ∷ []) ++ rest)) ≡ Some (v, rest)
unfolding value_line
value_line-front v rest h =
    on (λ t. and_then (byte 10 t.1) (λ e. and_then (value (kind_of v) t.0) (λ u. Some (u, e.1)))) (taken-front (length (value_text v)) (value_text v) (carrying no_labels (10 ∷ []) ++ rest) refl)
    ∙ on (λ e. and_then (value (kind_of v) (value_text v)) (λ u. Some (u, e.1))) (byte-front 10 rest)
    ∙ on (λ u. Some (u, rest)) (value-front v h)

-- a value and its newline that were read
pub record LineRead (k : Kind) (n : ℕ) (xs : Text) (v : Tree) (rest : Text) : Type 0 where
  pub kept : IsKept v
  told : xs ≡ value_text v ++ (carrying no_labels (10 ∷ []) ++ rest)
  len : length (value_text v) ≡ n
  kind : letter_of k ≡ letter v

pub value_line_read : (k : Kind) (n : ℕ) (xs : Text) (v : Tree) (rest : Text) → value_line k n xs ≡ Some (v, rest) → LineRead k n xs v rest
unfolding value_line
value_line_read k n xs v rest e =
    let t = bound (taken n xs) (λ t. and_then (byte 10 t.1) (λ e. and_then (value k t.0) (λ u. Some (u, e.1)))) (v, rest) e in
    let b = bound (byte 10 t.0.1) (λ e. and_then (value k t.0.0) (λ u. Some (u, e.1))) (v, rest) t.2 in
    let u = bound (value k t.0.0) (λ u. Some (u, b.0.1)) (v, rest) b.2 in
    let p = from_some (u.0, b.0.1) (v, rest) u.2 in
    let piece = taken_read n xs t.0.0 t.0.1 t.1 in
    let r = subst (ValueRead k t.0.0) (ap (λ q. q.0) p) (value_read k t.0.0 u.0 u.1) in
    let tail : t.0.1 ≡ carrying no_labels (10 ∷ []) ++ rest = byte_read 10 t.0.1 b.0.0 b.0.1 b.1 ∙ ap (λ q. carrying no_labels (10 ∷ []) ++ q.1) p in
    record {
      kept = r.kept;
      told = piece.0 ∙ ap (λ w. w ++ t.0.1) r.told ∙ ap (λ w. value_text v ++ w) tail;
      len = ap length (sym r.told) ∙ piece.1;
      kind = r.kind;
    }

-- ---- keys
pub none_is : {X : Type 0} (o : Option X) → is_none o ≡ true → o ≡ None
none_is None h = refl
none_is (Some x) h = absurd (cc)

text_key-key : (k : Key) → IsKey k → text_key (key_text k) ≡ k
text_key-key (Int n) h = ap (λ o. key_or_text o (signed_decimal n)) (canonical-signed n h.1)
text_key-key (TextKey w) h = ap (λ o. key_or_text o w) (none_is (canonical_integer w) h.0)

key_back : (w : List ℕ) (o : Option ℤ) → canonical_integer w ≡ o → (key_text (key_or_text o w) ≡ w) × IsKey (key_or_text o w)
key_back w None e = (refl, (ap is_none e, tt))
key_back w (Some n) e = let r = canonical_read w n e in (sym r.0, (refl, r.1))

key-front : (k : Key) (rest : Text) → IsKey k → key (length (key_text k)) (carrying no_labels (key_text k) ++ rest) ≡ Some (k, rest)
unfolding key
key-front k rest h = on (λ w. Some (text_key w.0, w.1)) (plain-front (key_text k) rest) ∙ ap (λ j. Some (j, rest)) (text_key-key k h)

key_read : (n : ℕ) (xs : Text) (k : Key) (rest : Text) → key n xs ≡ Some (k, rest) → (xs ≡ carrying no_labels (key_text k) ++ rest) × (length (key_text k) ≡ n) × IsKey k
unfolding key
key_read n xs k rest e =
    let w = bound (plain n xs) (λ w. Some (text_key w.0, w.1)) (k, rest) e in
    let p = from_some (text_key w.0.0, w.0.1) (k, rest) w.2 in
    let r = plain_read n xs w.0.0 w.0.1 w.1 in
    let b = key_back w.0.0 (canonical_integer w.0.0) refl in
    let same : text_key w.0.0 ≡ k = ap (λ q. q.0) p in
    let spelled : w.0.0 ≡ key_text k = sym b.0 ∙ ap key_text same in (
      r.0 ∙ ap (λ v. carrying no_labels v ++ w.0.1) spelled ∙ ap (λ q. carrying no_labels (key_text k) ++ q.1) p,
      ap length (sym spelled) ∙ r.1,
      subst IsKey same b.1,
    )

-- ---- heads
-- the text of a head, and what is behind it
abbrev headed : ℕ → ℕ → ℕ → Text → Text
headed c m n rest = carrying no_labels (c ∷ []) ++ (carrying no_labels (32 ∷ []) ++ (carrying no_labels (decimal m ++ 32 ∷ []) ++ (carrying no_labels (decimal n ++ 10 ∷ []) ++ rest)))

head-front : (v : Tree) (m n : ℕ) (rest : Text) → m < 2 ^ 63 → n < 2 ^ 63 → head (headed (letter v) m n rest) ≡ Some (heading (kind_of v) m n, rest)
unfolding head
head-front v m n rest h l =
    let three = carrying no_labels (decimal n ++ 10 ∷ []) ++ rest in
    let two = carrying no_labels (decimal m ++ 32 ∷ []) ++ three in
    let one = carrying no_labels (32 ∷ []) ++ two in
    on (λ w. and_then (kind w.0) (λ k. and_then (byte 32 w.1) (λ b. and_then (count 32 b.1) (λ m. and_then (count 10 m.1) (λ n. Some (heading k m.0 n.0, n.1)))))) (plain-front (letter v ∷ []) one)
    ∙ on (λ k. and_then (byte 32 one) (λ b. and_then (count 32 b.1) (λ m. and_then (count 10 m.1) (λ n. Some (heading k m.0 n.0, n.1))))) (kind-letter v)
    ∙ on (λ b. and_then (count 32 b.1) (λ m. and_then (count 10 m.1) (λ n. Some (heading (kind_of v) m.0 n.0, n.1)))) (byte-front 32 two)
    ∙ on (λ m. and_then (count 10 m.1) (λ n. Some (heading (kind_of v) m.0 n.0, n.1))) (count-front 32 m three (omega arith) h)
    ∙ on (λ n. Some (heading (kind_of v) m n.0, n.1)) (count-front 10 n rest (omega arith) l)

head_read : (xs : Text) (h : Head) (rest : Text) → head xs ≡ Some (h, rest) → xs ≡ headed (letter_of h.kind) h.key_len h.value_len rest
unfolding head
head_read xs h rest e =
    let w = bound (plain 1 xs) (λ w. and_then (kind w.0) (λ k. and_then (byte 32 w.1) (λ b. and_then (count 32 b.1) (λ m. and_then (count 10 m.1) (λ n. Some (heading k m.0 n.0, n.1)))))) (h, rest) e in
    let k = bound (kind w.0.0) (λ k. and_then (byte 32 w.0.1) (λ b. and_then (count 32 b.1) (λ m. and_then (count 10 m.1) (λ n. Some (heading k m.0 n.0, n.1))))) (h, rest) w.2 in
    let b = bound (byte 32 w.0.1) (λ b. and_then (count 32 b.1) (λ m. and_then (count 10 m.1) (λ n. Some (heading k.0 m.0 n.0, n.1)))) (h, rest) k.2 in
    let m = bound (count 32 b.0.1) (λ m. and_then (count 10 m.1) (λ n. Some (heading k.0 m.0 n.0, n.1))) (h, rest) b.2 in
    let n = bound (count 10 m.0.1) (λ n. Some (heading k.0 m.0.0 n.0, n.1)) (h, rest) m.2 in
    let p = from_some (heading k.0 m.0.0 n.0.0, n.0.1) (h, rest) n.2 in
    (plain_read 1 xs w.0.0 w.0.1 w.1).0 ∙ ap (λ v. carrying no_labels v ++ w.0.1) (kind_read w.0.0 k.0 k.1)
    ∙ ap (λ t. carrying no_labels (letter_of k.0 ∷ []) ++ t) (
    byte_read 32 w.0.1 b.0.0 b.0.1 b.1
    ∙ ap (λ t. carrying no_labels (32 ∷ []) ++ t) (count_read 32 b.0.1 m.0.0 m.0.1 m.1 ∙ ap (λ t. carrying no_labels (decimal m.0.0 ++ 32 ∷ []) ++ t) (count_read 10 m.0.1 n.0.0 n.0.1 n.1))
    )
    ∙ ap (λ q. headed (letter_of q.0.kind) q.0.key_len q.0.value_len q.1) p

-- ---- entries
parts : (c : ℕ) (a b w : List ℕ) (t rest : Text)
    → (carrying no_labels (c ∷ 32 ∷ a ++ (32 ∷ b ++ 10 ∷ w)) ++ (t ++ carrying no_labels (10 ∷ []))) ++ rest
    ≡ carrying no_labels (c ∷ []) ++ (carrying no_labels (32 ∷ []) ++ (carrying no_labels (a ++ 32 ∷ []) ++ (carrying no_labels (b ++ 10 ∷ []) ++ (carrying no_labels w ++ (t ++ (carrying no_labels (10 ∷ []) ++ rest))))))
parts c a b w t rest =
    let end = carrying no_labels (10 ∷ []) in
    let one = carrying no_labels (a ++ 32 ∷ []) in
    let two = carrying no_labels (b ++ 10 ∷ []) in
    let three = carrying no_labels w in
    let split : a ++ 32 ∷ (b ++ 10 ∷ w) ≡ (a ++ 32 ∷ []) ++ ((b ++ 10 ∷ []) ++ w) =
    sym (append_assoc a (32 ∷ []) (b ++ 10 ∷ w)) ∙ ap (λ v. (a ++ 32 ∷ []) ++ v) (sym (append_assoc b (10 ∷ []) w)) in
    let labelled : carrying no_labels (a ++ 32 ∷ (b ++ 10 ∷ w)) ≡ one ++ (two ++ three) =
    ap (carrying no_labels) split ∙ carrying-append no_labels (a ++ 32 ∷ []) ((b ++ 10 ∷ []) ++ w) ∙ ap (λ v. one ++ v) (carrying-append no_labels (b ++ 10 ∷ []) w) in
    let joined : (carrying no_labels (a ++ 32 ∷ (b ++ 10 ∷ w)) ++ (t ++ end)) ++ rest ≡ one ++ (two ++ (three ++ (t ++ (end ++ rest)))) =
    ap (λ v. (v ++ (t ++ end)) ++ rest) labelled
    ∙ append_assoc (one ++ (two ++ three)) (t ++ end) rest
    ∙ append_assoc one (two ++ three) ((t ++ end) ++ rest)
    ∙ ap (λ v. one ++ v) (append_assoc two three ((t ++ end) ++ rest) ∙ ap (λ v. two ++ (three ++ v)) (append_assoc t end rest)) in
    ap (λ v. (c, no_labels) ∷ (32, no_labels) ∷ v) joined

entry_parts : (k : Key) (v : Tree) (rest : Text)
    → entry_text (k, v) ++ rest ≡ headed (letter v) (length (key_text k)) (length (value_text v)) (carrying no_labels (key_text k) ++ (value_text v ++ (carrying no_labels (10 ∷ []) ++ rest)))
entry_parts k v rest = parts (letter v) (decimal (length (key_text k))) (decimal (length (value_text v))) (key_text k) (value_text v) rest

pub entry_long : (k : Key) (v : Tree) → length (key_text k) + length (value_text v) < length (entry_text (k, v))
entry_long k v =
    let a = decimal (length (key_text k)) in
    let b = decimal (length (value_text v)) in
    let w = key_text k in
    let t = value_text v in
    let i = length-append (carrying no_labels (head_text (letter v) w (length t))) (t ++ carrying no_labels (10 ∷ [])) in
    let j = length-append t (carrying no_labels (10 ∷ [])) in
    let l = length_carrying no_labels (head_text (letter v) w (length t)) in
    let m = length-append a (32 ∷ b ++ 10 ∷ w) in
    let n = length-append b (10 ∷ w) in
    omega (arith, i, j, l, m, n)

pub more-front : (es : EntryList) (k : Key) (v : Tree) (rest : Text) → IsKey k → IsKept v → lookup k es ≡ None → length (key_text k) < 2 ^ 63 → length (value_text v) < 2 ^ 63
    → more es (entry_text (k, v) ++ rest) ≡ Some (es ++ (k, v) ∷ [], rest)
unfolding more
more-front es k v rest key_is kept fresh low short =
    let two = value_text v ++ (carrying no_labels (10 ∷ []) ++ rest) in
    let one = carrying no_labels (key_text k) ++ two in
    ap (more es) (entry_parts k v rest)
    ∙ on (λ h. and_then (key h.0.key_len h.1) (λ k. cond (is_none (lookup k.0 es)) (and_then (value_line h.0.kind h.0.value_len k.1) (λ v. Some (es ++ (k.0, v.0) ∷ [], v.1))) None))
    (head-front v (length (key_text k)) (length (value_text v)) one low short)
    ∙ on (λ k. cond (is_none (lookup k.0 es)) (and_then (value_line (kind_of v) (length (value_text v)) k.1) (λ v. Some (es ++ (k.0, v.0) ∷ [], v.1))) None) (key-front k two key_is)
    ∙ ap (λ o. cond (is_none o) (and_then (value_line (kind_of v) (length (value_text v)) two) (λ v. Some (es ++ (k, v.0) ∷ [], v.1))) None) fresh
    ∙ on (λ v. Some (es ++ (k, v.0) ∷ [], v.1)) (value_line-front v rest kept)

-- what an array without the key gives
pub absent : {X Y : Type 0} (o : Option X) (f : X → Y) (l : Option Y) → is_some o ≡ false → option_map f o ≡ l → l ≡ None
absent None f l h e = sym e
absent (Some x) f l h e = absurd (cc)

-- an entry that was read
pub record MoreRead (es : EntryList) (xs : Text) (fs : EntryList) (rest : Text) : Type 0 where
  pub k : Key
  pub v : Tree
  pub told : xs ≡ entry_text (k, v) ++ rest
  pub becomes : es ++ (k, v) ∷ [] ≡ fs
  pub key_is : IsKey k
  pub kept : IsKept v
  pub fresh : lookup k es ≡ None

pub more_read : (es : EntryList) (xs : Text) (fs : EntryList) (rest : Text) → more es xs ≡ Some (fs, rest) → MoreRead es xs fs rest
unfolding more
more_read es xs fs rest e =
    let h = bound (head xs) (λ h. and_then (key h.0.key_len h.1) (λ k. cond (is_none (lookup k.0 es)) (and_then (value_line h.0.kind h.0.value_len k.1) (λ v. Some (es ++ (k.0, v.0) ∷ [], v.1))) None)) (fs, rest) e in
    let k = bound (key h.0.0.key_len h.0.1) (λ k. cond (is_none (lookup k.0 es)) (and_then (value_line h.0.0.kind h.0.0.value_len k.1) (λ v. Some (es ++ (k.0, v.0) ∷ [], v.1))) None) (fs, rest) h.2 in
    let c = chosen (is_none (lookup k.0.0 es)) (and_then (value_line h.0.0.kind h.0.0.value_len k.0.1) (λ v. Some (es ++ (k.0.0, v.0) ∷ [], v.1))) (fs, rest) k.2 in
    let v = bound (value_line h.0.0.kind h.0.0.value_len k.0.1) (λ v. Some (es ++ (k.0.0, v.0) ∷ [], v.1)) (fs, rest) c.1 in
    let p = from_some (es ++ (k.0.0, v.0.0) ∷ [], v.0.1) (fs, rest) v.2 in
    let l = value_line_read h.0.0.kind h.0.0.value_len k.0.1 v.0.0 v.0.1 v.1 in
    let r = key_read h.0.0.key_len h.0.1 k.0.0 k.0.1 k.1 in
    record {
      k = k.0.0;
      v = v.0.0;
      told = head_read xs h.0.0 h.0.1 h.1
          ∙ ap (λ t. headed (letter_of h.0.0.kind) h.0.0.key_len h.0.0.value_len t) (r.0 ∙ ap (λ t. carrying no_labels (key_text k.0.0) ++ t) l.told)
          ∙ (λ i. headed (l.kind i) (sym r.1 i) (sym l.len i) (carrying no_labels (key_text k.0.0) ++ (value_text v.0.0 ++ (carrying no_labels (10 ∷ []) ++ v.0.1))))
          ∙ sym (entry_parts k.0.0 v.0.0 v.0.1)
          ∙ ap (λ q. entry_text (k.0.0, v.0.0) ++ q.1) p;
      becomes = ap (λ q. q.0) p;
      key_is = r.2;
      kept = l.kept;
      fresh = none_is (lookup k.0.0 es) c.0;
    }
