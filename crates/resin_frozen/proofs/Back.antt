-- What is read from the front of bytes is what a text keeps, and its text stands there.
use Rattle.std.proofs.Common.{◌≡◌, ◌⊎◌, inl, inr, ℕ, zero, suc, ◌^◌, ◌<◌, ◌≤◌, true, false, cond, List, [], ◌∷◌, ◌++◌, length, Option, Some, None, decimal, codes, refl, sym, ap, subst, ◌∙◌, arith, append_assoc}
use Rattle.std.specs.Prelude.{◌&&◌, nat_le, is_none}
use Rattle.std.specs.List.{list_all}
use Rattle.std.proofs.lemmas.Bool.Decides.{nat_tests}
use Rattle.resin_value.specs.Under.label.Sets.{NumberSet, empty as no_labels}
use Rattle.resin_value.specs.Under.lstr.declared.limits.TheConstants.{LONGEST}
use Rattle.resin_value.specs.Under.lstr.Texts.{bytes_of, carrying}
use Rattle.resin_value.specs.declared.key.Key.{Key}
use Rattle.resin_value.specs.Trees.{Tree, Row, null, boolean, integer, text, no_entry, entry}
use Rattle.resin_value.specs.Arrays.{EntryList, Array, row_of, entries_of, entries_of-row_of}
use Rattle.resin_value.specs.Changes.{lookup, put, empty, IsApart}
use Rattle.resin_frozen.specs.declared.keys.Keys.{Keys}
use Rattle.resin_frozen.specs.declared.keys.Keys.TheVariants.{Lawful, Names}
use Rattle.resin_frozen.specs.Texts as texts
use Rattle.resin_frozen.specs.Texts.{value_text, pairs_text, key_text, policy_text}
use Rattle.resin_frozen.specs.Policies.{ROOM, IsWhole, AreWhole, IsWholeKey, IsCount, IsPolicy, is_name, is_field_key, kept, filled, tree_of_array, kept_pairs}
use Rattle.resin_frozen.specs.Reading.{Read, Policy, and_then, is_text, taken, literal, natural, quoted, bytes_behind, integer_behind, boolean_behind, plain_text, text_behind, key, is_fit, pair, pairs, braced, array_behind, scalar_behind, value_with, value, class, policy}
use Rattle.resin_frozen.proofs.Numbers.{Gives, and_left, and_right, from_some, none_some, some_if, chosen}
use Rattle.resin_frozen.proofs.Parts.{bound, by_kind, taken_read, literal_read, natural_read, quoted_read, integer_read, bytes_read, key_read}
use Rattle.resin_frozen.proofs.Written.{policy_parts}
use Rattle.resin_frozen.proofs.Pairs.{Fresh, AreFit, apart_from, filled_entries, lawful_fit, names_fit, row_of-entries_of}

-- a value that was read: its text stands there, and a text keeps all of it
pub record IsTold (room : ℕ) (xs : List ℕ) (t : Tree) (rest : List ℕ) : Type 0 where
  pub told : xs ≡ value_text t ++ rest
  pub whole : IsWhole room t
  pub same : kept t ≡ t

abbrev pub Tells : Read Tree → ℕ → Type 0
Tells V room = (xs : List ℕ) (t : Tree) (rest : List ℕ) → V xs ≡ Some (t, rest) → IsTold room xs t rest

-- ---- pairs
pub record PairRead (room : ℕ) (keys : Keys) (a : Array) (xs : List ℕ) (b : Array) (rest : List ℕ) : Type 0 where
  pub k : Key
  pub t : Tree
  pub told : xs ≡ key_text k ++ (value_text t ++ rest)
  pub fit : is_fit keys k ≡ true
  pub whole_key : IsWholeKey k
  pub whole : IsWhole room t
  pub same : kept t ≡ t
  pub new : lookup k a.entries ≡ None
  pub becomes : b ≡ put k t a

is_nothing : (o : Option Tree) → is_none o ≡ true → o ≡ None
is_nothing None h = refl
is_nothing (Some t) h = absurd (cc)

pair_read : (V : Read Tree) (room : ℕ) → Tells V room → (keys : Keys) (a : Array) (xs : List ℕ) (b : Array) (rest : List ℕ) → pair V keys a xs ≡ Some (b, rest) → PairRead room keys a xs b rest
unfolding pair
pair_read V room H keys a xs b rest e =
    let k = bound (key keys xs) (λ k. cond (is_none (lookup k.0 a.entries)) (and_then (V k.1) (λ t. Some (put k.0 t.0 a, t.1))) None) (b, rest) e in
    let n = chosen (is_none (lookup k.0.0 a.entries)) (and_then (V k.0.1) (λ t. Some (put k.0.0 t.0 a, t.1))) (b, rest) k.2 in
    let t = bound (V k.0.1) (λ t. Some (put k.0.0 t.0 a, t.1)) (b, rest) n.1 in
    let p = from_some (put k.0.0 t.0.0 a, t.0.1) (b, rest) t.2 in
    let key_is = key_read keys xs k.0.0 k.0.1 k.1 in
    let value_is = H k.0.1 t.0.0 t.0.1 t.1 in
    record {
      k = k.0.0;
      t = t.0.0;
      told = key_is.0 ∙ ap (λ u. key_text k.0.0 ++ u) (value_is.told ∙ ap (λ q. value_text t.0.0 ++ q.1) p);
      fit = key_is.2;
      whole_key = key_is.1;
      whole = value_is.whole;
      same = value_is.same;
      new = is_nothing (lookup k.0.0 a.entries) n.0;
      becomes = sym (ap (λ q. q.0) p);
    }

pub record PairsRead (room : ℕ) (keys : Keys) (n : ℕ) (a : Array) (xs : List ℕ) (b : Array) (rest : List ℕ) : Type 0 where
  pub row : Row
  pub count : length (entries_of row) ≡ n
  pub told : xs ≡ pairs_text row ++ rest
  pub fit : AreFit keys row
  pub whole : AreWhole room row
  pub same : kept_pairs (entries_of row) ≡ entries_of row
  pub fresh : Fresh a row
  pub becomes : b ≡ filled a row

pairs_read : (V : Read Tree) (room : ℕ) → Tells V room → (keys : Keys) (n : ℕ) (a : Array) (xs : List ℕ) (b : Array) (rest : List ℕ) → pairs V keys n a xs ≡ Some (b, rest) → PairsRead room keys n a xs b rest
pairs_read V room H keys zero a xs b rest e =
    let p = from_some (a, xs) (b, rest) e in
    record { row = no_entry; count = refl; told = ap (λ q. q.1) p; fit = tt; whole = tt; same = refl; fresh = tt; becomes = sym (ap (λ q. q.0) p) }
pairs_read V room H keys (suc n) a xs b rest e =
    let f = bound (pair V keys a xs) (λ p. pairs V keys n p.0 p.1) (b, rest) e in
    let h = pair_read V room H keys a xs f.0.0 f.0.1 f.1 in
    let r = pairs_read V room H keys n f.0.0 f.0.1 b rest f.2 in
    let put_is : f.0.0 ≡ put h.k (kept h.t) a = h.becomes ∙ ap (λ u. put h.k u a) (sym h.same) in
    record {
      row = entry h.k h.t r.row;
      count = ap suc r.count;
      told = h.told ∙ ap (λ u. key_text h.k ++ (value_text h.t ++ u)) r.told
          ∙ sym (append_assoc (key_text h.k) (value_text h.t ++ pairs_text r.row) rest ∙ ap (λ u. key_text h.k ++ u) (append_assoc (value_text h.t) (pairs_text r.row) rest));
      fit = (h.fit, r.fit);
      whole = (h.whole_key, h.whole, r.whole);
      same = ap (λ u. (h.k, u) ∷ kept_pairs (entries_of r.row)) h.same ∙ ap (λ us. (h.k, h.t) ∷ us) r.same;
      fresh = (h.new, subst (λ c. Fresh c r.row) put_is r.fresh);
      becomes = r.becomes ∙ ap (λ c. filled c r.row) put_is;
    }

braced_parts : (n : ℕ) (p rest : List ℕ) → texts.braced n p ++ rest ≡ decimal n ++ 58 ∷ (codes "{" ++ (p ++ (codes "}" ++ rest)))
braced_parts n p rest = append_assoc (decimal n) (58 ∷ 123 ∷ p ++ 125 ∷ []) rest ∙ ap (λ v. decimal n ++ 58 ∷ 123 ∷ v) (append_assoc p (125 ∷ []) rest)

-- pairs between braces, as an array
pub record BracedRead (room : ℕ) (keys : Keys) (xs : List ℕ) (b : Array) (rest : List ℕ) : Type 0 where
  pub told : xs ≡ texts.braced (length b.entries) (pairs_text (row_of b.entries)) ++ rest
  pub count : IsCount (length b.entries)
  pub fit : AreFit keys (row_of b.entries)
  pub whole : AreWhole room (row_of b.entries)
  pub same : kept_pairs b.entries ≡ b.entries
  pub apart : IsApart b.entries
  pub becomes : b ≡ filled empty (row_of b.entries)

braced_read : (V : Read Tree) (room : ℕ) → Tells V room → (keys : Keys) (xs : List ℕ) (b : Array) (rest : List ℕ) → braced V keys xs ≡ Some (b, rest) → BracedRead room keys xs b rest
unfolding braced
braced_read V room H keys xs b rest e =
    let n = bound (natural 58 xs) (λ n. and_then (literal (codes "{") n.1) (λ o. and_then (pairs V keys n.0 empty o.1) (λ a. and_then (literal (codes "}") a.1) (λ c. Some (a.0, c.1))))) (b, rest) e in
    let o = bound (literal (codes "{") n.0.1) (λ o. and_then (pairs V keys n.0.0 empty o.1) (λ a. and_then (literal (codes "}") a.1) (λ c. Some (a.0, c.1)))) (b, rest) n.2 in
    let a = bound (pairs V keys n.0.0 empty o.0.1) (λ a. and_then (literal (codes "}") a.1) (λ c. Some (a.0, c.1))) (b, rest) o.2 in
    let c = bound (literal (codes "}") a.0.1) (λ c. Some (a.0.0, c.1)) (b, rest) a.2 in
    let p = from_some (a.0.0, c.0.1) (b, rest) c.2 in
    let count = natural_read 58 xs n.0.1 n.0.0 n.1 in
    let opening = literal_read (codes "{") n.0.1 o.0.1 o.0.0 o.1 in
    let r = pairs_read V room H keys n.0.0 empty o.0.1 a.0.0 a.0.1 a.1 in
    let close = literal_read (codes "}") a.0.1 c.0.1 c.0.0 c.1 in
    let b_is : b ≡ filled empty r.row = sym (ap (λ q. q.0) p) ∙ r.becomes in
    let entries : entries_of r.row ≡ b.entries = sym (ap (λ a. a.entries) b_is ∙ filled_entries empty r.row r.fresh ∙ r.same) in
    let row : r.row ≡ row_of b.entries = sym (row_of-entries_of r.row) ∙ ap row_of entries in
    let len : n.0.0 ≡ length b.entries = sym r.count ∙ ap length entries in
    record {
      told = count.0 ∙ ap (λ v. decimal n.0.0 ++ 58 ∷ v) (opening ∙ ap (λ v. 123 ∷ v) (r.told ∙ ap (λ v. pairs_text r.row ++ v) (close ∙ ap (λ q. 125 ∷ q.1) p)))
          ∙ ap (λ m. decimal m ++ 58 ∷ 123 ∷ (pairs_text r.row ++ 125 ∷ rest)) len
          ∙ ap (λ s. decimal (length b.entries) ++ 58 ∷ 123 ∷ (pairs_text s ++ 125 ∷ rest)) row
          ∙ sym (braced_parts (length b.entries) (pairs_text (row_of b.entries)) rest);
      count = subst (λ m. m < 2 ^ 64) len count.1;
      fit = subst (AreFit keys) row r.fit;
      whole = subst (AreWhole room) row r.whole;
      same = subst (λ es. kept_pairs es ≡ es) entries r.same;
      apart = subst IsApart entries (apart_from empty r.row r.fresh).1;
      becomes = b_is ∙ ap (filled empty) row;
    }

-- ---- values
-- what was read, where its text is known
told_as : (room : ℕ) (xs left : List ℕ) (t u : Tree) (rest : List ℕ) → Gives {A = Tree} (Some (u, left)) t rest → xs ≡ value_text u ++ left → IsWhole room u → kept u ≡ u → IsTold room xs t rest
told_as room xs left t u rest e told whole same =
    let p = from_some (u, left) (t, rest) e in
    record {
      told = told ∙ ap (λ q. value_text q.0 ++ q.1) p;
      whole = subst (IsWhole room) (ap (λ q. q.0) p) whole;
      same = subst (λ v. kept v ≡ v) (ap (λ q. q.0) p) same;
    }

nothing_told : {P : Type 0} (t : Tree) (rest : List ℕ) → Gives {A = Tree} None t rest → P
nothing_told t rest e = absurd (none_some (t, rest) e)

boolean_read : (xs : List ℕ) (t : Tree) (rest : List ℕ) (room : ℕ) → boolean_behind xs ≡ Some (t, rest) → IsTold room (codes "b:" ++ xs) t rest
unfolding boolean_behind
boolean_read xs t rest room e =
    let w = bound (taken 2 xs) (λ t. cond (is_text t.0 (codes "0;")) (Some (boolean false, t.1)) (cond (is_text t.0 (codes "1;")) (Some (boolean true, t.1)) None)) (t, rest) e in
    by w.0.0 w.0.1 (taken_read 2 xs w.0.0 w.0.1 w.1).0 (by_kind w.0.0 (codes "0;") _ _ (t, rest) w.2)
  where
    by_one : (word left : List ℕ) → xs ≡ word ++ left → ((word ≡ codes "1;") × Gives {A = Tree} (Some (boolean true, left)) t rest) ⊎ Gives {A = Tree} None t rest → IsTold room (codes "b:" ++ xs) t rest
    by_one word left front (inl h) = told_as room (codes "b:" ++ xs) left t (boolean true) rest h.1 (ap (λ u. codes "b:" ++ u) (front ∙ ap (λ w. w ++ left) h.0)) tt refl
    by_one word left front (inr h) = nothing_told t rest h

    by : (word left : List ℕ) → xs ≡ word ++ left → ((word ≡ codes "0;") × Gives {A = Tree} (Some (boolean false, left)) t rest) ⊎ Gives {A = Tree} (cond (is_text word (codes "1;")) (Some (boolean true, left)) None) t rest → IsTold room (codes "b:" ++ xs) t rest
    by word left front (inl h) = told_as room (codes "b:" ++ xs) left t (boolean false) rest h.1 (ap (λ u. codes "b:" ++ u) (front ∙ ap (λ w. w ++ left) h.0)) tt refl
    by word left front (inr h) = by_one word left front (by_kind word (codes "1;") _ _ (t, rest) h)

bytes_carrying : (s : NumberSet) (w : List ℕ) → bytes_of (carrying s w) ≡ w
bytes_carrying s [] = refl
bytes_carrying s (b ∷ w) = ap (λ v. b ∷ v) (bytes_carrying s w)

length_carrying : (s : NumberSet) (w : List ℕ) → length (carrying s w) ≡ length w
length_carrying s [] = refl
length_carrying s (b ∷ w) = ap suc (length_carrying s w)

text_read : (xs : List ℕ) (t : Tree) (rest : List ℕ) (room : ℕ) → text_behind xs ≡ Some (t, rest) → IsTold room (codes "s:" ++ xs) t rest
unfolding text_behind
text_read xs t rest room e =
    let w = bound (bytes_behind xs) (λ w. and_then (plain_text w.0) (λ t. Some (text t, w.1))) (t, rest) e in
    let p = bound (plain_text w.0.0) (λ t. Some (text t, w.0.1)) (t, rest) w.2 in
    let q = some_if (nat_le (length w.0.0) LONGEST) (carrying no_labels w.0.0) p.0 p.1 in
    let b = bytes_read xs w.0.0 w.0.1 w.1 in
    let u = carrying no_labels w.0.0 in
    let bytes : w.0.0 ≡ bytes_of u = sym (bytes_carrying no_labels w.0.0) in
    let short : length w.0.0 ≤ LONGEST = let h : nat_le (length w.0.0) LONGEST ≡ true = q.0 in grind (arith, nat_tests) in
    told_as room (codes "s:" ++ xs) w.0.1 t (text u) rest (ap (λ v. Some (text v, w.0.1)) q.1 ∙ p.2)
    (ap (λ v. codes "s:" ++ v) (b.0 ∙ ap (λ v. (texts.quoted v ++ codes ";") ++ w.0.1) bytes))
    (let l = length_carrying no_labels w.0.0 in omega (arith, l, short))
    (ap (λ v. text (carrying no_labels v)) (sym bytes))

scalar_read : (kind xs : List ℕ) (t : Tree) (rest : List ℕ) (room : ℕ) → scalar_behind kind xs ≡ Some (t, rest) → IsTold room (kind ++ xs) t rest
unfolding scalar_behind
scalar_read kind xs t rest room e = null_case (by_kind kind (codes "N;") _ _ (t, rest) e)
  where
    at : (word : List ℕ) → kind ≡ word → IsTold room (word ++ xs) t rest → IsTold room (kind ++ xs) t rest
    at word h p = subst (λ w. IsTold room (w ++ xs) t rest) (sym h) p

    text_case : ((kind ≡ codes "s:") × (text_behind xs ≡ Some (t, rest))) ⊎ Gives {A = Tree} None t rest → IsTold room (kind ++ xs) t rest
    text_case (inl h) = at (codes "s:") h.0 (text_read xs t rest room h.1)
    text_case (inr h) = nothing_told t rest h

    integer_case : ((kind ≡ codes "i:") × Gives {A = Tree} (and_then (integer_behind xs) (λ n. Some (integer n.0 no_labels, n.1))) t rest) ⊎ Gives {A = Tree} (cond (is_text kind (codes "s:")) (text_behind xs) None) t rest → IsTold room (kind ++ xs) t rest
    integer_case (inl h) =
        let n = bound (integer_behind xs) (λ n. Some (integer n.0 no_labels, n.1)) (t, rest) h.1 in
        let r = integer_read xs n.0.0 n.0.1 n.1 in
        at (codes "i:") h.0 (told_as room (codes "i:" ++ xs) n.0.1 t (integer n.0.0 no_labels) rest n.2 (ap (λ v. codes "i:" ++ v) r.0) r.1 refl)
    integer_case (inr h) = text_case (by_kind kind (codes "s:") _ _ (t, rest) h)

    boolean_case : ((kind ≡ codes "b:") × (boolean_behind xs ≡ Some (t, rest))) ⊎ Gives {A = Tree} (cond (is_text kind (codes "i:")) (and_then (integer_behind xs) (λ n. Some (integer n.0 no_labels, n.1))) (cond (is_text kind (codes "s:")) (text_behind xs) None)) t rest → IsTold room (kind ++ xs) t rest
    boolean_case (inl h) = at (codes "b:") h.0 (boolean_read xs t rest room h.1)
    boolean_case (inr h) = integer_case (by_kind kind (codes "i:") _ _ (t, rest) h)

    null_case : ((kind ≡ codes "N;") × Gives {A = Tree} (Some (null, xs)) t rest) ⊎ Gives {A = Tree} (cond (is_text kind (codes "b:")) (boolean_behind xs) (cond (is_text kind (codes "i:")) (and_then (integer_behind xs) (λ n. Some (integer n.0 no_labels, n.1))) (cond (is_text kind (codes "s:")) (text_behind xs) None))) t rest → IsTold room (kind ++ xs) t rest
    null_case (inl h) = at (codes "N;") h.0 (told_as room (codes "N;" ++ xs) xs t null rest h.1 refl tt refl)
    null_case (inr h) = boolean_case (by_kind kind (codes "b:") _ _ (t, rest) h)

-- how an array is read behind its first two bytes
abbrev TellsArrays : Read Tree → ℕ → Type 0
TellsArrays inner room = (xs : List ℕ) (t : Tree) (rest : List ℕ) → inner xs ≡ Some (t, rest) → IsTold room (codes "a:" ++ xs) t rest

value_with_read : (inner : Read Tree) (room : ℕ) → TellsArrays inner room → Tells (value_with inner) room
unfolding value_with
value_with_read inner room H xs t rest e =
    let w = bound (taken 2 xs) (λ t. cond (is_text t.0 (codes "a:")) (inner t.1) (scalar_behind t.0 t.1)) (t, rest) e in
    subst (λ ys. IsTold room ys t rest) (sym (taken_read 2 xs w.0.0 w.0.1 w.1).0) (by w.0.0 w.0.1 (by_kind w.0.0 (codes "a:") _ _ (t, rest) w.2))
  where
    by : (kind left : List ℕ) → ((kind ≡ codes "a:") × (inner left ≡ Some (t, rest))) ⊎ (scalar_behind kind left ≡ Some (t, rest)) → IsTold room (kind ++ left) t rest
    by kind left (inl h) = subst (λ w. IsTold room (w ++ left) t rest) (sym h.0) (H left t rest h.1)
    by kind left (inr h) = scalar_read kind left t rest room h

array_read : (V : Read Tree) (room : ℕ) → Tells V room → TellsArrays (array_behind V) (suc room)
unfolding array_behind
array_read V room H xs t rest e =
    let a = bound (braced V Lawful xs) (λ a. Some (tree_of_array a.0, a.1)) (t, rest) e in
    let b = braced_read V room H Lawful xs a.0.0 a.0.1 a.1 in
    let es = a.0.0.entries in
    let same : entries_of (row_of es) ≡ es = entries_of-row_of es in
    told_as (suc room) (codes "a:" ++ xs) a.0.1 t (tree_of_array a.0.0) rest a.2
    (ap (λ u. codes "a:" ++ u) (b.told ∙ ap (λ fs. texts.braced (length fs) (pairs_text (row_of es)) ++ a.0.1) (sym same)))
    (subst (λ fs. IsCount (length fs)) (sym same) b.count, subst IsApart (sym same) b.apart, lawful_fit (row_of es) b.fit, b.whole)
    (ap tree_of_array (sym b.becomes))

pub value_read : (room : ℕ) → Tells (value room) room
unfolding value
value_read zero = value_with_read (λ _. None) zero (λ xs t rest e. nothing_told t rest e)
value_read (suc room) = value_with_read (array_behind (value room)) (suc room) (array_read (value room) room (value_read room))

-- ---- policies
class_read : (xs c rest : List ℕ) → class xs ≡ Some (c, rest) → (xs ≡ texts.quoted c ++ rest) × (is_name c ≡ true) × (length c ≤ LONGEST)
unfolding class
class_read xs c rest e =
    let w = bound (quoted xs) (λ w. cond (is_name w.0 && nat_le (length w.0) LONGEST) (Some w) None) (c, rest) e in
    let h = some_if (is_name w.0.0 && nat_le (length w.0.0) LONGEST) w.0 (c, rest) w.2 in
    let short : length w.0.0 ≤ LONGEST = let k = and_right (is_name w.0.0) (nat_le (length w.0.0) LONGEST) h.0 in grind (arith, nat_tests) in
    let same : w.0.0 ≡ c = ap (λ q. q.0) h.1 in (
      (quoted_read xs w.0.0 w.0.1 w.1).0 ∙ ap (λ q. texts.quoted q.0 ++ q.1) h.1,
      subst (λ v. is_name v ≡ true) same (and_left (is_name w.0.0) (nat_le (length w.0.0) LONGEST) h.0),
      subst (λ v. length v ≤ LONGEST) same short,
    )

pub record PolicyRead (xs c : List ℕ) (es : EntryList) (rest : List ℕ) : Type 0 where
  pub told : xs ≡ policy_text c es ++ rest
  pub is_policy : IsPolicy c es
  pub same : kept_pairs es ≡ es

policy_known : (xs c d : List ℕ) (b : Array) (es : EntryList) (left rest : List ℕ) → Gives {A = Policy} (Some ((d, b.entries), left)) (c, es) rest → xs ≡ policy_text d b.entries ++ left → IsPolicy d b.entries → kept_pairs b.entries ≡ b.entries → PolicyRead xs c es rest
policy_known xs c d b es left rest e told policy same =
    let p = from_some ((d, b.entries), left) ((c, es), rest) e in
    record {
      told = told ∙ ap (λ q. policy_text q.0.0 q.0.1 ++ q.1) p;
      is_policy = subst (λ q. IsPolicy q.0.0 q.0.1) p policy;
      same = subst (λ q. kept_pairs q.0.1 ≡ q.0.1) p same;
    }

pub policy_read : (xs c : List ℕ) (es : EntryList) (rest : List ℕ) → policy xs ≡ Some ((c, es), rest) → PolicyRead xs c es rest
unfolding policy
policy_read xs c es rest e =
    let o = bound (literal (codes "O:") xs) (λ o. and_then (class o.1) (λ c. and_then (literal (codes ":") c.1) (λ d. and_then (braced (value ROOM) Names d.1) (λ a. Some ((c.0, a.0.entries), a.1))))) ((c, es), rest) e in
    let k = bound (class o.0.1) (λ c. and_then (literal (codes ":") c.1) (λ d. and_then (braced (value ROOM) Names d.1) (λ a. Some ((c.0, a.0.entries), a.1)))) ((c, es), rest) o.2 in
    let d = bound (literal (codes ":") k.0.1) (λ d. and_then (braced (value ROOM) Names d.1) (λ a. Some ((k.0.0, a.0.entries), a.1))) ((c, es), rest) k.2 in
    let a = bound (braced (value ROOM) Names d.0.1) (λ a. Some ((k.0.0, a.0.entries), a.1)) ((c, es), rest) d.2 in
    let b = braced_read (value ROOM) ROOM (value_read ROOM) Names d.0.1 a.0.0 a.0.1 a.1 in
    let opening = literal_read (codes "O:") xs o.0.1 o.0.0 o.1 in
    let name = class_read o.0.1 k.0.0 k.0.1 k.1 in
    let colon = literal_read (codes ":") k.0.1 d.0.1 d.0.0 d.1 in
    let fs = a.0.0.entries in
    let keys : list_all (λ e. is_field_key e.0) fs ≡ true = subst (λ gs. list_all (λ e. is_field_key e.0) gs ≡ true) (entries_of-row_of fs) (names_fit (row_of fs) b.fit) in
    policy_known xs c k.0.0 a.0.0 es a.0.1 rest a.2
    (opening ∙ ap (λ u. codes "O:" ++ u) (name.0 ∙ ap (λ u. texts.quoted k.0.0 ++ u) (colon ∙ ap (λ u. codes ":" ++ u) b.told)) ∙ sym (policy_parts k.0.0 fs a.0.1))
    (record { class_name = name.1; class_short = name.2; field_names = keys; count = b.count; apart = b.apart; whole = b.whole })
    b.same
