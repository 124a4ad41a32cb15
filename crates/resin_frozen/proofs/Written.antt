-- A text of values is read back: what a text keeps of them.
use Rattle.std.proofs.Common.{◌≡◌, ℕ, ℤ, zero, suc, ◌≤◌, Bool, true, false, cond, List, [], ◌∷◌, ◌++◌, length, Option, Some, None, decimal, codes, refl, sym, ap, subst, ◌∙◌, arith, append_assoc}
use Rattle.std.specs.Prelude.{◌&&◌, nat_le, is_none}
use Rattle.std.specs.Fmt.{signed_decimal}
use Rattle.std.specs.List.{list_all}
use Rattle.std.proofs.lemmas.Bool.Decides.{nat_tests}
use Rattle.resin_value.specs.Under.label.Sets.{empty as no_labels}
use Rattle.resin_value.specs.Under.lstr.declared.limits.TheConstants.{LONGEST}
use Rattle.resin_value.specs.Under.lstr.Texts.{Text as LabelledText, bytes_of, carrying}
use Rattle.resin_value.specs.declared.key.Key.{Key}
use Rattle.resin_value.specs.Trees.{Tree, Row, null, boolean, integer, text, array, object, no_entry, entry}
use Rattle.resin_value.specs.Arrays.{EntryList, Array, row_of, entries_of, entries_of-row_of}
use Rattle.resin_value.specs.Changes.{lookup, put, empty, IsApart}
use Rattle.resin_frozen.specs.declared.keys.Keys.{Keys}
use Rattle.resin_frozen.specs.declared.keys.Keys.TheVariants.{Lawful, Names}
use Rattle.resin_frozen.specs.Texts as texts
use Rattle.resin_frozen.specs.Texts.{value_text, pairs_text, key_text, boolean_text, policy_head, policy_text}
use Rattle.resin_frozen.specs.Policies.{ROOM, IsWholeKey, IsWhole, AreWhole, IsCount, IsPolicy, is_name, is_field_key, kept, filled, tree_of_array, kept_pairs}
use Rattle.resin_frozen.specs.Reading.{Read, and_then, is_text, literal, boolean_behind, plain_text, text_behind, is_fit, pair, pairs, braced, array_behind, scalar_behind, value_with, value, class, policy}
use Rattle.resin_frozen.proofs.Numbers.{both}
use Rattle.resin_frozen.proofs.Parts.{on, taken-front, literal-front, natural-decimal, quoted-quoted, integer-integer, bytes-bytes, key-key}
use Rattle.resin_frozen.proofs.Pairs.{Fresh, AreFit, fresh_from, free_empty, filled_entries, fit_lawful, fit_names}

length_bytes : (t : LabelledText) → length (bytes_of t) ≡ length t
length_bytes [] = refl
length_bytes (p ∷ t) = ap suc (length_bytes t)

-- how values are read gives back what a text keeps of each
abbrev pub ReadsBack : Read Tree → ℕ → Type 0
ReadsBack V room = (t : Tree) (rest : List ℕ) → IsWhole room t → V (value_text t ++ rest) ≡ Some (kept t, rest)

-- ---- pairs
pair-pair : (V : Read Tree) (room : ℕ) → ReadsBack V room → (keys : Keys) (a : Array) (k : Key) (t : Tree) (rest : List ℕ)
    → is_fit keys k ≡ true → IsWholeKey k → IsWhole room t → lookup k a.entries ≡ None → pair V keys a (key_text k ++ (value_text t ++ rest)) ≡ Some (put k (kept t) a, rest)
unfolding pair
pair-pair V room H keys a k t rest fit wk wt new =
    on (λ k. cond (is_none (lookup k.0 a.entries)) (and_then (V k.1) (λ t. Some (put k.0 t.0 a, t.1))) None) (key-key keys k (value_text t ++ rest) fit wk)
    ∙ ap (λ o. cond (is_none o) (and_then (V (value_text t ++ rest)) (λ t. Some (put k t.0 a, t.1))) None) new
    ∙ on (λ t. Some (put k t.0 a, t.1)) (H t rest wt)

pairs-pairs : (V : Read Tree) (room : ℕ) → ReadsBack V room → (keys : Keys) (r : Row) (a : Array) (rest : List ℕ)
    → AreFit keys r → AreWhole room r → Fresh a r → pairs V keys (length (entries_of r)) a (pairs_text r ++ rest) ≡ Some (filled a r, rest)
pairs-pairs V room H keys no_entry a rest fit whole fresh = refl
pairs-pairs V room H keys (entry k t r) a rest fit whole fresh =
    ap (pairs V keys (suc (length (entries_of r))) a) (append_assoc (key_text k) (value_text t ++ pairs_text r) rest ∙ ap (λ u. key_text k ++ u) (append_assoc (value_text t) (pairs_text r) rest))
    ∙ on (λ p. pairs V keys (length (entries_of r)) p.0 p.1) (pair-pair V room H keys a k t (pairs_text r ++ rest) fit.0 whole.0 whole.1 fresh.0)
    ∙ pairs-pairs V room H keys r (put k (kept t) a) rest fit.1 whole.2 fresh.1

braced_parts : (n : ℕ) (p rest : List ℕ) → texts.braced n p ++ rest ≡ decimal n ++ 58 ∷ (codes "{" ++ (p ++ (codes "}" ++ rest)))
braced_parts n p rest = append_assoc (decimal n) (58 ∷ 123 ∷ p ++ 125 ∷ []) rest ∙ ap (λ v. decimal n ++ 58 ∷ 123 ∷ v) (append_assoc p (125 ∷ []) rest)

pub braced-braced : (V : Read Tree) (room : ℕ) → ReadsBack V room → (keys : Keys) (r : Row) (rest : List ℕ)
    → AreFit keys r → AreWhole room r → Fresh empty r → IsCount (length (entries_of r)) → braced V keys (texts.braced (length (entries_of r)) (pairs_text r) ++ rest) ≡ Some (filled empty r, rest)
unfolding braced
braced-braced V room H keys r rest fit whole fresh count =
    ap (braced V keys) (braced_parts (length (entries_of r)) (pairs_text r) rest)
    ∙ on (λ n. and_then (literal (codes "{") n.1) (λ o. and_then (pairs V keys n.0 empty o.1) (λ a. and_then (literal (codes "}") a.1) (λ c. Some (a.0, c.1)))))
    (natural-decimal 58 (length (entries_of r)) (codes "{" ++ (pairs_text r ++ (codes "}" ++ rest))) (omega arith) count)
    ∙ on (λ o. and_then (pairs V keys (length (entries_of r)) empty o.1) (λ a. and_then (literal (codes "}") a.1) (λ c. Some (a.0, c.1)))) (literal-front (codes "{") (pairs_text r ++ (codes "}" ++ rest)))
    ∙ on (λ a. and_then (literal (codes "}") a.1) (λ c. Some (a.0, c.1))) (pairs-pairs V room H keys r empty (codes "}" ++ rest) fit whole fresh)
    ∙ on (λ c. Some (filled empty r, c.1)) (literal-front (codes "}") rest)

-- ---- values
with_kind : (inner : Read Tree) (x y : ℕ) (rest : List ℕ) → value_with inner (x ∷ y ∷ rest) ≡ cond (is_text (x ∷ y ∷ []) (codes "a:")) (inner rest) (scalar_behind (x ∷ y ∷ []) rest)
unfolding value_with
with_kind inner x y rest = on (λ t. cond (is_text t.0 (codes "a:")) (inner t.1) (scalar_behind t.0 t.1)) (taken-front (x ∷ y ∷ []) rest)

boolean-boolean : (b : Bool) (rest : List ℕ) (inner : Read Tree) → value_with inner (boolean_text b ++ rest) ≡ Some (boolean b, rest)
unfolding scalar_behind boolean_behind
boolean-boolean true rest inner =
    with_kind inner 98 58 (codes "1;" ++ rest)
    ∙ on (λ t. cond (is_text t.0 (codes "0;")) (Some (boolean false, t.1)) (cond (is_text t.0 (codes "1;")) (Some (boolean true, t.1)) None)) (taken-front (codes "1;") rest)
boolean-boolean false rest inner =
    with_kind inner 98 58 (codes "0;" ++ rest)
    ∙ on (λ t. cond (is_text t.0 (codes "0;")) (Some (boolean false, t.1)) (cond (is_text t.0 (codes "1;")) (Some (boolean true, t.1)) None)) (taken-front (codes "0;") rest)

le_true : (a b : ℕ) → a ≤ b → nat_le a b ≡ true
le_true a b h = grind (arith, nat_tests)

text-text : (t : LabelledText) (rest : List ℕ) → length t ≤ LONGEST → text_behind ((texts.quoted (bytes_of t) ++ codes ";") ++ rest) ≡ Some (text (carrying no_labels (bytes_of t)), rest)
unfolding text_behind
text-text t rest h =
    let e = length_bytes t in
    on (λ w. and_then (plain_text w.0) (λ t. Some (text t, w.1))) (bytes-bytes (bytes_of t) rest (omega (arith, e, h)))
    ∙ ap (λ b. and_then (cond b (Some (carrying no_labels (bytes_of t))) None) (λ t. Some (text t, rest))) (le_true (length (bytes_of t)) LONGEST (omega (arith, e, h)))

value_at : (inner : Read Tree) (room : ℕ) → ((r : Row) (l : Option ℤ) (h : ℕ) (rest : List ℕ) → IsWhole room (array r l h) → inner (texts.braced (length (entries_of r)) (pairs_text r) ++ rest) ≡ Some (kept (array r l h), rest))
    → ReadsBack (value_with inner) room
unfolding scalar_behind
value_at inner room arrays null rest h = with_kind inner 78 59 rest
value_at inner room arrays (boolean b) rest h = boolean-boolean b rest inner
value_at inner room arrays (integer n s) rest h =
    with_kind inner 105 58 ((signed_decimal n ++ codes ";") ++ rest)
    ∙ on (λ n. Some (integer n.0 no_labels, n.1)) (integer-integer n rest h)
value_at inner room arrays (text t) rest h = with_kind inner 115 58 ((texts.quoted (bytes_of t) ++ codes ";") ++ rest) ∙ text-text t rest h
value_at inner room arrays (array r l g) rest h = with_kind inner 97 58 (texts.braced (length (entries_of r)) (pairs_text r) ++ rest) ∙ arrays r l g rest h
value_at inner room arrays (object n) rest h = absurd h

array-array : (V : Read Tree) (room : ℕ) → ReadsBack V room → (r : Row) (l : Option ℤ) (h : ℕ) (rest : List ℕ) → IsWhole (suc room) (array r l h)
    → array_behind V (texts.braced (length (entries_of r)) (pairs_text r) ++ rest) ≡ Some (kept (array r l h), rest)
unfolding array_behind
array-array V room H r l g rest h =
    on (λ a. Some (tree_of_array a.0, a.1)) (braced-braced V room H Lawful r rest (fit_lawful r h.2) h.3 (fresh_from empty r (free_empty r) h.1) h.0)

pub value-value : (room : ℕ) → ReadsBack (value room) room
unfolding value
value-value zero = value_at (λ _. None) zero (λ r l g rest h. absurd h)
value-value (suc room) = value_at (array_behind (value room)) (suc room) (array-array (value room) room (value-value room))

-- ---- policies
class-class : (c rest : List ℕ) → is_name c ≡ true → length c ≤ LONGEST → class (texts.quoted c ++ rest) ≡ Some (c, rest)
unfolding class
class-class c rest name short =
    on (λ w. cond (is_name w.0 && nat_le (length w.0) LONGEST) (Some w) None) (quoted-quoted c rest (omega (arith, short)))
    ∙ ap (λ b. cond b (Some (c, rest)) None) (both _ _ name (le_true (length c) LONGEST short))

pub policy_parts : (c : List ℕ) (es : EntryList) (rest : List ℕ)
    → policy_text c es ++ rest ≡ codes "O:" ++ (texts.quoted c ++ (codes ":" ++ (texts.braced (length es) (pairs_text (row_of es)) ++ rest)))
policy_parts c es rest =
    let n = length es in
    let p = pairs_text (row_of es) in
    let behind : List ℕ = (p ++ 125 ∷ []) ++ rest in
    append_assoc (policy_head c n) (p ++ 125 ∷ []) rest
    ∙ append_assoc (codes "O:") (texts.quoted c ++ (58 ∷ decimal n ++ codes ":{")) behind
    ∙ ap (λ u. codes "O:" ++ u) (append_assoc (texts.quoted c) (58 ∷ decimal n ++ codes ":{") behind
    ∙ ap (λ u. texts.quoted c ++ (58 ∷ u)) (append_assoc (decimal n) (codes ":{") behind ∙ sym (append_assoc (decimal n) (58 ∷ 123 ∷ p ++ 125 ∷ []) rest)))

pub policy-policy : (c : List ℕ) (es : EntryList) (rest : List ℕ) → IsPolicy c es → policy (policy_text c es ++ rest) ≡ Some ((c, kept_pairs es), rest)
unfolding policy
policy-policy c es rest p =
    let same : entries_of (row_of es) ≡ es = entries_of-row_of es in
    let fresh = fresh_from empty (row_of es) (free_empty (row_of es)) (subst IsApart (sym same) p.apart) in
    let fit : AreFit Names (row_of es) = fit_names (row_of es) (subst (λ fs. list_all (λ e. is_field_key e.0) fs ≡ true) (sym same) p.field_names) in
    let count : IsCount (length (entries_of (row_of es))) = subst (λ fs. IsCount (length fs)) (sym same) p.count in
    let inside : braced (value ROOM) Names (texts.braced (length es) (pairs_text (row_of es)) ++ rest) ≡ Some (filled empty (row_of es), rest) =
    subst (λ fs. braced (value ROOM) Names (texts.braced (length fs) (pairs_text (row_of es)) ++ rest) ≡ Some (filled empty (row_of es), rest)) same
    (braced-braced (value ROOM) ROOM (value-value ROOM) Names (row_of es) rest fit p.whole fresh count) in
    ap policy (policy_parts c es rest)
    ∙ on (λ o. and_then (class o.1) (λ c. and_then (literal (codes ":") c.1) (λ d. and_then (braced (value ROOM) Names d.1) (λ a. Some ((c.0, a.0.entries), a.1)))))
    (literal-front (codes "O:") (texts.quoted c ++ (codes ":" ++ (texts.braced (length es) (pairs_text (row_of es)) ++ rest))))
    ∙ on (λ c. and_then (literal (codes ":") c.1) (λ d. and_then (braced (value ROOM) Names d.1) (λ a. Some ((c.0, a.0.entries), a.1))))
    (class-class c (codes ":" ++ (texts.braced (length es) (pairs_text (row_of es)) ++ rest)) p.class_name p.class_short)
    ∙ on (λ d. and_then (braced (value ROOM) Names d.1) (λ a. Some ((c, a.0.entries), a.1))) (literal-front (codes ":") (texts.braced (length es) (pairs_text (row_of es)) ++ rest))
    ∙ on (λ a. Some ((c, a.0.entries), a.1)) inside
    ∙ ap (λ fs. Some ((c, fs), rest)) (filled_entries empty (row_of es) fresh ∙ ap kept_pairs same)
