-- One more pair of a loop over pairs.
use Rattle.std.proofs.Common.{◌≡◌, ℕ, zero, suc, ◌+◌, ◌^◌, ◌<◌, ◌≤◌, Bool, true, false, cond, List, [], ◌∷◌, ◌++◌, length, take, slice_get, get_or, Some, None, Err, codes, decimal, refl, sym, ap, subst, ◌∙◌, arith, append_assoc, add-one}
use Rattle.std.specs.Prelude.{◌&&◌}
use Rattle.std.specs.List.{list_all, IsDistinct, AllByRecursion}
use Rattle.std.specs.Map.{keys_of}
use Rattle.std.specs.Str.{bytes_eq}
use Rattle.resin_value.specs.Under.lstr.declared.limits.TheConstants.{LONGEST}
use Rattle.resin_value.specs.declared.key.Key.{Key}
use Rattle.resin_value.specs.declared.key.Key.TheVariants.{Text as TextKey}
use Rattle.resin_value.specs.declared.value.Value.{Value}
use Rattle.resin_value.specs.Trees.{Tree}
use Rattle.resin_value.specs.Arrays.{EntryList, Array, row_of, entries_of-row_of}
use Rattle.resin_value.specs.Changes.{lookup, IsApart, AreLawful, IsArray}
use Rattle.resin_value.specs.Seen.{tree_of}
use Rattle.resin_value.specs.Values.{FieldList}
use Rattle.resin_frozen.specs.Texts as texts
use Rattle.resin_frozen.specs.Texts.{key_text, value_text, pairs_text, bytes_text, policy_head, policy_text}
use Rattle.resin_frozen.specs.declared.fault.FreezeFault.{FreezeFault}
use Rattle.resin_frozen.specs.declared.fault.FreezeFault.TheVariants.{NotStorable, Memory}
use Rattle.resin_frozen.specs.Reads.{Writes}
use Rattle.resin_frozen.specs.Policies.{ROOM, IsPolicy, HasFieldNames, is_name, is_field_key, IsCount, IsWholeKey, IsWhole, AreWhole, is_storable, are_storable, tree_of_array, pairs_of}
use Rattle.resin_frozen.proofs.Numbers.{both, from_some, none_some}

parts : (a b : Bool) → (a && b) ≡ true → (a ≡ true) × (b ≡ true)
parts true b h = (refl, h)
parts false b h = absurd (cc)

behind : (b : Bool) {c : Bool} → c ≡ false → (b && c) ≡ false
behind true h = h
behind false h = refl

more_suc : {X : Type 0} (xs : List X) (i : ℕ) (x : X) → slice_get xs i ≡ Some x → take (suc i) xs ≡ take i xs ++ x ∷ []
more_suc [] i x e = absurd (none_some x e)
more_suc (y ∷ xs) zero x e = ap (λ z. z ∷ []) (from_some y x e)
more_suc (y ∷ xs) (suc i) x e = ap (λ zs. y ∷ zs) (more_suc xs i x e)

pub more : {X : Type 0} (xs : List X) (i : ℕ) (x : X) → slice_get xs i ≡ Some x → take (i + 1) xs ≡ take i xs ++ x ∷ []
more xs i x e = rw add-one (more_suc xs i x e)

pub whole_list : {X : Type 0} (xs : List X) (i : ℕ) → length xs ≤ i → take i xs ≡ xs
whole_list [] zero h = refl
whole_list [] (suc i) h = refl
whole_list (x ∷ xs) zero h = absurd (omega arith)
whole_list (x ∷ xs) (suc i) h = ap (λ ys. x ∷ ys) (whole_list xs i (omega arith))

nothing_behind : (xs : List ℕ) → xs ++ [] ≡ xs
nothing_behind [] = refl
nothing_behind (x ∷ xs) = ap (λ ys. x ∷ ys) (nothing_behind xs)

pub text_push : (es : EntryList) (k : Key) (t : Tree) → pairs_text (row_of (es ++ (k, t) ∷ [])) ≡ pairs_text (row_of es) ++ (key_text k ++ value_text t)
text_push [] k t = ap (λ u. key_text k ++ u) (nothing_behind (value_text t))
text_push (e ∷ es) k t =
    ap (λ u. key_text e.0 ++ (value_text e.1 ++ u)) (text_push es k t)
    ∙ sym (append_assoc (key_text e.0) (value_text e.1 ++ pairs_text (row_of es)) (key_text k ++ value_text t)
    ∙ ap (λ u. key_text e.0 ++ u) (append_assoc (value_text e.1) (pairs_text (row_of es)) (key_text k ++ value_text t)))

pub storable_push : (room : ℕ) (es : EntryList) (k : Key) (t : Tree) → are_storable room (row_of es) ≡ true → is_storable room t ≡ true → are_storable room (row_of (es ++ (k, t) ∷ [])) ≡ true
storable_push room [] k t h s = both _ _ s refl
storable_push room (e ∷ es) k t h s = let p = parts (is_storable room e.1) (are_storable room (row_of es)) h in both _ _ p.0 (storable_push room es k t p.1 s)

pub whole_push : (room : ℕ) (es : EntryList) (k : Key) (t : Tree) → AreWhole room (row_of es) → IsWholeKey k → IsWhole room t → AreWhole room (row_of (es ++ (k, t) ∷ []))
whole_push room [] k t h w v = (w, v, tt)
whole_push room (e ∷ es) k t h w v = (h.0, h.1, whole_push room es k t h.2 w v)

-- a value that can't be stored
pub storable_at : (room : ℕ) (es : EntryList) (i : ℕ) (k : Key) (t : Tree) → slice_get es i ≡ Some (k, t) → is_storable room t ≡ false → are_storable room (row_of es) ≡ false
storable_at room [] i k t e f = absurd (none_some (k, t) e)
storable_at room (x ∷ es) zero k t e f = ap (λ b. b && are_storable room (row_of es)) (ap (λ y. is_storable room y.1) (from_some x (k, t) e) ∙ f)
storable_at room (x ∷ es) (suc i) k t e f = behind (is_storable room x.1) (storable_at room es i k t e f)

-- the loop's invariant behind one more pair
pub record SoFar (room : ℕ) (old : List ℕ) (es : EntryList) (new : List ℕ) : Type 0 where
  pub text : new ≡ old ++ pairs_text (row_of es)
  pub storable : are_storable room (row_of es) ≡ true
  pub whole : AreWhole room (row_of es)

pub one_more : (room : ℕ) (old : List ℕ) (es : EntryList) (i : ℕ) (k : Key) (t : Tree) (at mid new : List ℕ) → slice_get es i ≡ Some (k, t) → SoFar room old (take i es) at
    → mid ≡ at ++ key_text k → IsWholeKey k → new ≡ mid ++ value_text t → is_storable room t ≡ true → IsWhole room t → SoFar room old (take (i + 1) es) new
one_more room old es i k t at mid new e h key_is wk value_is storable whole =
    let m = more es i (k, t) e in
    subst (λ fs. SoFar room old fs new) (sym m) (record {
      text = value_is ∙ ap (λ u. u ++ value_text t) (key_is ∙ ap (λ u. u ++ key_text k) h.text) ∙ append_assoc (old ++ pairs_text (row_of (take i es))) (key_text k) (value_text t)
          ∙ append_assoc old (pairs_text (row_of (take i es))) (key_text k ++ value_text t) ∙ ap (λ u. old ++ u) (sym (text_push (take i es) k t));
      storable = storable_push room (take i es) k t h.storable storable;
      whole = whole_push room (take i es) k t h.whole wk whole;
    })

-- all pairs were written
pub all_pairs : (room : ℕ) (old : List ℕ) (es : EntryList) (i : ℕ) (new : List ℕ) → length es ≤ i → SoFar room old (take i es) new → SoFar room old es new
all_pairs room old es i new le h = subst (λ fs. SoFar room old fs new) (whole_list es i le) h

-- ---- an array, one room up
pub array_storable : (room inner : ℕ) (a : Array) → inner + 1 ≡ room → is_storable room (tree_of_array a) ≡ are_storable inner (row_of a.entries)
array_storable zero inner a e = absurd (omega arith)
array_storable (suc room) inner a e = let same : room ≡ inner = omega arith in ap (λ n. are_storable n (row_of a.entries)) same

pub array_whole : (room inner : ℕ) (a : Array) → inner + 1 ≡ room → IsCount (length a.entries) → IsArray a → AreWhole inner (row_of a.entries) → IsWhole room (tree_of_array a)
array_whole zero inner a e count is whole = absurd (omega arith)
array_whole (suc room) inner a e count is whole =
    let same : inner ≡ room = omega arith in
    let back = sym (entries_of-row_of a.entries) in
    (subst (λ fs. IsCount (length fs)) back count, subst IsApart back is.apart, subst AreLawful back is.lawful, subst (λ n. AreWhole n (row_of a.entries)) same whole)

-- ---- tests of all pairs
all_last : {X : Type 0} (p : X → Bool) (ys : List X) (x : X) → list_all p ys ≡ true → p x ≡ true → list_all p (ys ++ x ∷ []) ≡ true
all_last p [] x h k = both _ _ k refl
all_last p (y ∷ ys) x h k = let q = parts (p y) (list_all p ys) h in both _ _ q.0 (all_last p ys x q.1 k)

pub all_more : {X : Type 0} (p : X → Bool) (xs : List X) (i : ℕ) (x : X) → slice_get xs i ≡ Some x → list_all p (take i xs) ≡ true → p x ≡ true → list_all p (take (i + 1) xs) ≡ true
all_more p xs i x e h k = ap (list_all p) (more xs i x e) ∙ all_last p (take i xs) x h k

pub all_at : {X : Type 0} (p : X → Bool) (xs : List X) (i : ℕ) (x : X) → slice_get xs i ≡ Some x → list_all p xs ≡ true → p x ≡ true
all_at p [] i x e h = absurd (none_some x e)
all_at p (y ∷ xs) zero x e h = ap p (sym (from_some y x e)) ∙ (parts (p y) (list_all p xs) h).0
all_at p (y ∷ xs) (suc i) x e h = all_at p xs i x e (parts (p y) (list_all p xs) h).1

pub all_fails : {X : Type 0} (p : X → Bool) (xs : List X) (i : ℕ) (x : X) → slice_get xs i ≡ Some x → p x ≡ false → list_all p xs ≡ false
all_fails p [] i x e f = absurd (none_some x e)
all_fails p (y ∷ xs) zero x e f = ap (λ b. b && list_all p xs) (ap p (from_some y x e) ∙ f)
all_fails p (y ∷ xs) (suc i) x e f = behind (p y) (all_fails p xs i x e f)

-- ---- exits of the loop
pub value_fails : (room : ℕ) (old at : List ℕ) (es : EntryList) (i : ℕ) (k : Key) (t : Tree) (fault : FreezeFault) (mid new : List ℕ) → slice_get es i ≡ Some (k, t)
    → Writes at (value_text t) (is_storable room t) (IsWhole room t) (Err fault) mid → Writes old (pairs_text (row_of es)) (are_storable room (row_of es)) (AreWhole room (row_of es)) (Err fault) new
value_fails room old at es i k t NotStorable mid new e h = storable_at room es i k t e h
value_fails room old at es i k t Memory mid new e h = tt

-- ---- the text of an array
pub array_text : (old one two three four new : List ℕ) (n m : ℕ) (pairs : List ℕ) → one ≡ old ++ codes "a:" → two ≡ one ++ decimal n → three ≡ two ++ codes ":{" → four ≡ three ++ pairs → new ≡ four ++ 125 ∷ [] → n ≡ m
    → new ≡ old ++ (codes "a:" ++ texts.braced m pairs)
array_text old one two three four new n m pairs a b c d e f =
    e ∙ ap (λ u. u ++ 125 ∷ []) (d ∙ ap (λ u. u ++ pairs) (c ∙ ap (λ u. u ++ codes ":{") (b ∙ ap (λ u. u ++ decimal n) a)))
    ∙ append_assoc (((old ++ codes "a:") ++ decimal n) ++ codes ":{") pairs (125 ∷ [])
    ∙ append_assoc ((old ++ codes "a:") ++ decimal n) (codes ":{") (pairs ++ 125 ∷ [])
    ∙ append_assoc (old ++ codes "a:") (decimal n) (codes ":{" ++ (pairs ++ 125 ∷ []))
    ∙ append_assoc old (codes "a:") (decimal n ++ (codes ":{" ++ (pairs ++ 125 ∷ [])))
    ∙ ap (λ k. old ++ (codes "a:" ++ (decimal k ++ (codes ":{" ++ (pairs ++ 125 ∷ []))))) f

-- ---- fields as pairs
pub slice_from : {X : Type 0} (xs : List X) (i : ℕ) (x d : X) → i < length xs → x ≡ get_or xs i d → slice_get xs i ≡ Some x
slice_from [] i x d lt e = absurd (omega arith)
slice_from (y ∷ xs) zero x d lt e = ap Some (sym e)
slice_from (y ∷ xs) (suc i) x d lt e = slice_from xs i x d (omega arith) e

pub pairs_at : (fs : FieldList) (i : ℕ) (f : List ℕ × Value) → slice_get fs i ≡ Some f → slice_get (pairs_of fs) i ≡ Some (TextKey f.0, tree_of f.1)
pairs_at [] i f e = absurd (none_some f e)
pairs_at (g ∷ fs) zero f e = ap (λ h. Some (TextKey h.0, tree_of h.1)) (from_some g f e)
pairs_at (g ∷ fs) (suc i) f e = pairs_at fs i f e

pub pairs_take : (fs : FieldList) (i : ℕ) → pairs_of (take i fs) ≡ take i (pairs_of fs)
pairs_take fs zero = refl
pairs_take [] (suc i) = refl
pairs_take (f ∷ fs) (suc i) = ap (λ es. (TextKey f.0, tree_of f.1) ∷ es) (pairs_take fs i)

pub length_pairs : (fs : FieldList) → length (pairs_of fs) ≡ length fs
length_pairs [] = refl
length_pairs (f ∷ fs) = ap suc (length_pairs fs)

pub field_more : (old : List ℕ) (fs : FieldList) (i : ℕ) (f : List ℕ × Value) (at mid new : List ℕ) → slice_get fs i ≡ Some f → SoFar ROOM old (pairs_of (take i fs)) at
    → mid ≡ at ++ bytes_text f.0 → IsCount (length f.0) → new ≡ mid ++ value_text (tree_of f.1) → is_storable ROOM (tree_of f.1) ≡ true → IsWhole ROOM (tree_of f.1) → SoFar ROOM old (pairs_of (take (i + 1) fs)) new
field_more old fs i f at mid new e h key_is count value_is storable whole =
    subst (λ es. SoFar ROOM old es new) (sym (pairs_take fs (i + 1)))
    (one_more ROOM old (pairs_of fs) i (TextKey f.0) (tree_of f.1) at mid new (pairs_at fs i f e) (subst (λ es. SoFar ROOM old es at) (pairs_take fs i) h) key_is count value_is storable whole)

pub pairs_push : (fs : FieldList) (name : List ℕ) (v : Value) → pairs_of (fs ++ (name, v) ∷ []) ≡ pairs_of fs ++ (TextKey name, tree_of v) ∷ []
pairs_push [] name v = refl
pairs_push (f ∷ fs) name v = ap (λ es. (TextKey f.0, tree_of f.1) ∷ es) (pairs_push fs name v)

absent : (name : List ℕ) (fs : FieldList) → AllByRecursion (λ n. bytes_eq name n ≡ false) (keys_of fs) → lookup (TextKey name) (pairs_of fs) ≡ None
absent name [] h = refl
absent name (f ∷ fs) h = ap (λ b. cond b (Some (tree_of f.1)) (lookup (TextKey name) (pairs_of fs))) h.0 ∙ absent name fs h.1

apart_fields : (fs : FieldList) → IsDistinct bytes_eq (keys_of fs) → IsApart (pairs_of fs)
unfolding IsDistinct
apart_fields [] h = tt
apart_fields (f ∷ fs) h = (absent f.0 fs h.0, apart_fields fs h.1)

named_fields : (fs : FieldList) → list_all is_name (keys_of fs) ≡ true → list_all (λ e. is_field_key e.0) (pairs_of fs) ≡ true
named_fields [] h = refl
named_fields (f ∷ fs) h = let q = parts (is_name f.0) (list_all is_name (keys_of fs)) h in both _ _ q.0 (named_fields fs q.1)

pub fields_policy : (class : List ℕ) (fs : FieldList) → is_name class ≡ true → length class ≤ LONGEST → HasFieldNames fs → length fs < 2 ^ 64 → AreWhole ROOM (row_of (pairs_of fs)) → IsPolicy class (pairs_of fs)
fields_policy class fs name short names count whole =
    let len = length_pairs fs in
    record { class_name = name; class_short = short; field_names = named_fields fs names.names; count = omega (arith, len, count); apart = apart_fields fs names.distinct; whole = whole }

-- the text that is written of a class and pairs
pub policy_from : (one two new class : List ℕ) (n : ℕ) (es : EntryList) → one ≡ policy_head class n → two ≡ one ++ pairs_text (row_of es) → new ≡ two ++ 125 ∷ [] → n ≡ length es → new ≡ policy_text class es
policy_from one two new class n es a b c e =
    c ∙ ap (λ u. u ++ 125 ∷ []) (b ∙ ap (λ u. u ++ pairs_text (row_of es)) (a ∙ ap (policy_head class) e)) ∙ append_assoc (policy_head class (length es)) (pairs_text (row_of es)) (125 ∷ [])
