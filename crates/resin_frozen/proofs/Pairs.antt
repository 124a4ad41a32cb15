-- Pairs put into an array one by one, each at a key that is new there.
use Rattle.std.proofs.Common.{◌≡◌, ℕ, Bool, true, false, cond, List, [], ◌∷◌, ◌++◌, Some, None, refl, sym, ap, subst, ◌∙◌, append_assoc, arith}
use Rattle.std.specs.Prelude.{nat_eq}
use Rattle.std.specs.List.{list_all}
use Rattle.std.specs.Char.{is_ascii_digit}
use Rattle.std.proofs.lemmas.Bool.Decides.{nat_tests}
use Rattle.resin_scan.specs.Bytes.{begins_name}
use Rattle.resin_value.specs.declared.key.Key.{Key}
use Rattle.resin_value.specs.declared.key.Key.TheVariants.{Int, Text}
use Rattle.resin_value.specs.Keys.{key_eq, is_lawful}
use Rattle.resin_value.specs.Trees.{Tree, Row, no_entry, entry}
use Rattle.resin_value.specs.Arrays.{EntryList, Array, row_of, entries_of}
use Rattle.resin_value.specs.Changes.{lookup, put, IsApart, AreLawful}
use Rattle.resin_value.proofs.Keeps.{other_key}
use Rattle.resin_value.proofs.Pairs.{put_last}
use Rattle.resin_frozen.specs.declared.keys.Keys.{Keys}
use Rattle.resin_frozen.specs.declared.keys.Keys.TheVariants.{Lawful, Names}
use Rattle.resin_frozen.specs.Policies.{kept, filled, kept_pairs, is_field_key}
use Rattle.resin_frozen.specs.Reading.{is_fit}
use Rattle.resin_frozen.proofs.Numbers.{and_left, and_right, both, none_some}

some_none : {X : Type 0} (x : X) → Some x ≡ None → ⊥
some_none x e = none_some x (sym e)

-- no key of the row stands among the entries
abbrev pub Free : EntryList → Row → Type 0
Free es no_entry = Unit {0}
Free es (entry k t r) = (lookup k es ≡ None) × Free es r

-- each key of the row is new where it is put
abbrev pub Fresh : Array → Row → Type 0
Fresh a no_entry = Unit {0}
Fresh a (entry k t r) = (lookup k a.entries ≡ None) × Fresh (put k (kept t) a) r

-- each key of the row may stand there
abbrev pub AreFit : Keys → Row → Type 0
AreFit keys no_entry = Unit {0}
AreFit keys (entry k t r) = (is_fit keys k ≡ true) × AreFit keys r

pub row_of-entries_of : (r : Row) → row_of (entries_of r) ≡ r
row_of-entries_of no_entry = refl
row_of-entries_of (entry k t r) = ap (λ s. entry k t s) (row_of-entries_of r)

pub looked_past : (k j : Key) (t : Tree) (es : EntryList) → lookup k ((j, t) ∷ es) ≡ None → (key_eq k j ≡ false) × (lookup k es ≡ None)
looked_past k j t es = by (key_eq k j)
  where
    by : (b : Bool) → cond b (Some t) (lookup k es) ≡ None → (b ≡ false) × (lookup k es ≡ None)
    by true e = absurd (some_none t e)
    by false e = (refl, e)

absent_behind : (j k : Key) (x : Tree) (es : EntryList) → lookup j es ≡ None → key_eq j k ≡ false → lookup j (es ++ (k, x) ∷ []) ≡ None
absent_behind j k x [] h f = ap (λ b. cond b (Some x) None) f
absent_behind j k x ((i, t) ∷ es) h f =
    let p = looked_past j i t es h in
    ap (λ b. cond b (Some t) (lookup j (es ++ (k, x) ∷ []))) p.0 ∙ absent_behind j k x es p.1 f

absent_both : (j k : Key) (x : Tree) (es : EntryList) → lookup j (es ++ (k, x) ∷ []) ≡ None → (lookup j es ≡ None) × (key_eq j k ≡ false)
absent_both j k x [] h = (refl, (looked_past j k x [] h).0)
absent_both j k x ((i, t) ∷ es) h =
    let p = looked_past j i t (es ++ (k, x) ∷ []) h in
    let q = absent_both j k x es p.1 in
    (ap (λ b. cond b (Some t) (lookup j es)) p.0 ∙ q.0, q.1)

free_push : (k : Key) (x : Tree) (es : EntryList) (r : Row) → Free es r → lookup k (entries_of r) ≡ None → Free (es ++ (k, x) ∷ []) r
free_push k x es no_entry h n = tt
free_push k x es (entry j t r) h n =
    let p = looked_past k j t (entries_of r) n in
    (absent_behind j k x es h.0 (other_key k j p.0), free_push k x es r h.1 p.1)

free_pop : (k : Key) (x : Tree) (es : EntryList) (r : Row) → Free (es ++ (k, x) ∷ []) r → Free es r × (lookup k (entries_of r) ≡ None)
free_pop k x es no_entry h = (tt, refl)
free_pop k x es (entry j t r) h =
    let p = absent_both j k x es h.0 in
    let q = free_pop k x es r h.1 in
    ((p.0, q.0), ap (λ b. cond b (Some t) (lookup k (entries_of r))) (other_key j k p.1) ∙ q.1)

pub fresh_from : (a : Array) (r : Row) → Free a.entries r → IsApart (entries_of r) → Fresh a r
fresh_from a no_entry f h = tt
fresh_from a (entry k t r) f h =
    (f.0, fresh_from (put k (kept t) a) r (subst (λ es. Free es r) (sym (put_last k (kept t) a.entries f.0)) (free_push k (kept t) a.entries r f.1 h.0)) h.1)

pub free_empty : (r : Row) → Free [] r
free_empty no_entry = tt
free_empty (entry k t r) = (refl, free_empty r)

pub apart_from : (a : Array) (r : Row) → Fresh a r → Free a.entries r × IsApart (entries_of r)
apart_from a no_entry h = (tt, tt)
apart_from a (entry k t r) h =
    let p = apart_from (put k (kept t) a) r h.1 in
    let q = free_pop k (kept t) a.entries r (subst (λ es. Free es r) (put_last k (kept t) a.entries h.0) p.0) in
    ((h.0, q.0), (q.1, p.1))

pub filled_entries : (a : Array) (r : Row) → Fresh a r → (filled a r).entries ≡ a.entries ++ kept_pairs (entries_of r)
filled_entries a no_entry h = sym (nothing a.entries)
  where
    nothing : (es : EntryList) → es ++ [] ≡ es
    nothing [] = refl
    nothing (e ∷ es) = ap (λ zs. e ∷ zs) (nothing es)
filled_entries a (entry k t r) h =
    filled_entries (put k (kept t) a) r h.1
    ∙ ap (λ es. es ++ kept_pairs (entries_of r)) (put_last k (kept t) a.entries h.0)
    ∙ append_assoc a.entries ((k, kept t) ∷ []) (kept_pairs (entries_of r))

-- ---- keys that may stand there
pub fit_lawful : (r : Row) → AreLawful (entries_of r) → AreFit Lawful r
fit_lawful no_entry h = tt
fit_lawful (entry k t r) h = (h.0, fit_lawful r h.1)

pub lawful_fit : (r : Row) → AreFit Lawful r → AreLawful (entries_of r)
lawful_fit no_entry h = tt
lawful_fit (entry k t r) h = (h.0, lawful_fit r h.1)

no_digit : (b : ℕ) → begins_name b ≡ true → is_ascii_digit b ≡ false
no_digit b h = grind (arith, nat_tests)

name_text : (b : ℕ) (bs : List ℕ) → begins_name b ≡ true → is_lawful (Text (b ∷ bs)) ≡ true
name_text b bs h =
    let zero : nat_eq b 48 ≡ false = grind (arith, nat_tests) in
    let minus : nat_eq b 45 ≡ false = grind (arith, nat_tests) in
    let digit = no_digit b h in
    simp (zero, minus, digit)

pub name_lawful : (k : Key) → is_field_key k ≡ true → is_lawful k ≡ true
name_lawful (Int n) h = refl
name_lawful (Text []) h = absurd (cc)
name_lawful (Text (b ∷ bs)) h = name_text b bs (and_left _ _ h)

pub fit_names : (r : Row) → list_all (λ e. is_field_key e.0) (entries_of r) ≡ true → AreFit Names r
fit_names no_entry h = tt
fit_names (entry k t r) h = let f = and_left (is_field_key k) (list_all (λ e. is_field_key e.0) (entries_of r)) h in
    (both _ _ (name_lawful k f) f, fit_names r (and_right (is_field_key k) (list_all (λ e. is_field_key e.0) (entries_of r)) h))

pub names_fit : (r : Row) → AreFit Names r → list_all (λ e. is_field_key e.0) (entries_of r) ≡ true
names_fit no_entry h = refl
names_fit (entry k t r) h = both _ _ (and_right (is_lawful k) (is_field_key k) h.0) (names_fit r h.1)
