-- What lifting an entry gives.
use Rattle.std.proofs.Common.{◌≡◌, ◌≢◌, ◌⊎◌, inl, inr, ℕ, zero, suc, ◌^◌, ◌<◌, Bool, true, false, cond, List, [], ◌∷◌, length, Option, Some, None, refl, sym, ap, subst, ◌∙◌, arith}
use Rattle.std.specs.Prelude.{◌&&◌, nat_eq, replicate, zip}
use Rattle.std.specs.List.{flat_map}
use Rattle.std.proofs.lemmas.Bool.{true≢false}
use Rattle.std.proofs.lemmas.List.{length-replicate}
use Rattle.std.specs.Str.{bytes_eq}
use Rattle.std.proofs.lemmas.Slice.Zip.{firsts-zip, seconds-zip}
use Rattle.resin_base.specs.FileStore.{entry_of}
use Rattle.resin_base.specs.declared.files.Entry.{Entry}
use Rattle.resin_frozen.proofs.Numbers.{and_left, and_right, both, text_same, text_is, some_if}
use Rattle.resin_frozen.proofs.Parts.{bound, on}
use Rattle.resin_shadow.specs.Marks.{TextSet, Marks, AreMarks}
use Rattle.resin_shadow.specs.Shadows.{written1, written2, Spells}
use Rattle.resin_shadow.specs.Answers.{Decodes}
use Rattle.resin_shadow.proofs.First_met.{number_from, number_same}
use Rattle.resin_shadow.proofs.Versions.{has_one_version}
use Rattle.resin_shadow.proofs.Whole.{read1_written, read2_written, spells_one}
use Rattle.resin_store.specs.Entries.{Marked, plain_bytes, marks, unmarked, Version, First, Second, written, LabelledEntry, Good, Bad, plain, read_in, fitting, spelled_in, lifted_by, lift, marks_in}
use Rattle.resin_store.specs.Laws.{KeepsEntries, IsHeld, Tells, SpellsNone, LiftsGood, LiftsBad, LiftsWritten}
use Rattle.resin_store.proofs.Sound.{marks_read1, marks_read2, no_marks}

-- ---- bytes and their sets
plain_unmarked : (bytes : List ℕ) → plain_bytes (unmarked bytes) ≡ bytes
plain_unmarked [] = refl
plain_unmarked (b ∷ bytes) = ap (λ bs. b ∷ bs) (plain_unmarked bytes)

marks_unmarked : (bytes : List ℕ) → marks (unmarked bytes) ≡ replicate (length bytes) []
marks_unmarked [] = refl
marks_unmarked (b ∷ bytes) = ap (λ (v : Marks). [] ∷ v) (marks_unmarked bytes)

zip_parts : (d : Marked) → zip (plain_bytes d) (marks d) ≡ d
zip_parts [] = refl
zip_parts (b ∷ d) = ap (λ ds. b ∷ ds) (zip_parts d)

same_length : (d : Marked) → length (marks d) ≡ length (plain_bytes d)
same_length [] = refl
same_length (b ∷ d) = ap suc (same_length d)

abbrev head_of : Marks → TextSet
head_of [] = []
head_of (s ∷ v) = s

abbrev tail_of : Marks → Marks
tail_of [] = []
tail_of (s ∷ v) = v

head_none : (s : TextSet) (v w : Marks) → s ∷ v ≡ [] ∷ w → (s ≡ []) × (v ≡ w)
head_none s v w e = (ap head_of e, ap tail_of e)

unmarked_is : (d : Marked) → marks d ≡ replicate (length (marks d)) [] → d ≡ unmarked (plain_bytes d)
unmarked_is [] e = refl
unmarked_is (b ∷ d) e =
    let h = head_none b.1 (marks d) (replicate (length (marks d)) []) e in
    ap (λ (s : TextSet). (b.0, s) ∷ d) h.0 ∙ ap (λ ds. (b.0, []) ∷ ds) (unmarked_is d h.1)

-- ---- the empty shadow text
no_texts : (n : ℕ) → flat_map (λ (s : TextSet). s) (replicate n []) ≡ []
no_texts zero = refl
no_texts (suc n) = no_texts n

nothing_written : (n : ℕ) → written2 (replicate n []) ≡ []
nothing_written n = rw (no_texts n) refl

no_bytes : (x : List ℕ) → length x ≡ 0 → x ≡ []
no_bytes [] e = refl
no_bytes (b ∷ x) e = absurd (omega arith)

-- what the empty text spells has no policies
nothing_spelled : (v : Marks) → AreMarks v → Spells [] v → v ≡ replicate (length v) []
nothing_spelled v h e =
    spells_one [] v (replicate (length v) []) (omega arith) h (no_marks (length v) h.count) (sym (length-replicate (length v) [])) e (inr (sym (nothing_written (length v))))

nat_false : (n : ℕ) → (n ≡ 0 → ⊥) → nat_eq n 0 ≡ false
nat_false n z = by (nat_eq n 0) refl
  where
    by : (b : Bool) → nat_eq n 0 ≡ b → nat_eq n 0 ≡ false
    by true e = absurd (z (number_from n 0 e))
    by false e = e

-- ---- lifting, by whether the shadow text is empty
pub lift_empty : (e : Entry) → length e.shadow ≡ 0 → lift e ≡ Good (unmarked e.bytes) Second
unfolding lift
lift_empty e z =
    ap (λ n. cond (nat_eq n 0) (Good (unmarked e.bytes) Second) (lifted_by e (spelled_in Second (length e.bytes) e.shadow) (spelled_in First (length e.bytes) e.shadow))) z

pub lift_some : (e : Entry) → (length e.shadow ≡ 0 → ⊥) → lift e ≡ lifted_by e (spelled_in Second (length e.bytes) e.shadow) (spelled_in First (length e.bytes) e.shadow)
unfolding lift
lift_some e z =
    ap (λ b. cond b (Good (unmarked e.bytes) Second) (lifted_by e (spelled_in Second (length e.bytes) e.shadow) (spelled_in First (length e.bytes) e.shadow))) (nat_false (length e.shadow) z)

-- ---- what is spelled in one version
record Spelled (v : Version) (len : ℕ) (x : List ℕ) (w : Marks) : Type 0 where
  read : read_in v x ≡ Some w
  length_is : length w ≡ len
  text_is : x ≡ written v w

spelled_parts : (v : Version) (len : ℕ) (x : List ℕ) (w : Marks) → spelled_in v len x ≡ Some w → Spelled v len x w
unfolding fitting
spelled_parts v len x w e =
    let p = bound (read_in v x) (fitting v len x) w e in
    let q = some_if (nat_eq (length p.0) len && bytes_eq x (written v p.0)) p.0 w p.2 in
    let n = and_left (nat_eq (length p.0) len) (bytes_eq x (written v p.0)) q.0 in
    let t = and_right (nat_eq (length p.0) len) (bytes_eq x (written v p.0)) q.0 in
    record {
      read = p.1 ∙ ap Some q.1;
      length_is = ap length (sym q.1) ∙ number_from (length p.0) len n;
      text_is = text_is x (written v p.0) t ∙ ap (written v) q.1;
    }

spelled_whole : (v : Version) (len : ℕ) (x : List ℕ) (w : Marks) → Spelled v len x w → spelled_in v len x ≡ Some w
unfolding fitting
spelled_whole v len x w s =
    on (fitting v len x) s.read
    ∙ ap (λ b. cond b (Some w) None) (both (nat_eq (length w) len) (bytes_eq x (written v w)) (number_same (length w) len s.length_is) (ap (bytes_eq x) (sym s.text_is) ∙ text_same x))

marks_read : (v : Version) (x : List ℕ) (w : Marks) → read_in v x ≡ Some w → AreMarks w
marks_read First x w e = marks_read1 x w e
marks_read Second x w e = marks_read2 x w e

read_written : (v : Version) (x : List ℕ) (w : Marks) → length x < 2 ^ 64 → AreMarks w → x ≡ written v w → x ≢ [] → read_in v x ≡ Some w
read_written First x w small h e some = read1_written x w small h e some
read_written Second x w small h e some = read2_written x w small h e some

-- ---- a keeper holds what it held
plain_zip : (bytes shadow : List ℕ) (v : Version) (w : Marks) → Spelled v (length bytes) shadow w → plain (Good (zip bytes w) v) ≡ entry_of bytes shadow
plain_zip bytes shadow v w s =
    ap (λ bs. entry_of bs (written v (marks (zip bytes w)))) (firsts-zip bytes w s.length_is)
    ∙ ap (λ m. entry_of bytes (written v m)) (seconds-zip bytes w s.length_is)
    ∙ ap (entry_of bytes) (sym s.text_is)

plain_lifted : (bytes shadow : List ℕ) (o p : Option Marks) → spelled_in Second (length bytes) shadow ≡ o → spelled_in First (length bytes) shadow ≡ p → plain (lifted_by (entry_of bytes shadow) o p) ≡ entry_of bytes shadow
plain_lifted bytes shadow (Some w) p e f = plain_zip bytes shadow Second w (spelled_parts Second (length bytes) shadow w e)
plain_lifted bytes shadow None (Some w) e f = plain_zip bytes shadow First w (spelled_parts First (length bytes) shadow w f)
plain_lifted bytes shadow None None e f = refl

number_is : (n : ℕ) (b : Bool) → nat_eq n 0 ≡ b → (n ≡ 0) ⊎ (n ≡ 0 → ⊥)
number_is n true e = inl (number_from n 0 e)
number_is n false e = inr (λ z. true≢false (sym (number_same n 0 z) ∙ e))

abbrev empty_or : (e : Entry) → (length e.shadow ≡ 0) ⊎ (length e.shadow ≡ 0 → ⊥)
empty_or e = number_is (length e.shadow) (nat_eq (length e.shadow) 0) refl

pub keeps_entries : KeepsEntries
keeps_entries e = by (empty_or e)
  where
    by : (length e.shadow ≡ 0) ⊎ (length e.shadow ≡ 0 → ⊥) → plain (lift e) ≡ e
    by (inl z) =
        ap plain (lift_empty e z)
        ∙ ap (λ bs. entry_of bs (written2 (marks (unmarked e.bytes)))) (plain_unmarked e.bytes)
        ∙ ap (λ x. entry_of e.bytes x) (ap written2 (marks_unmarked e.bytes) ∙ nothing_written (length e.bytes) ∙ sym (no_bytes e.shadow z))
    by (inr z) = ap plain (lift_some e z) ∙ plain_lifted e.bytes e.shadow _ _ refl refl

-- ---- good exactly by what is told
abbrev marked_of : LabelledEntry → Marked
marked_of (Good d v) = d
marked_of (Bad bytes shadow) = []

abbrev version_of : LabelledEntry → Version
version_of (Good d v) = v
version_of (Bad bytes shadow) = Second

abbrev is_first : Version → Bool
is_first First = true
is_first Second = false

abbrev is_good : LabelledEntry → Bool
is_good (Good d v) = true
is_good (Bad bytes shadow) = false

good_bad : (d : Marked) (v : Version) (bytes shadow : List ℕ) → Good d v ≡ Bad bytes shadow → ⊥
good_bad d v bytes shadow e = true≢false (ap is_good e)

tells_same : (e : Entry) (d d' : Marked) (v v' : Version) → Good d v ≡ Good d' v' → Tells e d v → Tells e d' v'
tells_same e d d' v v' same h = subst (λ x. Tells e (marked_of x) (version_of x)) same h

tells_zip : (e : Entry) (v : Version) (w : Marks) → (e.shadow ≡ [] → v ≡ Second) → Spelled v (length e.bytes) e.shadow w → Tells e (zip e.bytes w) v
tells_zip e v w empty s =
    let m : marks (zip e.bytes w) ≡ w = seconds-zip e.bytes w s.length_is in
    record {
      bytes_are = firsts-zip e.bytes w s.length_is;
      are_marks = subst AreMarks (sym m) (marks_read v e.shadow w s.read);
      spells = s.text_is ∙ ap (written v) (sym m);
      empty = empty;
    }

lifted_tells : (e : Entry) (d : Marked) (v : Version) (o p : Option Marks) → (e.shadow ≢ []) → spelled_in Second (length e.bytes) e.shadow ≡ o → spelled_in First (length e.bytes) e.shadow ≡ p → lifted_by e o p ≡ Good d v → Tells e d v
lifted_tells e d v (Some w) p some f g is = tells_same e _ d _ v is (tells_zip e Second w (λ x. refl) (spelled_parts Second (length e.bytes) e.shadow w f))
lifted_tells e d v None (Some w) some f g is = tells_same e _ d _ v is (tells_zip e First w (λ x. absurd (some x)) (spelled_parts First (length e.bytes) e.shadow w g))
lifted_tells e d v None None some f g is = absurd (good_bad d v e.bytes e.shadow (sym is))

not_empty : (e : Entry) → (length e.shadow ≡ 0 → ⊥) → e.shadow ≢ []
not_empty e z x = z (ap length x)

good_tells : (e : Entry) (d : Marked) (v : Version) → IsHeld e → lift e ≡ Good d v → Tells e d v
good_tells e d v held is = by (empty_or e)
  where
    by : (length e.shadow ≡ 0) ⊎ (length e.shadow ≡ 0 → ⊥) → Tells e d v
    by (inl z) =
        let m = marks_unmarked e.bytes in
        tells_same e (unmarked e.bytes) d Second v (sym (lift_empty e z) ∙ is) (record {
          bytes_are = plain_unmarked e.bytes;
          are_marks = subst AreMarks (sym m) (no_marks (length e.bytes) held.bytes);
          spells = no_bytes e.shadow z ∙ sym (ap written2 m ∙ nothing_written (length e.bytes));
          empty = λ x. refl;
        })
    by (inr z) = lifted_tells e d v _ _ (not_empty e z) refl refl (sym (lift_some e z) ∙ is)

-- ---- and what is told is found
length_of : (e : Entry) (d : Marked) → plain_bytes d ≡ e.bytes → length (marks d) ≡ length e.bytes
length_of e d h = same_length d ∙ ap length h

zip_of : (e : Entry) (d : Marked) → plain_bytes d ≡ e.bytes → zip e.bytes (marks d) ≡ d
zip_of e d h = ap (λ bs. zip bs (marks d)) (sym h) ∙ zip_parts d

found_in : (e : Entry) (d : Marked) (v : Version) → IsHeld e → Tells e d v → e.shadow ≢ [] → spelled_in v (length e.bytes) e.shadow ≡ Some (marks d)
found_in e d v held h some =
    spelled_whole v (length e.bytes) e.shadow (marks d) (record {
      read = read_written v e.shadow (marks d) held.shadow h.are_marks h.spells some;
      length_is = length_of e d h.bytes_are;
      text_is = h.spells;
    })

-- a text of the first version isn't one of the second
none_second : (len : ℕ) (x : List ℕ) (w : Marks) (o : Option Marks) → x ≢ [] → x ≡ written1 w → spelled_in Second len x ≡ o → o ≡ None
none_second len x w None some e f = refl
none_second len x w (Some u) some e f = absurd (some (has_one_version x w u e (spelled_parts Second len x u f).text_is))

tells_good : (e : Entry) (d : Marked) (v : Version) → IsHeld e → Tells e d v → lift e ≡ Good d v
tells_good e d v held h = by (empty_or e)
  where
    some : (v : Version) → Tells e d v → (length e.shadow ≡ 0 → ⊥) → lifted_by e (spelled_in Second (length e.bytes) e.shadow) (spelled_in First (length e.bytes) e.shadow) ≡ Good d v
    some Second h z =
        ap (λ o. lifted_by e o (spelled_in First (length e.bytes) e.shadow)) (found_in e d Second held h (not_empty e z))
        ∙ ap (λ ds. Good ds Second) (zip_of e d h.bytes_are)
    some First h z =
        ap (λ o. lifted_by e o (spelled_in First (length e.bytes) e.shadow)) (none_second (length e.bytes) e.shadow (marks d) _ (not_empty e z) h.spells refl)
        ∙ ap (λ o. lifted_by e None o) (found_in e d First held h (not_empty e z))
        ∙ ap (λ ds. Good ds First) (zip_of e d h.bytes_are)

    none : (v : Version) → Tells e d v → e.shadow ≡ [] → Good (unmarked e.bytes) Second ≡ Good d v
    none Second h x =
        let u : d ≡ unmarked (plain_bytes d) = unmarked_is d (nothing_spelled (marks d) h.are_marks (inr (sym x ∙ h.spells))) in
        ap (λ ds. Good ds Second) (sym (u ∙ ap unmarked h.bytes_are))
    none First h x = absurd (true≢false (ap is_first (h.empty x)))

    by : (length e.shadow ≡ 0) ⊎ (length e.shadow ≡ 0 → ⊥) → lift e ≡ Good d v
    by (inl z) = lift_empty e z ∙ none v h (no_bytes e.shadow z)
    by (inr z) = lift_some e z ∙ some v h z

pub lifts_good : LiftsGood
lifts_good e d v held = (good_tells e d v held, tells_good e d v held)

-- ---- damaged exactly where nothing is told
spelled_good : (e : Entry) (w : Marks) → IsHeld e → AreMarks w → Spells e.shadow w → length w ≡ length e.bytes → (d : Marked) × (v : Version) × (lift e ≡ Good d v)
spelled_good e w held h s len = by (empty_or e) s
  where
    m : marks (zip e.bytes w) ≡ w
    m = seconds-zip e.bytes w len

    told : (v : Version) → e.shadow ≡ written v w → (e.shadow ≡ [] → v ≡ Second) → lift e ≡ Good (zip e.bytes w) v
    told v x empty = tells_good e (zip e.bytes w) v held (record {
      bytes_are = firsts-zip e.bytes w len;
      are_marks = subst AreMarks (sym m) h;
      spells = x ∙ ap (written v) (sym m);
      empty = empty;
    })

    by : (length e.shadow ≡ 0) ⊎ (length e.shadow ≡ 0 → ⊥) → Spells e.shadow w → (d : Marked) × (v : Version) × (lift e ≡ Good d v)
    by (inl z) s = (unmarked e.bytes, Second, lift_empty e z)
    by (inr z) (inl x) = (zip e.bytes w, First, told First x (λ y. absurd (not_empty e z y)))
    by (inr z) (inr x) = (zip e.bytes w, Second, told Second x (λ y. refl))

spells_told : (x : List ℕ) (v : Version) (w : Marks) → x ≡ written v w → Spells x w
spells_told x First w e = inl e
spells_told x Second w e = inr e

pub lifts_bad : LiftsBad
lifts_bad e held = (there, back)
  where
    there : lift e ≡ Bad e.bytes e.shadow → SpellsNone e
    there is w h s len = let g = spelled_good e w held h s len in good_bad g.0 g.1 e.bytes e.shadow (sym g.2 ∙ is)

    cases : SpellsNone e → (x : LabelledEntry) → lift e ≡ x → x ≡ Bad e.bytes e.shadow
    cases none (Good d v) is =
        let t = good_tells e d v held is in
        absurd (none (marks d) t.are_marks (spells_told e.shadow v (marks d) t.spells) (length_of e d t.bytes_are))
    cases none (Bad bytes shadow) is =
        let p : entry_of bytes shadow ≡ e = ap plain (sym is) ∙ keeps_entries e in
        ap (λ (x : Entry). Bad x.bytes x.shadow) p

    back : SpellsNone e → lift e ≡ Bad e.bytes e.shadow
    back none = cases none (lift e) refl

-- ---- what is written
pub lifts_written : LiftsWritten
lifts_written d h small =
    tells_good (plain (Good d Second)) d Second
    (record { bytes = subst (λ n. n < 2 ^ 64) (same_length d) h.count; shadow = small })
    (record { bytes_are = refl; are_marks = h; spells = refl; empty = λ x. refl })

-- ---- the sets of a good entry
pub marks_found : (e : Entry) (w : Marks) → IsHeld e → AreMarks w → Spells e.shadow w → length w ≡ length e.bytes → Some w ≡ marks_in (lift e)
marks_found e w held h s len =
    let g = spelled_good e w held h s len in
    let t = good_tells e g.0 g.1 held g.2 in
    let same : w ≡ marks g.0 = spells_one e.shadow w (marks g.0) held.shadow h t.are_marks (len ∙ sym (length_of e g.0 t.bytes_are)) s (spells_told e.shadow g.1 (marks g.0) t.spells) in
    ap Some same ∙ ap marks_in (sym g.2)

pub marks_missing : (e : Entry) → IsHeld e → SpellsNone e → None ≡ marks_in (lift e)
marks_missing e held none = ap marks_in (sym ((lifts_bad e held).1 none))

pub found_marks : (e : Entry) (len : ℕ) (x : List ℕ) (found : Option Marks) → IsHeld e → len ≡ length e.bytes → x ≡ e.shadow → ((w : Marks) → found ≡ Some w → AreMarks w) → Decodes len x found → found ≡ marks_in (lift e)
found_marks e len x (Some w) held n s are d = marks_found e w held (are w refl) (subst (λ y. Spells y w) s d.0) (d.1 ∙ n)
found_marks e len x None held n s are d = marks_missing e held (λ w h y l. d w h (subst (λ z. Spells z w) (sym s) y) (l ∙ sym n))
