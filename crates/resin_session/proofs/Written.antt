-- What has been written of an array, entry by entry.
use Rattle.std.proofs.Common.{◌≡◌, ℕ, zero, suc, ◌+◌, ◌<◌, ◌≤◌, Bool, true, false, List, [], ◌∷◌, ◌++◌, length, take, slice_get, get_or, Some, Ok, Err, refl, sym, ap, subst, ◌∙◌, arith, append_assoc, add-one, length-append}
use Rattle.std.specs.Prelude.{◌&&◌}
use Rattle.std.specs.List.{list_all, AllByRecursion}
use Rattle.std.proofs.lemmas.List.{flat_map_more, take_all}
use Rattle.std.proofs.lemmas.List.Folds.{length-flat_map-take}
use Rattle.resin_value.specs.Under.label.Sets.{empty as no_labels}
use Rattle.resin_value.specs.Under.lstr.declared.limits.TheConstants.{LONGEST}
use Rattle.resin_value.specs.Under.lstr.Texts.{Text, carrying}
use Rattle.resin_value.specs.Under.lstr.Faults.{GivesText}
use Rattle.resin_value.specs.Under.lstr.declared.text.TextFault.{TextFault}
use Rattle.resin_value.specs.Under.lstr.declared.text.TextFault.TheVariants as l
use Rattle.resin_value.specs.declared.key.Key.{Key}
use Rattle.resin_value.specs.Trees.{Tree}
use Rattle.resin_value.specs.Arrays.{EntryList}
use Rattle.resin_value.specs.Changes.{AreLawful, IsApart}
use Rattle.resin_session.specs.Texts.{is_storable, head_text, entry_text, session_text}
use Rattle.resin_session.specs.Sessions.{IsInRange, IsKey, IsKept}
use Rattle.resin_session.specs.Answers.{fault_of, GivesSession}
use Rattle.resin_session.proofs.Basics.{both, from_some, none_some}

parts : (a b : Bool) → (a && b) ≡ true → (a ≡ true) × (b ≡ true)
parts true b h = (refl, h)
parts false b h = absurd (cc)

behind : (b : Bool) {c : Bool} → c ≡ false → (b && c) ≡ false
behind true h = h
behind false h = refl

-- ---- one more item
more_suc : {X : Type 0} (xs : List X) (i : ℕ) (x : X) → slice_get xs i ≡ Some x → take (suc i) xs ≡ take i xs ++ x ∷ []
more_suc [] i x e = absurd (none_some x e)
more_suc (y ∷ xs) zero x e = ap (λ z. z ∷ []) (from_some y x e)
more_suc (y ∷ xs) (suc i) x e = ap (λ zs. y ∷ zs) (more_suc xs i x e)

more : {X : Type 0} (xs : List X) (i : ℕ) (x : X) → slice_get xs i ≡ Some x → take (i + 1) xs ≡ take i xs ++ x ∷ []
more xs i x e = rw add-one (more_suc xs i x e)

there : {X : Type 0} (xs : List X) (i : ℕ) (x : X) → slice_get xs i ≡ Some x → (i < length xs) × (get_or xs i x ≡ x)
there [] i x e = absurd (none_some x e)
there (y ∷ xs) zero x e = (omega arith, from_some y x e)
there (y ∷ xs) (suc i) x e = let h = there xs i x e in (omega (arith, h.0), h.1)

all_last : {X : Type 0} (p : X → Bool) (ys : List X) (x : X) → list_all p ys ≡ true → p x ≡ true → list_all p (ys ++ x ∷ []) ≡ true
all_last p [] x h k = both _ _ k refl
all_last p (y ∷ ys) x h k = let q = parts (p y) (list_all p ys) h in both _ _ q.0 (all_last p ys x q.1 k)

pub all_more : {X : Type 0} (p : X → Bool) (xs : List X) (i : ℕ) (x : X) → slice_get xs i ≡ Some x → list_all p (take i xs) ≡ true → p x ≡ true → list_all p (take (i + 1) xs) ≡ true
all_more p xs i x e h k = ap (list_all p) (more xs i x e) ∙ all_last p (take i xs) x h k

pub all_at : {X : Type 0} (p : X → Bool) (xs : List X) (i : ℕ) (x : X) → slice_get xs i ≡ Some x → list_all p xs ≡ true → p x ≡ true
all_at p [] i x e h = absurd (none_some x e)
all_at p (y ∷ xs) zero x e h = ap p (sym (from_some y x e)) ∙ (parts (p y) (list_all p xs) h).0
all_at p (y ∷ xs) (suc i) x e h = all_at p xs i x e (parts (p y) (list_all p xs) h).1

pub all_fails : {X : Type 0} (p : X → Bool) (xs : List X) (i : ℕ) (x : X) → slice_get xs i ≡ Some x → p x ≡ false → list_all p xs ≡ false
all_fails p [] i x e f = absurd (none_some x e)
all_fails p (y ∷ xs) zero x e f = ap (λ b. b && list_all p xs) (ap p (from_some y x e) ∙ f)
all_fails p (y ∷ xs) (suc i) x e f = behind (p y) (all_fails p xs i x e f)

each_last : {X : Type 0} (P : X → Type 0) (ys : List X) (x : X) → AllByRecursion P ys → P x → AllByRecursion P (ys ++ x ∷ [])
each_last P [] x h k = (k, tt)
each_last P (y ∷ ys) x h k = (h.0, each_last P ys x h.1 k)

-- ---- an entry
-- a text that is the front of another, or stands in it, is too long only where that is
pub fault_within : (e : TextFault) (xs ys : Text) → length xs ≤ length ys → GivesText (Err e) xs → GivesText (Err e) ys
fault_within l.TooLong xs ys le h = omega (arith, h, le)
fault_within l.Memory xs ys le h = tt

abbrev end : Text
end = carrying no_labels (10 ∷ [])

-- what stands before the value, where the parts are known
pub head_is : (head : List ℕ) (c d : ℕ) (w k : List ℕ) (m : ℕ) (t v : Text) → head ≡ head_text c w m → c ≡ d → w ≡ k → m ≡ length t → t ≡ v → carrying no_labels head ≡ carrying no_labels (head_text d k (length v))
head_is head c d w k m t v e f g h i = ap (carrying no_labels) (e ∙ (λ j. head_text (f j) (g j) (h j)) ∙ ap (λ u. head_text d k (length u)) i)

pub joined : (out h t : Text) → ((out ++ h) ++ t) ++ carrying no_labels (10 ∷ []) ≡ out ++ (h ++ (t ++ carrying no_labels (10 ∷ [])))
joined out h t = append_assoc (out ++ h) t end ∙ append_assoc out h (t ++ end)

pub first_within : (out h t : Text) → length (out ++ h) ≤ length (out ++ (h ++ (t ++ carrying no_labels (10 ∷ []))))
first_within out h t =
    let a = length-append out h in
    let b = length-append out (h ++ (t ++ end)) in
    let c = length-append h (t ++ end) in
    omega (arith, a, b, c)

pub second_within : (out h t : Text) → length ((out ++ h) ++ t) ≤ length (out ++ (h ++ (t ++ carrying no_labels (10 ∷ []))))
second_within out h t =
    let a = ap length (joined out h t) in
    let b = length-append ((out ++ h) ++ t) end in
    omega (arith, a, b)

pub value_within : (out h t : Text) → length t ≤ length (out ++ (h ++ (t ++ carrying no_labels (10 ∷ []))))
value_within out h t =
    let a = second_within out h t in
    let b = length-append (out ++ h) t in
    omega (arith, a, b)

-- ---- entries
-- what a loop over entries has written
pub record SoFar (es : EntryList) (out : Text) : Type 0 where
  pub text : out ≡ session_text es
  pub short : length out ≤ LONGEST
  pub keys : AllByRecursion (λ e. IsInRange e.0) es
  pub values : AllByRecursion (λ e. IsKept e.1) es

pub nothing_yet : SoFar [] []
nothing_yet = record { text = refl; short = omega arith; keys = tt; values = tt }

pub one_more : (es : EntryList) (i : ℕ) (k : Key) (v : Tree) (out new : Text) → slice_get es i ≡ Some (k, v) → SoFar (take i es) out → GivesText (Ok new) (out ++ entry_text (k, v)) → IsInRange k → IsKept v → SoFar (take (i + 1) es) new
one_more es i k v out new e h given key kept =
    let longer = given.0 ∙ ap (λ t. t ++ entry_text (k, v)) h.text ∙ flat_map_more entry_text [] (take i es) (k, v) in
    subst (λ fs. SoFar fs new) (sym (more es i (k, v) e)) (record {
      text = longer;
      short = omega (arith, given.1, ap length given.0);
      keys = each_last (λ e. IsInRange e.0) (take i es) (k, v) h.keys key;
      values = each_last (λ e. IsKept e.1) (take i es) (k, v) h.values kept;
    })

pub entry_fails : (es : EntryList) (i : ℕ) (k : Key) (v : Tree) (out : Text) (f : TextFault) → slice_get es i ≡ Some (k, v) → SoFar (take i es) out → GivesText (Err f) (out ++ entry_text (k, v)) → GivesText (Err f) (session_text es)
entry_fails es i k v out f e h given =
    let p = there es i (k, v) e in
    let a = length-flat_map-take entry_text es i (k, v) p.0 in
    let b = ap (λ x. length (entry_text x)) p.1 in
    let c = length-append out (entry_text (k, v)) in
    let d = ap length h.text in
    fault_within f (out ++ entry_text (k, v)) (session_text es) (omega (arith, a, b, c, d)) given

pub all_entries : (es : EntryList) (i : ℕ) (out : Text) → length es ≤ i → SoFar (take i es) out → SoFar es out
all_entries es i out le h = subst (λ fs. SoFar fs out) (take_all i es le) h

-- ---- a session
keys_are : (es : EntryList) → AreLawful es → AllByRecursion (λ e. IsInRange e.0) es → AllByRecursion (λ e. IsKey e.0) es
keys_are [] h l = tt
keys_are (e ∷ es) h l = ((h.0, l.0), keys_are es h.1 l.1)

pub session_is : (es : EntryList) (t : Text) → GivesText (Ok t) (session_text es) → AreLawful es → IsApart es → AllByRecursion (λ e. IsInRange e.0) es → AllByRecursion (λ e. IsKept e.1) es → GivesSession es (Ok t)
session_is es t given lawful apart keys values =
    (record { text_is = given.0; keys = keys_are es lawful keys; values = values; apart = apart; built = refl }, omega (arith, given.1, ap length given.0))

pub session_fails : (es : EntryList) (f : TextFault) → list_all (λ e. is_storable e.1) es ≡ true → GivesText (Err f) (session_text es) → GivesSession es (Err (fault_of f))
session_fails es l.TooLong h given = (h, given)
session_fails es l.Memory h given = tt
