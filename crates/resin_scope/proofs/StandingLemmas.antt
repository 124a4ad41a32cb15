-- Putting a header last, and dropping those that were replaced.
use Rattle.std.proofs.Common.{◌≡◌, ℕ, ◌+◌, ◌<◌, ◌≤◌, Bool, true, false, cond, List, [], ◌∷◌, ◌++◌, map, filter, Option, Some, None, refl, sym, ap, subst, ◌∙◌, arith}
use Rattle.std.specs.Prelude.{not, ◌&&◌, nat_le}
use Rattle.std.specs.Str.{str_to_ascii_lowercase}
use Rattle.std.specs.Ordering.{eq_by_cmp}
use Rattle.std.specs.Cmp.Lexicographic.{texts_ties, bytes_decides}
use Rattle.std.specs.FinMap.{get, insert, empty, get-insert, get-empty}
use Rattle.std.proofs.lemmas.List.{map-append}
use Rattle.std.proofs.lemmas.List.Elements.{filter-append}
use Rattle.std.proofs.lemmas.Bool.Decides.{nat_tests}
use Rattle.resin_value.specs.Under.bytes.declared.header.Header.{Header}
use Rattle.resin_scope.specs.Names.{Named, name_order}
use Rattle.resin_scope.specs.Pages.{is_same_name, other_headers, headers_with}
use Rattle.resin_scope.specs.Standing.{is_from, stands, standing, since_then, AreSlots, AreCounted}
use Rattle.resin_scope.specs.declared.headers.Slot.{Slot}
use Rattle.resin_scope.proofs.NameLemmas.{order}

abbrev pub header_of : Slot → Header
header_of s = s.header

not_from : (number from : ℕ) → number < from → nat_le from number ≡ false
not_from number from h = grind (arith, nat_tests)

from_here : (number from : ℕ) → from ≤ number → nat_le from number ≡ true
from_here number from h = grind (arith, nat_tests)

-- ---- a sweep
-- what passes a test twice is what passes it once
filter_twice : {X : Type 0} (p : X → Bool) (xs : List X) → filter p (filter p xs) ≡ filter p xs
filter_twice p [] = refl
filter_twice {X = X} p (x ∷ xs) = by (p x) refl (filter_twice p xs)
  where
    by : (b : Bool) → p x ≡ b → filter p (filter p xs) ≡ filter p xs → filter p (cond b (x ∷ filter p xs) (filter p xs)) ≡ cond b (x ∷ filter p xs) (filter p xs)
    by true e rest = ap (λ b. cond b (x ∷ filter p (filter p xs)) (filter p (filter p xs))) e ∙ ap (λ ys. x ∷ ys) rest
    by false e rest = rest

-- the slots that are left are slots
slots_filter : (p : Slot → Bool) (next : ℕ) (ss : List Slot) → AreSlots next ss → AreSlots next (filter p ss)
slots_filter p next [] h = tt
slots_filter p next (s ∷ ss) h = by (p s) (slots_filter p next ss h.2)
  where
    by : (b : Bool) → AreSlots next (filter p ss) → AreSlots next (cond b (s ∷ filter p ss) (filter p ss))
    by true rest = (h.0, h.1, rest)
    by false rest = rest

pub swept : (since : Named ℕ) (next : ℕ) (slots left : List Slot) → left ≡ filter (stands since) slots → AreCounted since next slots → AreCounted since next left
swept since next slots left is h =
    subst (λ ss. AreCounted since next ss) (sym is) (record { are_slots = slots_filter (stands since) next slots h.are_slots; none_above = h.none_above })

pub standing_swept : (since : Named ℕ) (slots left : List Slot) → left ≡ filter (stands since) slots → standing since left ≡ standing since slots
standing_swept since slots left is = ap (standing since) is ∙ ap (map header_of) (filter_twice (stands since) slots)

-- ---- a header that is put last
slots_more : (next : ℕ) (ss : List Slot) (s : Slot) → s.key.items ≡ str_to_ascii_lowercase s.header.name → s.number ≡ next → AreSlots next ss → AreSlots (next + 1) (ss ++ s ∷ [])
slots_more next [] s key number h = (key, omega (arith, number), tt)
slots_more next (z ∷ ss) s key number h = (h.0, omega (arith, h.1), slots_more next ss s key number h.2)

-- the headers of one name that were put are replaced by a slot, and no others
module _ (since : Named ℕ) (s : Slot) (name : List ℕ) (key : s.key.items ≡ str_to_ascii_lowercase name) where
  abbrev after : Named ℕ
  after = insert since s.key.items s.number

  same : (z : Slot) → z.key.items ≡ str_to_ascii_lowercase z.header.name → eq_by_cmp name_order z.key.items s.key.items ≡ is_same_name z.header.name name
  same z e =
      ap (λ k. eq_by_cmp name_order k s.key.items) e ∙ ap (λ k. eq_by_cmp name_order (str_to_ascii_lowercase z.header.name) k) key
      ∙ sym (texts_ties (str_to_ascii_lowercase z.header.name) (str_to_ascii_lowercase name))

  stands_after : (z : Slot) → z.key.items ≡ str_to_ascii_lowercase z.header.name → z.number < s.number → stands after z ≡ (not (is_same_name z.header.name name) && stands since z)
  stands_after z e below =
      ap (is_from z.number) (get-insert order since s.key.items s.number z.key.items ∙ ap (λ b. cond b (Some s.number) (get since z.key.items)) (same z e))
      ∙ by (is_same_name z.header.name name)
    where
      by : (b : Bool) → is_from z.number (cond b (Some s.number) (get since z.key.items)) ≡ (not b && stands since z)
      by true = not_from z.number s.number below
      by false = refl

  others : (zs : List Slot) → AreSlots s.number zs → map header_of (filter (stands after) zs) ≡ other_headers name (map header_of (filter (stands since) zs))
  others [] h = refl
  others (z ∷ zs) h =
      ap (λ b. map header_of (cond b (z ∷ filter (stands after) zs) (filter (stands after) zs))) (stands_after z h.0 h.1)
      ∙ by (is_same_name z.header.name name) (stands since z) (others zs h.2) ∙ out (stands since z)
    where
      by : (b a : Bool) → map header_of (filter (stands after) zs) ≡ other_headers name (map header_of (filter (stands since) zs))
          → map header_of (cond (not b && a) (z ∷ filter (stands after) zs) (filter (stands after) zs))
          ≡ cond a (cond (not b) (z.header ∷ other_headers name (map header_of (filter (stands since) zs))) (other_headers name (map header_of (filter (stands since) zs)))) (other_headers name (map header_of (filter (stands since) zs)))
      by true true rest = rest
      by true false rest = rest
      by false true rest = ap (λ hs. z.header ∷ hs) rest
      by false false rest = rest

      out : (a : Bool)
          → cond a (cond (not (is_same_name z.header.name name)) (z.header ∷ other_headers name (map header_of (filter (stands since) zs))) (other_headers name (map header_of (filter (stands since) zs)))) (other_headers name (map header_of (filter (stands since) zs)))
          ≡ other_headers name (map header_of (cond a (z ∷ filter (stands since) zs) (filter (stands since) zs)))
      out true = refl
      out false = refl

-- a header that stands alone behind others
stands_alone : (since : Named ℕ) (next : ℕ) (slots : List Slot) (s : Slot) (replace : Bool) → AreCounted since next slots → s.number ≡ next → stands (since_then s replace since) s ≡ true
stands_alone since next slots s true h number =
    ap (is_from s.number) (get-insert order since s.key.items s.number s.key.items ∙ ap (λ b. cond b (Some s.number) (get since s.key.items)) (ties s.key.items))
    ∙ from_here s.number s.number (omega arith)
  where
    ties : (k : List ℕ) → eq_by_cmp name_order k k ≡ true
    ties k = sym (texts_ties k k) ∙ (bytes_decides k k).1 refl
stands_alone since next slots s false h number = by (get since s.key.items) refl
  where
    by : (o : Option ℕ) → get since s.key.items ≡ o → is_from s.number o ≡ true
    by None e = refl
    by (Some from) e = let below = h.none_above s.key.items from e in from_here s.number from (omega (arith, below, number))

module _ (since : Named ℕ) (next : ℕ) (slots : List Slot) (s : Slot) (replace : Bool) (later : Named ℕ) (longer : List Slot) (later_is : later ≡ since_then s replace since) (longer_is : longer ≡ slots ++ s ∷ []) (h : AreCounted since next slots) (key : s.key.items ≡ str_to_ascii_lowercase s.header.name) (number : s.number ≡ next) where
  before : (b : Bool) → map header_of (filter (stands (since_then s b since)) slots) ≡ cond b (other_headers s.header.name (standing since slots)) (standing since slots)
  before true = others since s s.header.name key slots (subst (λ n. AreSlots n slots) (sym number) h.are_slots)
  before false = refl

  pub standing_more : standing later longer ≡ headers_with s.header.name s.header.value replace (standing since slots)
  standing_more =
      (λ i. standing (later_is i) (longer_is i))
      ∙ ap (map header_of) (filter-append (stands (since_then s replace since)) slots (s ∷ []))
      ∙ map-append header_of (filter (stands (since_then s replace since)) slots) (filter (stands (since_then s replace since)) (s ∷ []))
      ∙ ap (λ b. map header_of (filter (stands (since_then s replace since)) slots) ++ map header_of (cond b (s ∷ []) [])) (stands_alone since next slots s replace h number)
      ∙ ap (λ hs. hs ++ s.header ∷ []) (before replace)

  by : (b : Bool) (name : List ℕ) (from : ℕ) → cond b (Some s.number) (get since name) ≡ Some from → from ≤ next + 1
  by true name from e = let same : s.number ≡ from = cc in omega (arith, same, number)
  by false name from e = let below = h.none_above name from e in omega (arith, below)

  began : (b : Bool) (name : List ℕ) (from : ℕ) → get (since_then s b since) name ≡ Some from → from ≤ next + 1
  began true name from e = by (eq_by_cmp name_order name s.key.items) name from (sym (get-insert order since s.key.items s.number name) ∙ e)
  began false name from e = let below = h.none_above name from e in omega (arith, below)

  pub counted_more : AreCounted later (next + 1) longer
  counted_more =
      subst (λ m. AreCounted m (next + 1) longer) (sym later_is)
      (subst (λ ss. AreCounted (since_then s replace since) (next + 1) ss) (sym longer_is) (record { are_slots = slots_more next slots s key number h.are_slots; none_above = began replace }))

-- no headers
pub counted_new : (since : Named ℕ) (slots : List Slot) → since ≡ empty → slots ≡ [] → AreCounted since 0 slots
counted_new since slots new none = record {
  are_slots = subst (AreSlots 0) (sym none) tt;
  none_above = λ name from e. absent name from (sym (ap (λ m. get m name) new ∙ get-empty name_order name) ∙ e);
}
  where
    absent : (name : List ℕ) (from : ℕ) → None ≡ Some from → from ≤ 0
    absent name from e = cc
