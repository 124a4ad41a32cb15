-- Objects and the classes that they are of.
use Rattle.std.proofs.Common.{◌≡◌, ℕ, ◌<◌, ◌≤◌, List, [], ◌∷◌, length, take, Bool, true, false, ◌||◌, ◌&&◌, nat_lt, nat_le, nat_eq, Option, Some, None, refl, sym, ap, ◌∙◌, arith}
use Rattle.std.specs.Prelude.{◌↔◌, IsTrue}
use Rattle.std.specs.List.{list_any}
use Rattle.std.specs.Option.{option_map_or, option_and_then}
use Rattle.std.proofs.lemmas.Option.{slice_get_past}
use Rattle.std.proofs.lemmas.Bool.Decides.{nat_tests}
use Rattle.resin_meaning_forms.specs.Under.tree.declared.declaration.ClassDecl.{ClassDecl}
use Rattle.resin_meaning_forms.specs.Under.heap.Classes.{Table, is_a, line, line_within, parent_in, find_class}
use Rattle.resin_meaning_forms.specs.Under.heap.Objects.{IsObject, class_at}
use Rattle.resin_meaning_forms.specs.Under.heap.declared.heap.Object.{Object}
use Rattle.resin_meaning_forms.specs.Under.value.Trees.{object}
use Rattle.resin_meaning_forms.specs.Under.machine.State.{State}
use Rattle.resin_meaning_forms.specs.Under.machine.Objects.{is_object}
use Rattle.resin_meaning_forms.specs.Merges.{is_of_class}
use Rattle.resin_meaning_forms.specs.Operators.{fits}

eq_alone : (c other : ℕ) → nat_eq c other ≡ (nat_eq other c || false)
eq_alone c other = grind (arith, nat_tests)

-- a class that isn't declared is under itself alone
pub is_a_alone : (t : Table) (c other : ℕ) → length t ≤ c → nat_eq c other ≡ is_a t c other
unfolding is_a line line_within
is_a_alone t c other le =
    eq_alone c other
    ∙ sym (ap (λ (d : Option ClassDecl). list_any (nat_eq other) (c ∷ option_map_or (line_within c t) (option_and_then (parent_in (take c t)) d) [])) (slice_get_past t c le))

first_true : (o : ℕ) → 0 < o → nat_lt 0 o ≡ true
first_true o lt = grind (arith, nat_tests)

last_true : (o n : ℕ) → o ≤ n → nat_le o n ≡ true
last_true o n le = grind (arith, nat_tests)

pub is_object_true : (h : List Object) (o : ℕ) → IsObject h o → is_object h o ≡ true
is_object_true h o i = λ j. first_true o i.first j && last_true o (length h) i.last j

first_from : (o : ℕ) → nat_lt 0 o ≡ true → 0 < o
first_from o e = grind (arith, nat_tests)

last_from : (o n : ℕ) → nat_le o n ≡ true → o ≤ n
last_from o n e = grind (arith, nat_tests)

false_true : false ≡ true → ⊥
false_true e = cc

pub is_object_from : (h : List Object) (o : ℕ) → is_object h o ≡ true → IsObject h o
is_object_from h o e = by (nat_lt 0 o) (nat_le o (length h)) refl refl e
  where
    by : (a b : Bool) → nat_lt 0 o ≡ a → nat_le o (length h) ≡ b → (a && b) ≡ true → IsObject h o
    by true true p q k = record { first = first_from o p; last = last_from o (length h) q }
    by true false p q k = absurd (false_true k)
    by false b p q k = absurd (false_true k)

-- what a test for an object says
pub tested_object : (h : List Object) (o : ℕ) (b : Bool) → (IsTrue b ↔ IsObject h o) → is_object h o ≡ b
tested_object h o true t = is_object_true h o (t.0 refl)
tested_object h o false t = by (is_object h o) refl
  where
    by : (a : Bool) → is_object h o ≡ a → is_object h o ≡ false
    by true e = absurd (false_true (t.1 (is_object_from h o e)))
    by false e = e

-- ---- a value that is an object fits a class by its own

pub fits_none : (name : List ℕ) (o : ℕ) (m : State) → is_object m.heap o ≡ false → fits name (object o) m ≡ false
fits_none name o m e = ap (λ b. b && option_map_or (λ c. is_a m.classes (class_at m.heap o) c) (find_class m.classes name) false) e

and_false : (b : Bool) → (b && false) ≡ false
and_false true = refl
and_false false = refl

pub fits_unknown : (name : List ℕ) (o : ℕ) (m : State) → find_class m.classes name ≡ None → fits name (object o) m ≡ false
fits_unknown name o m e = ap (λ x. is_object m.heap o && option_map_or (λ c. is_a m.classes (class_at m.heap o) c) x false) e ∙ and_false (is_object m.heap o)

pub fits_class : (name : List ℕ) (o : ℕ) (m : State) (c : ℕ) → is_object m.heap o ≡ true → find_class m.classes name ≡ Some c → fits name (object o) m ≡ is_a m.classes (class_at m.heap o) c
fits_class name o m c e h = λ i. e i && option_map_or (λ d. is_a m.classes (class_at m.heap o) d) (h i) false

pub of_no_class : (class o : ℕ) (m : State) → is_object m.heap o ≡ false → is_of_class class m o ≡ false
of_no_class class o m e = ap (λ b. b && is_a m.classes (class_at m.heap o) class) e

pub of_class : (class o : ℕ) (m : State) → is_object m.heap o ≡ true → is_of_class class m o ≡ is_a m.classes (class_at m.heap o) class
of_class class o m e = ap (λ b. b && is_a m.classes (class_at m.heap o) class) e
