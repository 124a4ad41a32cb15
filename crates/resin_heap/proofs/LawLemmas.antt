-- Proofs of the laws of classes and of objects.
use Rattle.std.proofs.Common.{◌≡◌, ◌≢◌, ℕ, zero, suc, ◌-◌, ◌<◌, Bool, true, false, cond, if◌then◌else◌, List, [], ◌∷◌, ◌++◌, length, set, slice_get, refl, sym, ap, ◌∙◌, arith, is_some, Some, None}
use Rattle.std.specs.Prelude.{nat_eq, ◌||◌}
use Rattle.std.specs.Cmp.Lexicographic.{nat_list_eq_equiv, bytes_decides}
use Rattle.std.specs.List.{AllByRecursion, IsDistinct}
use Rattle.std.specs.Map.{keys_of, lookup, remove_entry}
use Rattle.std.specs.Option.{option_map_or}
use Rattle.std.specs.Str.{bytes_eq}
use Rattle.std.proofs.lemmas.Bool.{false_from_ne_true}
use Rattle.indexmap.specs.IndexMap.{insert_entry}
use Rattle.resin_value.specs.Values.{FieldList}
use Rattle.resin_heap.specs.declared.heap.Object.{Object}
use Rattle.resin_heap.specs.Classes.{Table, parent_of, is_a, methods_of, find_method, method_of, own_properties, properties_of}
use Rattle.resin_heap.specs.Objects.{class_at}
use Rattle.resin_heap.specs.Laws.{ParentsAreSmaller, IsItself, IsWhatItsParentIs, IsNothingElse, OwnMethodsGoFirst, MethodsAreInherited, NoOtherMethods, ParentsPropertiesGoFirst, NoOtherProperties, FindsWhatWasSet, SetsOneField, KeepsPlaces, ForgetsWhatWasUnset, UnsetsOneField, HasItsFields, ChangesOneObject, KeepsClasses}
use Rattle.resin_heap.proofs.Lines.{parent_below, is_a_itself, is_a_step, method_step, properties_step}

-- ---- classes
pub parents_are_smaller : ParentsAreSmaller
parents_are_smaller t c p e = parent_below t c p e

pub is_itself : IsItself
is_itself t c = is_a_itself t c

pub is_what_its_parent_is : IsWhatItsParentIs
is_what_its_parent_is t c p other e = is_a_step t c other ∙ ap (λ o. nat_eq other c || option_map_or (λ p. is_a t p other) o false) e

or_false : (b : Bool) → (b || false) ≡ b
or_false true = refl
or_false false = refl

pub is_nothing_else : IsNothingElse
is_nothing_else t c other e = is_a_step t c other ∙ ap (λ o. nat_eq other c || option_map_or (λ p. is_a t p other) o false) e ∙ or_false (nat_eq other c)

pub own_methods_go_first : OwnMethodsGoFirst
own_methods_go_first t c i name e =
    method_step t c name ∙ ap (λ o. option_map_or (λ i. Some (record { class = c; index = i })) o (option_map_or (λ p. method_of t p name) (parent_of t c) None)) e

inherited : (t : Table) (c : ℕ) (name : List ℕ) → find_method (methods_of t c) name ≡ None → method_of t c name ≡ option_map_or (λ p. method_of t p name) (parent_of t c) None
inherited t c name e =
    method_step t c name ∙ ap (λ o. option_map_or (λ i. Some (record { class = c; index = i })) o (option_map_or (λ p. method_of t p name) (parent_of t c) None)) e

pub methods_are_inherited : MethodsAreInherited
methods_are_inherited t c p name e f = inherited t c name e ∙ ap (λ o. option_map_or (λ p. method_of t p name) o None) f

pub no_other_methods : NoOtherMethods
no_other_methods t c name e f = inherited t c name e ∙ ap (λ o. option_map_or (λ p. method_of t p name) o None) f

pub parents_properties_go_first : ParentsPropertiesGoFirst
parents_properties_go_first t c p e = properties_step t c ∙ ap (λ o. option_map_or (properties_of t) o [] ++ own_properties t c) e

pub no_other_properties : NoOtherProperties
no_other_properties t c e = properties_step t c ∙ ap (λ o. option_map_or (properties_of t) o [] ++ own_properties t c) e

-- ---- fields
same_bytes : (a b : List ℕ) → bytes_eq a b ≡ true → a ≡ b
same_bytes a b h = (bytes_decides a b).0 h

different : (a b : List ℕ) → a ≢ b → bytes_eq a b ≡ false
different a b n = false_from_ne_true (bytes_eq a b) (λ t. n (same_bytes a b t))

pub finds_what_was_set : FindsWhatWasSet
finds_what_was_set name v [] = ap (λ b. cond b (Some v) None) (nat_list_eq_equiv.refl name)
finds_what_was_set name v (e ∷ es) =
    elim (bytes_eq name e.0) as (λ b. bytes_eq name e.0 ≡ b → lookup (bytes_eq name) (if b then (e.0, v) ∷ es else e ∷ insert_entry bytes_eq es name v) ≡ Some v) [
      | true ↦ λ f. ap (λ b. cond b (Some v) (lookup (bytes_eq name) es)) f
      | false ↦ λ f. ap (λ b. cond b (Some e.1) (lookup (bytes_eq name) (insert_entry bytes_eq es name v))) f ∙ finds_what_was_set name v es
    ] refl

pub sets_one_field : SetsOneField
sets_one_field name other v [] n = ap (λ b. cond b (Some v) None) (different other name n)
sets_one_field name other v (e ∷ es) n =
    elim (bytes_eq name e.0) as (λ b. bytes_eq name e.0 ≡ b → lookup (bytes_eq other) (if b then (e.0, v) ∷ es else e ∷ insert_entry bytes_eq es name v) ≡ lookup (bytes_eq other) (e ∷ es)) [
      | true ↦ λ f.
          let apart : bytes_eq other e.0 ≡ false = ap (bytes_eq other) (sym (same_bytes name e.0 f)) ∙ different other name n in
          ap (λ b. cond b (Some v) (lookup (bytes_eq other) es)) apart ∙ sym (ap (λ b. cond b (Some e.1) (lookup (bytes_eq other) es)) apart)
      | false ↦ λ f. ap (λ o. cond (bytes_eq other e.0) (Some e.1) o) (sets_one_field name other v es n)
    ] refl

pub keeps_places : KeepsPlaces
keeps_places name v [] h = cc
keeps_places name v (e ∷ es) h =
    elim (bytes_eq name e.0) as (λ b. is_some (cond b (Some e.1) (lookup (bytes_eq name) es)) ≡ true → keys_of (if b then (e.0, v) ∷ es else e ∷ insert_entry bytes_eq es name v) ≡ keys_of (e ∷ es)) [
      | true ↦ λ _. refl
      | false ↦ λ g. ap (λ names. e.0 ∷ names) (keeps_places name v es g)
    ] h

absent_among : (name : List ℕ) (es : FieldList) → AllByRecursion (λ k. bytes_eq name k ≡ false) (keys_of es) → lookup (bytes_eq name) es ≡ None
absent_among name [] h = refl
absent_among name (e ∷ es) h = ap (λ b. cond b (Some e.1) (lookup (bytes_eq name) es)) h.0 ∙ absent_among name es h.1

pub forgets_what_was_unset : ForgetsWhatWasUnset
unfolding IsDistinct
forgets_what_was_unset name [] u = refl
forgets_what_was_unset name (e ∷ es) u =
    elim (bytes_eq name e.0) as (λ b. bytes_eq name e.0 ≡ b → lookup (bytes_eq name) (cond b es (e ∷ remove_entry (bytes_eq name) es)) ≡ None) [
      | true ↦ λ f. ap (λ k. lookup (bytes_eq k) es) (same_bytes name e.0 f) ∙ absent_among e.0 es u.0
      | false ↦ λ f. ap (λ b. cond b (Some e.1) (lookup (bytes_eq name) (remove_entry (bytes_eq name) es))) f ∙ forgets_what_was_unset name es u.1
    ] refl

pub unsets_one_field : UnsetsOneField
unsets_one_field name other [] n = refl
unsets_one_field name other (e ∷ es) n =
    elim (bytes_eq name e.0) as (λ b. bytes_eq name e.0 ≡ b → lookup (bytes_eq other) (cond b es (e ∷ remove_entry (bytes_eq name) es)) ≡ lookup (bytes_eq other) (e ∷ es)) [
      | true ↦ λ f.
          let apart : bytes_eq other e.0 ≡ false = ap (bytes_eq other) (sym (same_bytes name e.0 f)) ∙ different other name n in
          sym (ap (λ b. cond b (Some e.1) (lookup (bytes_eq other) es)) apart)
      | false ↦ λ f. ap (λ o. cond (bytes_eq other e.0) (Some e.1) o) (unsets_one_field name other es n)
    ] refl

-- ---- objects
get_set : (xs : List Object) (i : ℕ) (x : Object) → i < length xs → slice_get (set xs i x) i ≡ Some x
get_set [] i x h = absurd (omega arith)
get_set (y ∷ xs) zero x h = refl
get_set (y ∷ xs) (suc i) x h = get_set xs i x (omega arith)

get_set_other : (xs : List Object) (i j : ℕ) (x : Object) → (i ≡ j → ⊥) → slice_get (set xs i x) j ≡ slice_get xs j
get_set_other [] i j x n = refl
get_set_other (y ∷ xs) zero zero x n = absurd (n refl)
get_set_other (y ∷ xs) zero (suc j) x n = refl
get_set_other (y ∷ xs) (suc i) zero x n = refl
get_set_other (y ∷ xs) (suc i) (suc j) x n = get_set_other xs i j x (λ e. n (ap suc e))

pub has_its_fields : HasItsFields
has_its_fields objects o fields made =
    ap (λ x. option_map_or (λ x. x.fields) x []) (get_set objects (o - 1) (record { class = class_at objects o; fields = fields }) (omega (arith, made.first, made.last)))

pub changes_one_object : ChangesOneObject
changes_one_object objects o other fields made first n =
    ap (λ x. option_map_or (λ x. x.fields) x []) (get_set_other objects (o - 1) (other - 1) (record { class = class_at objects o; fields = fields }) (λ e. n (omega (arith, made.first))))

same_class : (xs : List Object) (i j : ℕ) (fields : FieldList) → option_map_or (λ x. x.class) (slice_get (set xs i (record { class = option_map_or (λ x. x.class) (slice_get xs i) 0; fields = fields })) j) 0 ≡ option_map_or (λ x. x.class) (slice_get xs j) 0
same_class [] i j fields = refl
same_class (y ∷ xs) zero zero fields = refl
same_class (y ∷ xs) zero (suc j) fields = refl
same_class (y ∷ xs) (suc i) zero fields = refl
same_class (y ∷ xs) (suc i) (suc j) fields = same_class xs i j fields

pub keeps_classes : KeepsClasses
keeps_classes objects o other fields = same_class objects (o - 1) (other - 1) fields
