-- Lines of classes, from each to the one above.
use Rattle.std.proofs.Common.{◌≡◌, ℕ, zero, suc, ◌<◌, ◌≤◌, true, false, List, [], ◌∷◌, ◌++◌, length, take, reverse, slice_get, refl, sym, ap, ◌∙◌, arith, append_assoc, eq-eqb, subst, inl, inr, is_some, Option, Some, None, length-take}
use Rattle.std.specs.Prelude.{nat_eq, ◌||◌, IfSome}
use Rattle.std.specs.Option.{option_map_or, option_and_then}
use Rattle.std.specs.List.{list_any, flat_map}
use Rattle.std.proofs.lemmas.List.{length-map, append-nil, reverse-append, take-append-le}
use Rattle.std.proofs.lemmas.List.Quantifiers.{position-Some}
use Rattle.std.proofs.lemmas.Bool.Decides.{eqb_tells}
use Rattle.std.proofs.lemmas.Grind.{flat_map-append, reverse_onto}
use Rattle.std.proofs.Math.Seq.{take-append_seam}
use Rattle.resin_tree.specs.declared.declaration.ClassDecl.{ClassDecl}
use Rattle.resin_tree.specs.declared.declaration.Function.{Function}
use Rattle.resin_heap.specs.declared.classes.MethodAt.{MethodAt}
use Rattle.resin_names.specs.Names.{same_name}
use Rattle.resin_heap.specs.Classes.{Table, class_names, find_class, parent_in, parent_of, line_within, line, is_a, methods_of, find_method, first_method, method_of, own_properties, properties_of, method_names, function_at}
use Rattle.resin_heap.proofs.Seats.{get_left, get_seam, get_is_some}

pub found_within : (t : Table) (name : List ℕ) (i : ℕ) → find_class t name ≡ Some i → i < length t
found_within t name i e = let h = (position-Some (same_name name) (class_names t) i [] e).0 in omega (arith, h, length-map t (λ d. d.name))

below_named : (t : Table) (c p : ℕ) (name : Option (List ℕ)) → option_and_then (find_class (take c t)) name ≡ Some p → p < c
below_named t c p None h = cc
below_named t c p (Some name) h = omega (arith, found_within (take c t) name p h, length-take c t)

below_declared : (t : Table) (c p : ℕ) (d : Option ClassDecl) → option_and_then (parent_in (take c t)) d ≡ Some p → p < c
below_declared t c p None h = cc
below_declared t c p (Some d) h = below_named t c p d.parent h

-- a parent has a smaller number
pub parent_below : (t : Table) (c p : ℕ) → parent_of t c ≡ Some p → p < c
parent_below t c p h = below_declared t c p (slice_get t c) h

line_room : (m n : ℕ) (t : Table) (c : ℕ) → c < m → c < n → line_within m t c ≡ line_within n t c
unfolding line_within
line_room zero n t c h g = absurd (omega arith)
line_room (suc m) zero t c h g = absurd (omega arith)
line_room (suc m) (suc n) t c h g =
    ap (λ above. c ∷ above)
    (elim (parent_of t c) as (λ o. parent_of t c ≡ o → option_map_or (line_within m t) o [] ≡ option_map_or (line_within n t) o []) [
      | None ↦ λ _. refl
      | Some p ↦ λ e. line_room m n t p (omega (arith, parent_below t c p e)) (omega (arith, parent_below t c p e))
    ] refl)

-- the line of a class is the class, then the line of its parent
pub line_above : (t : Table) (c : ℕ) → line t c ≡ c ∷ option_map_or (line t) (parent_of t c) []
unfolding line line_within
line_above t c =
    ap (λ above. c ∷ above)
    (elim (parent_of t c) as (λ o. parent_of t c ≡ o → option_map_or (line_within c t) o [] ≡ option_map_or (line t) o []) [
      | None ↦ λ _. refl
      | Some p ↦ λ e. line_room c (suc p) t p (parent_below t c p e) (omega arith)
    ] refl)

itself : (n : ℕ) → nat_eq n n ≡ true
itself n = eq-eqb n n refl

pub is_a_step : (t : Table) (c other : ℕ) → is_a t c other ≡ (nat_eq other c || option_map_or (λ p. is_a t p other) (parent_of t c) false)
unfolding is_a
is_a_step t c other =
    ap (list_any (nat_eq other)) (line_above t c)
    ∙ ap (λ b. nat_eq other c || b)
    (elim (parent_of t c) as (λ o. list_any (nat_eq other) (option_map_or (line t) o []) ≡ option_map_or (λ p. is_a t p other) o false) [ None ↦ refl | Some p ↦ refl ])

pub is_a_itself : (t : Table) (c : ℕ) → is_a t c c ≡ true
is_a_itself t c = is_a_step t c c ∙ ap (λ b. b || option_map_or (λ p. is_a t p c) (parent_of t c) false) (itself c)

pub method_step : (t : Table) (c : ℕ) (name : List ℕ) → method_of t c name ≡ option_map_or (λ i. Some (record { class = c; index = i })) (find_method (methods_of t c) name) (option_map_or (λ p. method_of t p name) (parent_of t c) None)
unfolding method_of first_method
method_step t c name =
    ap (first_method t name) (line_above t c)
    ∙ ap (option_map_or (λ i. Some (record { class = c; index = i })) (find_method (methods_of t c) name))
    (elim (parent_of t c) as (λ o. first_method t name (option_map_or (line t) o []) ≡ option_map_or (λ p. method_of t p name) o None) [ None ↦ refl | Some p ↦ refl ])

above_properties : (t : Table) (o : Option ℕ) → flat_map (own_properties t) (reverse (option_map_or (line t) o [])) ≡ option_map_or (properties_of t) o []
unfolding properties_of
above_properties t None = refl
above_properties t (Some p) = refl

pub properties_step : (t : Table) (c : ℕ) → properties_of t c ≡ option_map_or (properties_of t) (parent_of t c) [] ++ own_properties t c
unfolding properties_of
properties_step t c =
    ap (λ l. flat_map (own_properties t) (reverse l)) (line_above t c)
    ∙ ap (flat_map (own_properties t)) (reverse_onto (option_map_or (line t) (parent_of t c) []) c [])
    ∙ flat_map-append (own_properties t) (reverse (option_map_or (line t) (parent_of t c) [])) (c ∷ [])
    ∙ (λ i. above_properties t (parent_of t c) i ++ append-nil (own_properties t c) i)

-- one more class leaves the parents of those before it
pub parent_of-append : (t : Table) (d : ClassDecl) (c : ℕ) → c < length t → parent_of (t ++ d ∷ []) c ≡ parent_of t c
parent_of-append t d c h = λ i. option_and_then (parent_in (take-append-le c t (d ∷ []) (omega arith) i)) (get_left t (d ∷ []) c h i)

-- and has the parent that it names
pub parent_of-last : (t : Table) (d : ClassDecl) → parent_of (t ++ d ∷ []) (length t) ≡ parent_in t d
parent_of-last t d = λ i. option_and_then (parent_in (take-append_seam t (d ∷ []) i)) (get_seam t d i)

-- ---- one more class changes nothing for those before it
methods_of-append : (t : Table) (d : ClassDecl) (c : ℕ) → c < length t → methods_of (t ++ d ∷ []) c ≡ methods_of t c
methods_of-append t d c h = ap (λ o. option_map_or (λ x. x.methods) o []) (get_left t (d ∷ []) c h)

own_properties-append : (t : Table) (d : ClassDecl) (c : ℕ) → c < length t → own_properties (t ++ d ∷ []) c ≡ own_properties t c
own_properties-append t d c h = ap (λ o. option_map_or (λ x. x.properties) o []) (get_left t (d ∷ []) c h)

pub methods_of-last : (t : Table) (d : ClassDecl) → methods_of (t ++ d ∷ []) (length t) ≡ d.methods
methods_of-last t d = ap (λ o. option_map_or (λ x. x.methods) o []) (get_seam t d)

pub own_properties-last : (t : Table) (d : ClassDecl) → own_properties (t ++ d ∷ []) (length t) ≡ d.properties
own_properties-last t d = ap (λ o. option_map_or (λ x. x.properties) o []) (get_seam t d)

is_a_kept : (n : ℕ) (t : Table) (d : ClassDecl) (c other : ℕ) → c < n → c < length t → is_a (t ++ d ∷ []) c other ≡ is_a t c other
is_a_kept zero t d c other h g = absurd (omega arith)
is_a_kept (suc n) t d c other h g =
    is_a_step (t ++ d ∷ []) c other
    ∙ ap (λ o. nat_eq other c || option_map_or (λ p. is_a (t ++ d ∷ []) p other) o false) (parent_of-append t d c g)
    ∙ ap (λ b. nat_eq other c || b)
    (elim (parent_of t c) as (λ o. parent_of t c ≡ o → option_map_or (λ p. is_a (t ++ d ∷ []) p other) o false ≡ option_map_or (λ p. is_a t p other) o false) [
      | None ↦ λ _. refl
      | Some p ↦ λ e. is_a_kept n t d p other (omega (arith, parent_below t c p e)) (omega (arith, parent_below t c p e))
    ] refl)
    ∙ sym (is_a_step t c other)

pub is_a-append : (t : Table) (d : ClassDecl) (c other : ℕ) → c < length t → is_a (t ++ d ∷ []) c other ≡ is_a t c other
is_a-append t d c other h = is_a_kept (suc c) t d c other (omega arith) h

method_kept : (n : ℕ) (t : Table) (d : ClassDecl) (c : ℕ) (name : List ℕ) → c < n → c < length t → method_of (t ++ d ∷ []) c name ≡ method_of t c name
method_kept zero t d c name h g = absurd (omega arith)
method_kept (suc n) t d c name h g =
    method_step (t ++ d ∷ []) c name
    ∙ ap (λ ms. option_map_or (λ i. Some (record { class = c; index = i })) (find_method ms name) (option_map_or (λ p. method_of (t ++ d ∷ []) p name) (parent_of (t ++ d ∷ []) c) None)) (methods_of-append t d c g)
    ∙ ap (λ o. option_map_or (λ i. Some (record { class = c; index = i })) (find_method (methods_of t c) name) (option_map_or (λ p. method_of (t ++ d ∷ []) p name) o None)) (parent_of-append t d c g)
    ∙ ap (option_map_or (λ i. Some (record { class = c; index = i })) (find_method (methods_of t c) name))
    (elim (parent_of t c) as (λ o. parent_of t c ≡ o → option_map_or (λ p. method_of (t ++ d ∷ []) p name) o None ≡ option_map_or (λ p. method_of t p name) o None) [
      | None ↦ λ _. refl
      | Some p ↦ λ e. method_kept n t d p name (omega (arith, parent_below t c p e)) (omega (arith, parent_below t c p e))
    ] refl)
    ∙ sym (method_step t c name)

pub method_of-append : (t : Table) (d : ClassDecl) (c : ℕ) (name : List ℕ) → c < length t → method_of (t ++ d ∷ []) c name ≡ method_of t c name
method_of-append t d c name h = method_kept (suc c) t d c name (omega arith) h

properties_kept : (n : ℕ) (t : Table) (d : ClassDecl) (c : ℕ) → c < n → c < length t → properties_of (t ++ d ∷ []) c ≡ properties_of t c
properties_kept zero t d c h g = absurd (omega arith)
properties_kept (suc n) t d c h g =
    properties_step (t ++ d ∷ []) c
    ∙ ap (λ ps. option_map_or (properties_of (t ++ d ∷ [])) (parent_of (t ++ d ∷ []) c) [] ++ ps) (own_properties-append t d c g)
    ∙ ap (λ o. option_map_or (properties_of (t ++ d ∷ [])) o [] ++ own_properties t c) (parent_of-append t d c g)
    ∙ ap (λ ps. ps ++ own_properties t c)
    (elim (parent_of t c) as (λ o. parent_of t c ≡ o → option_map_or (properties_of (t ++ d ∷ [])) o [] ≡ option_map_or (properties_of t) o []) [
      | None ↦ λ _. refl
      | Some p ↦ λ e. properties_kept n t d p (omega (arith, parent_below t c p e)) (omega (arith, parent_below t c p e))
    ] refl)
    ∙ sym (properties_step t c)

pub properties_of-append : (t : Table) (d : ClassDecl) (c : ℕ) → c < length t → properties_of (t ++ d ∷ []) c ≡ properties_of t c
properties_of-append t d c h = properties_kept (suc c) t d c (omega arith) h

-- ---- above a class
not_itself : (m n : ℕ) → (m ≡ n → ⊥) → nat_eq m n ≡ false
not_itself m n h = elim (eqb_tells m n) [ inl e ↦ absurd (h e.1) | inr e ↦ e.0 ]

pub is_a_under : (t : Table) (c other above : ℕ) → (other ≡ c → ⊥) → parent_of t c ≡ Some above → is_a t c other ≡ is_a t above other
is_a_under t c other above n e =
    is_a_step t c other ∙ (λ i. not_itself other c n i || option_map_or (λ p. is_a t p other) (e i) false)

pub is_a_not : (t : Table) (c other : ℕ) → (other ≡ c → ⊥) → parent_of t c ≡ None → is_a t c other ≡ false
is_a_not t c other n e =
    is_a_step t c other ∙ (λ i. not_itself other c n i || option_map_or (λ p. is_a t p other) (e i) false)

pub is_a_above : (t : Table) (c other : ℕ) → other < c → is_a t c other ≡ option_map_or (λ p. is_a t p other) (parent_of t c) false
is_a_above t c other h =
    is_a_step t c other ∙ ap (λ b. b || option_map_or (λ p. is_a t p other) (parent_of t c) false) (not_itself other c (λ e. omega (arith, e, h)))

pub parent_smaller : (t : Table) (c : ℕ) (o : Option ℕ) → o ≡ parent_of t c → IfSome o (λ p. p < c)
parent_smaller t c None e = tt
parent_smaller t c (Some p) e = parent_below t c p (sym e)

-- a class is none of a larger number
not_larger : (n : ℕ) (t : Table) (c other : ℕ) → c < n → c < other → is_a t c other ≡ false
not_larger zero t c other h g = absurd (omega arith)
not_larger (suc n) t c other h g =
    elim (parent_of t c) as (λ o. parent_of t c ≡ o → is_a t c other ≡ false) [
      | None ↦ λ e. is_a_not t c other (λ s. omega (arith, s, g)) e
      | Some p ↦ λ e.
          is_a_under t c other p (λ s. omega (arith, s, g)) e ∙ not_larger n t p other (omega (arith, parent_below t c p e)) (omega (arith, parent_below t c p e))
    ] refl

pub is_a_larger : (t : Table) (c other : ℕ) → c < other → is_a t c other ≡ false
is_a_larger t c other h = not_larger (suc c) t c other (omega arith) h

-- ---- the methods that are found are there
method_within : (ms : List Function) (name : List ℕ) (i : ℕ) → find_method ms name ≡ Some i → i < length ms
method_within ms name i e = let h = (position-Some (same_name name) (method_names ms) i [] e).0 in omega (arith, h, length-map ms (λ m. m.name))

own_there : (t : Table) (c : ℕ) (i : ℕ) (at : MethodAt) → Some (record { class = c; index = i }) ≡ Some at → i < length (methods_of t c) → is_some (function_at t at) ≡ true
own_there t c i at e h =
    let is : record { class = c; index = i } ≡ at = some_at (record { class = c; index = i }) at e in
    subst (λ (x : MethodAt). is_some (function_at t x) ≡ true) is (get_is_some (methods_of t c) i h)
  where
    some_at : (a b : MethodAt) → Some a ≡ Some b → a ≡ b
    some_at a b f = cc

inherited_there : (t : Table) (name : List ℕ) (at : MethodAt) (o : Option ℕ) → ((p : ℕ) → o ≡ Some p → method_of t p name ≡ Some at → is_some (function_at t at) ≡ true)
    → option_map_or (λ p. method_of t p name) o None ≡ Some at → is_some (function_at t at) ≡ true
inherited_there t name at None above e = cc
inherited_there t name at (Some p) above e = above p refl e

there_within : (n : ℕ) (t : Table) (c : ℕ) (name : List ℕ) (at : MethodAt) → c < n → method_of t c name ≡ Some at → is_some (function_at t at) ≡ true
there_within zero t c name at h e = absurd (omega arith)
there_within (suc n) t c name at h e =
    elim (find_method (methods_of t c) name) as (λ o. find_method (methods_of t c) name ≡ o → option_map_or (λ i. Some (record { class = c; index = i })) o (option_map_or (λ p. method_of t p name) (parent_of t c) None) ≡ Some at → is_some (function_at t at) ≡ true) [
      | None ↦ λ _ f. inherited_there t name at (parent_of t c) (λ p under g. there_within n t p name at (omega (arith, parent_below t c p under)) g) f
      | Some i ↦ λ own f. own_there t c i at f (method_within (methods_of t c) name i own)
    ] refl (sym (method_step t c name) ∙ e)

pub method_there : (t : Table) (c : ℕ) (name : List ℕ) (at : MethodAt) → method_of t c name ≡ Some at → is_some (function_at t at) ≡ true
method_there t c name at e = there_within (suc c) t c name at (omega arith) e

pub all_there : (t : Table) (c : ℕ) (name : List ℕ) (o : Option MethodAt) → o ≡ method_of t c name → IfSome o (λ at. is_some (function_at t at) ≡ true)
all_there t c name None e = tt
all_there t c name (Some at) e = method_there t c name at (sym e)

-- where nothing is further up, a class is another one where it has its number
pub same_number : (t : Table) (at other : ℕ) → at ≤ other → is_a t at other ≡ nat_eq at other
same_number t at other h =
    elim (eqb_tells at other) [
      | inl e ↦ ap (is_a t at) (sym e.1) ∙ is_a_itself t at ∙ sym e.0
      | inr e ↦ is_a_larger t at other (omega (arith, h, e.1)) ∙ sym e.0
    ]

-- ---- a step of the walk along the classes that declare properties
pub above_given : (t : Table) (c p : ℕ) (giver : Option ℕ) → Some p ≡ parent_of t c → properties_of t p ≡ option_map_or (properties_of t) giver [] → properties_of t c ≡ option_map_or (properties_of t) giver [] ++ own_properties t c
above_given t c p giver under same =
    properties_step t c ∙ ap (λ o. option_map_or (properties_of t) o [] ++ own_properties t c) (sym under) ∙ ap (λ ps. ps ++ own_properties t c) same

pub none_above : (t : Table) (c : ℕ) → None ≡ parent_of t c → properties_of t c ≡ own_properties t c
none_above t c under = properties_step t c ∙ ap (λ o. option_map_or (properties_of t) o [] ++ own_properties t c) (sym under)

pub properties_next : (t : Table) (at : ℕ) (next : Option ℕ) (numbers more : List ℕ) (above : Option ℕ) → next ≡ Some at → more ≡ numbers ++ at ∷ []
    → properties_of t at ≡ option_map_or (properties_of t) above [] ++ own_properties t at
    → option_map_or (properties_of t) next [] ++ flat_map (own_properties t) (reverse numbers) ≡ option_map_or (properties_of t) above [] ++ flat_map (own_properties t) (reverse more)
properties_next t at next numbers more above e f g =
    ap (λ o. option_map_or (properties_of t) o [] ++ flat_map (own_properties t) (reverse numbers)) e
    ∙ ap (λ ps. ps ++ flat_map (own_properties t) (reverse numbers)) g
    ∙ append_assoc (option_map_or (properties_of t) above []) (own_properties t at) (flat_map (own_properties t) (reverse numbers))
    ∙ ap (λ l. option_map_or (properties_of t) above [] ++ flat_map (own_properties t) l) (sym (reverse-append numbers (at ∷ [])))
    ∙ ap (λ l. option_map_or (properties_of t) above [] ++ flat_map (own_properties t) (reverse l)) (sym f)

-- ---- a step of the walk up the line
pub line_next : (t : Table) (at : ℕ) (before : List ℕ) (above : Option ℕ) → above ≡ parent_of t at → before ++ line t at ≡ (before ++ at ∷ []) ++ option_map_or (line t) above []
line_next t at before above e =
    ap (λ l. before ++ l) (line_above t at ∙ ap (λ o. at ∷ option_map_or (line t) o []) (sym e))
    ∙ sym (append_assoc before (at ∷ []) (option_map_or (line t) above []))
