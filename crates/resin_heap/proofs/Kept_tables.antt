-- The table of classes stays what it is when a class is put last.
use Rattle.std.proofs.Common.{◌≡◌, ℕ, zero, suc, ◌+◌, ◌<◌, ◌≤◌, List, [], ◌∷◌, ◌++◌, length, slice_get, refl, sym, ap, ◌∙◌, arith, length-append, append_assoc, subst, inl, inr, is_some, position, Option, Some, None}
use Rattle.std.specs.Prelude.{IfSome, IsSomeAnd}
use Rattle.std.specs.Map.{keys_of, values_of, lookup}
use Rattle.std.specs.Option.{option_map, option_map_or, option_and_then}
use Rattle.std.proofs.lemmas.Bool.{cases_lt}
use Rattle.std.proofs.lemmas.List.{length-map, map-append, append-nil}
use Rattle.resin_tree.specs.declared.declaration.ClassDecl.{ClassDecl}
use Rattle.resin_tree.specs.declared.declaration.Property.{Property}
use Rattle.indexmap.specs.IndexMap.{insert_entry}
use Rattle.indexmap.proofs.MapLemmas.{insert_entry-absent, absent_from_lookup, some_index}
use Rattle.resin_names.specs.Names.{same_name}
use Rattle.resin_heap.specs.declared.class.Class.{Class}
use Rattle.resin_heap.specs.declared.class.Jump.{Jump}
use Rattle.resin_heap.specs.declared.class.Standing.{Standing}
use Rattle.resin_heap.specs.Classes.{Table, class_names, find_class, parent_in, parent_of, find_method, method_of, properties_of}
use Rattle.resin_heap.specs.MethodIndex.{Index, reached, own_or, IsRoot, Keeps}
use Rattle.resin_heap.specs.Prelude.{prelude, StartsWithPrelude}
use Rattle.resin_heap.specs.Tables.{Entries, declared, with_class, LeadsTo, IsJump, Stands, HasMethods, AllStand, tree_above, StandsUnder, giver_of, IsTable}
use Rattle.resin_heap.proofs.Seats.{get_left, get_seam, get_some, get_none, none_of}
use Rattle.resin_heap.proofs.Lines.{found_within, is_a_under, is_a-append, method_step, method_of-append, methods_of-last, own_properties-last, parent_of-append, parent_of-last, properties_of-append, properties_step}
use Rattle.resin_heap.proofs.Method_trees.{no_root, nothing_reached}

-- ---- the lists
pub length-declared : (es : Entries) → length (declared es) ≡ length es
length-declared es = length-map es (λ e. e.1.declaration)

pub length-values : (es : Entries) → length (values_of es) ≡ length es
length-values es = length-map es (λ e. e.1)

pub declared-append : (es : Entries) (class : Class) → declared (with_class es class) ≡ declared es ++ class.declaration ∷ []
declared-append es class = map-append (λ e. e.1.declaration) es ((class.declaration.name, class) ∷ [])

values-append : (es : Entries) (class : Class) → values_of (with_class es class) ≡ values_of es ++ class ∷ []
values-append es class = map-append (λ e. e.1) es ((class.declaration.name, class) ∷ [])

-- the class of a number has the declaration of that number
pub declaration_at : (es : Entries) (c : ℕ) (class : Class) → slice_get (values_of es) c ≡ Some class → slice_get (declared es) c ≡ Some class.declaration
declaration_at [] c class e = cc
declaration_at (x ∷ es) zero class e = ap (option_map (λ k. k.declaration)) e
declaration_at (x ∷ es) (suc c) class e = declaration_at es c class e

pub within_values : (es : Entries) (c : ℕ) (class : Class) → slice_get (values_of es) c ≡ Some class → c < length (declared es)
within_values es c class e = omega (arith, get_some (values_of es) c class e, length-values es, length-declared es)

-- ---- a class stands where it stood
leads_kept : (t : Table) (d : ClassDecl) (c above : ℕ) → c < length t → LeadsTo t c above → LeadsTo (t ++ d ∷ []) c above
leads_kept t d c above h leads = record {
  up = leads.up;
  alike = λ other g. is_a-append t d c other h ∙ leads.alike other g ∙ sym (is_a-append t d above other (omega (arith, h, leads.up)));
}

jump_kept : (t : Table) (d : ClassDecl) (c : ℕ) → c < length t → (o : Option Jump) → IfSome o (λ j. IsJump t c j.to) → IfSome o (λ j. IsJump (t ++ d ∷ []) c j.to)
jump_kept t d c h None jump = tt
jump_kept t d c h (Some j) jump = record { smaller = jump.smaller; leads = leads_kept t d c j.to h jump.leads }

given_kept : (t : Table) (d : ClassDecl) (o : Option ℕ) → IfSome o (λ giver. giver < length t) → option_map_or (properties_of (t ++ d ∷ [])) o [] ≡ option_map_or (properties_of t) o []
given_kept t d None h = refl
given_kept t d (Some giver) h = properties_of-append t d giver h

near_below : (o : Option ℕ) (c n : ℕ) → c < n → IfSome o (λ giver. giver ≤ c) → IfSome o (λ giver. giver < n)
near_below None c n h g = tt
near_below (Some giver) c n h g = omega arith

pub stands_kept : (t : Table) (d : ClassDecl) (c : ℕ) (at : Standing) → c < length t → Stands t c at → Stands (t ++ d ∷ []) c at
stands_kept t d c at h stands = record {
  parent = stands.parent ∙ sym (parent_of-append t d c h);
  jump = jump_kept t d c h at.jump stands.jump;
  giver = properties_of-append t d c h ∙ stands.giver ∙ sym (given_kept t d at.giver (near_below at.giver c (length t) h stands.near));
  near = stands.near;
}

pub methods_kept : (t : Table) (x y : Index) (c : ℕ) (tree : Option ℕ) → Keeps x y → HasMethods t x c tree → HasMethods t y c tree
methods_kept t x y c tree keeps has =
    let still = keeps tree has.root in
    record { root = still.0; finds = λ name. still.1 name ∙ has.finds name }

methods_later : (t : Table) (d : ClassDecl) (x : Index) (c : ℕ) (tree : Option ℕ) → c < length t → HasMethods t x c tree → HasMethods (t ++ d ∷ []) x c tree
methods_later t d x c tree h has = record { root = has.root; finds = λ name. has.finds name ∙ sym (method_of-append t d c name h) }

-- ---- the class that is put last
parent_within : (t : Table) (d : ClassDecl) (p : ℕ) → parent_in t d ≡ Some p → p < length t
parent_within t d p e = named_within d.parent e
  where
    named_within : (name : Option (List ℕ)) → option_and_then (find_class t) name ≡ Some p → p < length t
    named_within None f = cc
    named_within (Some name) f = found_within t name p f

pub parent_there : (es : Entries) (d : ClassDecl) (parent : Option ℕ) → parent ≡ parent_in (declared es) d → IfSome parent (λ p. p < length es)
parent_there es d None e = tt
parent_there es d (Some p) e = omega (arith, parent_within (declared es) d p (sym e), length-declared es)

module _ (t : Table) (d : ClassDecl) where
  new_leads : (p above : ℕ) → parent_in t d ≡ Some p → LeadsTo t p above → IsJump (t ++ d ∷ []) (length t) above
  new_leads p above under leads =
      let h : p < length t = parent_within t d p under in
      record {
        smaller = omega (arith, h, leads.up);
        leads = record {
          up = omega (arith, h, leads.up);
          alike = λ other g.
              is_a_under (t ++ d ∷ []) (length t) other p (λ e. omega (arith, e, g, h, leads.up)) (parent_of-last t d ∙ under)
              ∙ is_a-append t d p other h
              ∙ leads.alike other g
              ∙ sym (is_a-append t d above other (omega (arith, h, leads.up)));
        };
      }

  pub new_jump : (parent : Option ℕ) → parent ≡ parent_in t d → (o : Option Jump) → IfSome o (λ j. IsSomeAnd parent (λ p. LeadsTo t p j.to)) → IfSome o (λ j. IsJump (t ++ d ∷ []) (length t) j.to)
  new_jump parent under None jump = tt
  new_jump None under (Some j) jump = absurd jump
  new_jump (Some p) under (Some j) jump = new_leads p j.to (sym under) jump

  inherited_kept : (o : Option ℕ) → parent_in t d ≡ o → option_map_or (properties_of (t ++ d ∷ [])) o [] ≡ option_map_or (properties_of t) o []
  inherited_kept None e = refl
  inherited_kept (Some p) e = properties_of-append t d p (parent_within t d p e)

  last_properties : properties_of (t ++ d ∷ []) (length t) ≡ option_map_or (properties_of t) (parent_in t d) [] ++ d.properties
  last_properties =
      properties_step (t ++ d ∷ []) (length t)
      ∙ ap (λ ps. option_map_or (properties_of (t ++ d ∷ [])) (parent_of (t ++ d ∷ []) (length t)) [] ++ ps) (own_properties-last t d)
      ∙ ap (λ o. option_map_or (properties_of (t ++ d ∷ [])) o [] ++ d.properties) (parent_of-last t d)
      ∙ ap (λ ps. ps ++ d.properties) (inherited_kept (parent_in t d) refl)

  pub new_giver : (above : Option ℕ) → IfSome above (λ giver. giver < length t) → option_map_or (properties_of t) (parent_in t d) [] ≡ option_map_or (properties_of t) above []
      → (ps : List Property) → d.properties ≡ ps → properties_of (t ++ d ∷ []) (length t) ≡ option_map_or (properties_of (t ++ d ∷ [])) (giver_of ps (length t) above) []
  new_giver above near same [] e =
      last_properties
      ∙ ap (λ ps. option_map_or (properties_of t) (parent_in t d) [] ++ ps) e
      ∙ append-nil (option_map_or (properties_of t) (parent_in t d) [])
      ∙ same
      ∙ sym (given_kept t d above near)
  new_giver above near same (p ∷ ps) e = refl

  pub new_near : (above : Option ℕ) → IfSome above (λ giver. giver < length t) → (ps : List Property) → IfSome (giver_of ps (length t) above) (λ giver. giver ≤ length t)
  new_near None near [] = tt
  new_near (Some giver) near [] = omega arith
  new_near above near (p ∷ ps) = omega arith

  inherited_method : (name : List ℕ) (o : Option ℕ) → parent_in t d ≡ o → option_map_or (λ p. method_of (t ++ d ∷ []) p name) o None ≡ option_map_or (λ p. method_of t p name) o None
  inherited_method name None e = refl
  inherited_method name (Some p) e = method_of-append t d p name (parent_within t d p e)

  pub last_method : (name : List ℕ) → own_or (length t) d.methods name (option_map_or (λ p. method_of t p name) (parent_in t d) None) ≡ method_of (t ++ d ∷ []) (length t) name
  last_method name =
      sym (
      method_step (t ++ d ∷ []) (length t) name
      ∙ ap (λ ms. option_map_or (λ i. Some (record { class = length t; index = i })) (find_method ms name) (option_map_or (λ p. method_of (t ++ d ∷ []) p name) (parent_of (t ++ d ∷ []) (length t)) None)) (methods_of-last t d)
      ∙ ap (λ o. option_map_or (λ i. Some (record { class = length t; index = i })) (find_method d.methods name) (option_map_or (λ p. method_of (t ++ d ∷ []) p name) o None)) (parent_of-last t d)
      ∙ ap (option_map_or (λ i. Some (record { class = length t; index = i })) (find_method d.methods name)) (inherited_method name (parent_in t d) refl)
      )

-- ---- the tree of the parent
module _ (es : Entries) (x : Index) (methods : (c : ℕ) (class : Class) → slice_get (values_of es) c ≡ Some class → HasMethods (declared es) x c class.standing.methods) where
  at_root : (c : ℕ) (o : Option Class) → slice_get (values_of es) c ≡ o → IsRoot x (option_and_then (λ class. class.standing.methods) o)
  at_root c None e = no_root x
  at_root c (Some class) e = (methods c class e).root

  pub root_above : (parent : Option ℕ) → IsRoot x (tree_above es parent)
  root_above None = no_root x
  root_above (Some p) = at_root p (slice_get (values_of es) p) refl

  at_reached : (c : ℕ) → c < length es → (name : List ℕ) (o : Option Class) → slice_get (values_of es) c ≡ o → reached x (option_and_then (λ class. class.standing.methods) o) name ≡ method_of (declared es) c name
  at_reached c h name None e = absurd (omega (arith, h, past, length-values es))
    where
      past : length (values_of es) ≤ c
      past = get_none (values_of es) c e
  at_reached c h name (Some class) e = (methods c class e).finds name

  pub reached_above : (parent : Option ℕ) → IfSome parent (λ p. p < length es) → (name : List ℕ) → reached x (tree_above es parent) name ≡ option_map_or (λ p. method_of (declared es) p name) parent None
  reached_above None h name = nothing_reached x name
  reached_above (Some p) h name = at_reached p h name (slice_get (values_of es) p) refl

-- ---- the table
named_append : (es : Entries) (class : Class) → keys_of es ≡ class_names (declared es) → keys_of (with_class es class) ≡ class_names (declared (with_class es class))
named_append es class named =
    map-append (λ e. e.0) es ((class.declaration.name, class) ∷ [])
    ∙ ap (λ names. names ++ class.declaration.name ∷ []) named
    ∙ sym (ap class_names (declared-append es class) ∙ map-append (λ c. c.name) (declared es) (class.declaration ∷ []))

-- what is so of each class before and of the one that is put last is so of all
each_append : (P : ℕ → Class → Type 0) (es : Entries) (class : Class) → ((c : ℕ) (k : Class) → slice_get (values_of es) c ≡ Some k → P c k) → P (length es) class
    → (c : ℕ) (k : Class) → slice_get (values_of (with_class es class)) c ≡ Some k → P c k
each_append P es class before last c k e =
    let f : slice_get (values_of es ++ class ∷ []) c ≡ Some k = ap (λ l. slice_get l c) (sym (values-append es class)) ∙ e in
    elim (cases_lt c (length (values_of es))) [
      | inl within ↦ before c k (sym (get_left (values_of es) (class ∷ []) c within) ∙ f)
      | inr past ↦
          let at : length (values_of es) ≡ c = omega (arith, past, get_some (values_of es ++ class ∷ []) c k f, length-append (values_of es) (class ∷ [])) in
          let is : class ≡ k = some_class class k (sym (get_seam (values_of es) class) ∙ ap (slice_get (values_of es ++ class ∷ [])) at ∙ f) in
          subst (λ (n : ℕ). P n k) (sym (length-values es) ∙ at) (subst (λ (j : Class). P (length es) j) is last)
    ]
  where
    some_class : (a b : Class) → Some a ≡ Some b → a ≡ b
    some_class a b g = cc

pub IsTable-kept : (es : Entries) (x y : Index) → Keeps x y → IsTable es x → IsTable es y
IsTable-kept es x y keeps table = record {
  named = table.named;
  few = table.few;
  stand = table.stand;
  methods = λ c class e. methods_kept (declared es) x y c class.standing.methods keeps (table.methods c class e);
}

pub IsTable-append : (es : Entries) (y : Index) (class : Class) → length es < 4294967295 → Stands (declared es ++ class.declaration ∷ []) (length (declared es)) class.standing
    → HasMethods (declared es ++ class.declaration ∷ []) y (length (declared es)) class.standing.methods → IsTable es y → IsTable (with_class es class) y
IsTable-append es y class room stands has table =
    let d = class.declaration in
    let n = length-declared es in
    record {
      named = named_append es class table.named;
      few = omega (arith, length-append es ((d.name, class) ∷ []), room);
      stand = each_append (λ c k. Stands (declared (with_class es class)) c k.standing) es class
          (λ c k e. subst (λ (t : Table). Stands t c k.standing) (sym (declared-append es class)) (stands_kept (declared es) d c k.standing (within_values es c k e) (table.stand c k e)))
          (subst (λ (t : Table). Stands t (length es) class.standing) (sym (declared-append es class)) (subst (λ (m : ℕ). Stands (declared es ++ d ∷ []) m class.standing) n stands));
      methods = each_append (λ c k. HasMethods (declared (with_class es class)) y c k.standing.methods) es class
          (λ c k e. subst (λ (t : Table). HasMethods t y c k.standing.methods) (sym (declared-append es class)) (methods_later (declared es) d y c k.standing.methods (within_values es c k e) (table.methods c k e)))
          (subst (λ (t : Table). HasMethods t y (length es) class.standing.methods) (sym (declared-append es class)) (subst (λ (m : ℕ). HasMethods (declared es ++ d ∷ []) y m class.standing.methods) n has));
    }

-- a class of a new name goes last
pub goes_last : (es : Entries) (name : List ℕ) (class : Class) → keys_of es ≡ class_names (declared es) → find_class (declared es) name ≡ None → insert_entry same_name es name class ≡ es ++ (name, class) ∷ []
goes_last es name class named fresh =
    insert_entry-absent same_name name class es (absent_from_lookup (same_name name) es (none_of (lookup (same_name name) es) (sym (some_index (same_name name) es) ∙ ap (λ names. is_some (position (same_name name) names)) named ∙ ap is_some fresh)))

pub IsTable-empty : (es : Entries) (x : Index) → es ≡ [] → IsTable es x
IsTable-empty es x e = subst (λ (l : Entries). IsTable l x) (sym e) (record {
  named = refl;
  few = omega arith;
  stand = λ c class f. cc;
  methods = λ c class f. cc;
})

-- ---- where the class that goes last will stand
leads_twice : (t : Table) (c above top : ℕ) → LeadsTo t c above → LeadsTo t above top → LeadsTo t c top
leads_twice t c above top h g = record {
  up = omega (arith, h.up, g.up);
  alike = λ other k. h.alike other (omega (arith, k, g.up)) ∙ g.alike other k;
}

pub jump_at : (es : Entries) → AllStand es → (c : ℕ) (class : Class) (j : Jump) → slice_get (values_of es) c ≡ Some class → class.standing.jump ≡ Some j → IsJump (declared es) c j.to
jump_at es stand c class j e f = subst (λ (o : Option Jump). IfSome o (λ j. IsJump (declared es) c j.to)) f (stand c class e).jump

pub jump_twice : (es : Entries) → AllStand es → (c : ℕ) (class above : Class) (first second : Jump) → slice_get (values_of es) c ≡ Some class → class.standing.jump ≡ Some first
    → slice_get (values_of es) first.to ≡ Some above → above.standing.jump ≡ Some second → LeadsTo (declared es) c second.to
jump_twice es stand c class above first second e f g h =
    leads_twice (declared es) c first.to second.to (jump_at es stand c class first e f).leads (jump_at es stand first.to above second g h).leads

near_within : (es : Entries) (o : Option ℕ) (c : ℕ) → c < length es → IfSome o (λ giver. giver ≤ c) → IfSome o (λ giver. giver < length es)
near_within es o c h near = near_below o c (length es) h near

pub stands_under : (es : Entries) → AllStand es → (p : ℕ) (class : Class) (at : Standing) (j : Jump) → slice_get (values_of es) p ≡ Some class → at.jump ≡ Some j → LeadsTo (declared es) p j.to
    → at.giver ≡ class.standing.giver → at.methods ≡ class.standing.methods → StandsUnder es (Some p) at
stands_under es stand p class at j e f leads giver methods =
    let above = stand p class e in
    let within : p < length es = omega (arith, get_some (values_of es) p class e, length-values es) in
    record {
      jump = subst (λ (o : Option Jump). IfSome o (λ j. IsSomeAnd (Some p) (λ p. LeadsTo (declared es) p j.to))) (sym f) leads;
      giver = above.giver ∙ ap (λ o. option_map_or (properties_of (declared es)) o []) (sym giver);
      near = subst (λ (o : Option ℕ). IfSome o (λ g. g < length es)) (sym giver) (near_within es class.standing.giver p within above.near);
      methods = methods ∙ sym (ap (option_and_then (λ class. class.standing.methods)) e);
    }

pub stands_alone : (es : Entries) (at : Standing) → at.jump ≡ None → at.giver ≡ None → at.methods ≡ None → StandsUnder es None at
stands_alone es at jump giver methods = record {
  jump = subst (λ (o : Option Jump). IfSome o (λ j. IsSomeAnd None (λ p. LeadsTo (declared es) p j.to))) (sym jump) tt;
  giver = ap (λ o. option_map_or (properties_of (declared es)) o []) (sym giver);
  near = subst (λ (o : Option ℕ). IfSome o (λ g. g < length es)) (sym giver) tt;
  methods = methods;
}

-- ---- the class that goes last, as it is put
pub new_stands : (es : Entries) (d : ClassDecl) (parent : Option ℕ) (above at : Standing) → parent ≡ parent_in (declared es) d → StandsUnder es parent above
    → at.parent ≡ parent → at.jump ≡ above.jump → at.giver ≡ giver_of d.properties (length es) above.giver → Stands (declared es ++ d ∷ []) (length (declared es)) at
new_stands es d parent above at under stands same jump giver =
    let t = declared es in
    let near = subst (λ (n : ℕ). IfSome above.giver (λ g. g < n)) (sym (length-declared es)) stands.near in
    let given = giver ∙ ap (λ n. giver_of d.properties n above.giver) (sym (length-declared es)) in
    record {
      parent = same ∙ under ∙ sym (parent_of-last t d);
      jump = subst (λ (o : Option Jump). IfSome o (λ j. IsJump (t ++ d ∷ []) (length t) j.to)) (sym jump) (new_jump t d parent under above.jump stands.jump);
      giver = new_giver t d above.giver near (ap (λ o. option_map_or (properties_of t) o []) (sym under) ∙ stands.giver) d.properties refl ∙ ap (λ o. option_map_or (properties_of (t ++ d ∷ [])) o []) (sym given);
      near = subst (λ (o : Option ℕ). IfSome o (λ g. g ≤ length t)) (sym given) (new_near t d above.giver near d.properties);
    }

pub new_methods : (es : Entries) (x y : Index) (d : ClassDecl) (parent above tree : Option ℕ) (n : ℕ) → IsTable es x → parent ≡ parent_in (declared es) d → above ≡ tree_above es parent → n ≡ length es
    → IsRoot y tree → ((name : List ℕ) → reached y tree name ≡ own_or n d.methods name (reached x above name)) → HasMethods (declared es ++ d ∷ []) y (length (declared es)) tree
new_methods es x y d parent above tree n table under is last root finds = record {
  root = root;
  finds = λ name.
      finds name
      ∙ (λ i. own_or (last i) d.methods name (reached x (is i) name))
      ∙ (λ i. own_or (sym (length-declared es) i) d.methods name (reached_above es x table.methods parent (parent_there es d parent under) name i))
      ∙ ap (λ o. own_or (length (declared es)) d.methods name (option_map_or (λ p. method_of (declared es) p name) o None)) under
      ∙ last_method (declared es) d name;
}

-- ---- the classes of the runtime go first
pub begins_itself : (t : Table) → t ≡ prelude → StartsWithPrelude t
begins_itself t e = ([], e ∙ sym (append-nil prelude))

pub begins_append : (t : Table) (d : ClassDecl) → StartsWithPrelude t → StartsWithPrelude (t ++ d ∷ [])
begins_append t d (more, is) = (more ++ d ∷ [], ap (λ u. u ++ d ∷ []) is ∙ append_assoc prelude more (d ∷ []))
