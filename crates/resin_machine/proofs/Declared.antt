-- What declaring a class answers.
use Rattle.std.proofs.Common.{◌≡◌, ℕ, List, true, false, Option, Some, None, IsSome, is_some, is_none, refl}
use Rattle.std.specs.Prelude.{IsSomeAnd}
use Rattle.std.specs.Option.{option_map_or}
use Rattle.resin_heap.specs.Under.tree.declared.declaration.ClassDecl.{ClassDecl}
use Rattle.resin_heap.specs.Classes.{Table, find_class, NamesNoParent}
use Rattle.resin_machine.specs.Objects.{lacks_parent}

pub is_there : {X : Type 0} (o : Option X) → IsSome o → is_some o ≡ true
is_there o h = h

pub not_there : {X : Type 0} (o : Option X) → (IsSome o → ⊥) → is_some o ≡ false
not_there None h = refl
not_there (Some x) h = absurd (h refl)

none_there : {X : Type 0} (o : Option X) → o ≡ None → is_none o ≡ true
none_there None e = refl
none_there (Some x) e = absurd (cc)

some_there : {X : Type 0} (o : Option X) → (o ≡ None → ⊥) → is_none o ≡ false
some_there None h = absurd (h refl)
some_there (Some x) h = refl

pub lacks : (t : Table) (d : ClassDecl) → NamesNoParent t d → lacks_parent t d ≡ true
lacks t d h = by d.parent h
  where
    by : (o : Option (List ℕ)) → IsSomeAnd o (λ name. find_class t name ≡ None) → option_map_or (λ name. is_none (find_class t name)) o false ≡ true
    by None k = absurd k
    by (Some name) k = none_there (find_class t name) k

pub lacks_none : (t : Table) (d : ClassDecl) → (NamesNoParent t d → ⊥) → lacks_parent t d ≡ false
lacks_none t d h = by d.parent h
  where
    by : (o : Option (List ℕ)) → (IsSomeAnd o (λ name. find_class t name ≡ None) → ⊥) → option_map_or (λ name. is_none (find_class t name)) o false ≡ false
    by None k = refl
    by (Some name) k = some_there (find_class t name) k
