-- Classes as the list of their declarations: a class's number is its place in the list, from 0. A parent is declared before its children (PHP
-- manual, "Object Inheritance"), so its number is smaller.
use Rattle.std.specs.Prelude.{◌≡◌, ℕ, zero, suc, Bool, nat_eq, List, [], ◌∷◌, map, take, reverse, position, slice_get, Option, Some, None, IsSomeAnd}
use Rattle.std.specs.List.{flat_map, list_any}
use Rattle.std.specs.Option.{option_map_or, option_and_then}
use Rattle.resin_tree.specs.declared.declaration.ClassDecl.{ClassDecl}
use Rattle.resin_tree.specs.declared.declaration.Function.{Function}
use Rattle.resin_tree.specs.declared.declaration.Property.{Property}
use Rattle.resin_names.specs.Names.{same_name}
use Rattle.resin_heap.specs.declared.classes.MethodAt.{MethodAt}

abbrev pub Table : Type 0
Table = List ClassDecl

abbrev pub class_names : Table → List (List ℕ)
class_names t = map (λ d. d.name) t

-- the number of the class of a name
abbrev pub find_class : Table → List ℕ → Option ℕ
find_class t name = position (same_name name) (class_names t)

-- the class that a declaration is under, by what stands before it
abbrev pub parent_in : Table → ClassDecl → Option ℕ
parent_in before d = option_and_then (find_class before) d.parent

-- a declaration names a parent that isn't there
abbrev pub NamesNoParent : Table → ClassDecl → Type 0
NamesNoParent t d = IsSomeAnd d.parent (λ name. find_class t name ≡ None)

-- the number of the parent of a class
abbrev pub parent_of : Table → ℕ → Option ℕ
parent_of t c = option_and_then (parent_in (take c t)) (slice_get t c)

-- a class and those above it, from the nearest on, as far as so many steps lead
unfoldable pub line_within : ℕ → Table → ℕ → List ℕ
line_within zero t c = []
line_within (suc steps) t c = c ∷ option_map_or (line_within steps t) (parent_of t c) []

-- a class and all those above it, from the nearest on: each step leads to a smaller number, so c + 1 of them suffice
unfoldable pub line : Table → ℕ → List ℕ
line t c = line_within (suc c) t c

-- a class is another one, or stands under it at any depth
unfoldable pub is_a : Table → ℕ → ℕ → Bool
is_a t c other = list_any (nat_eq other) (line t c)

abbrev pub methods_of : Table → ℕ → List Function
methods_of t c = option_map_or (λ d. d.methods) (slice_get t c) []

abbrev pub method_names : List Function → List (List ℕ)
method_names methods = map (λ m. m.name) methods

-- the place of the method of a name; of two with one name the first stands
abbrev pub find_method : List Function → List ℕ → Option ℕ
find_method methods name = position (same_name name) (method_names methods)

-- the method of a name that is the first along a line of classes
unfoldable pub first_method : Table → List ℕ → List ℕ → Option MethodAt
first_method t name [] = None
first_method t name (c ∷ above) =
    option_map_or (λ i. Some (record { class = c; index = i })) (find_method (methods_of t c) name) (first_method t name above)

-- the method that a call on an object of a class reaches: its own, else that of the nearest class above it that has one
unfoldable pub method_of : Table → ℕ → List ℕ → Option MethodAt
method_of t c name = first_method t name (line t c)

-- the declaration of a method
abbrev pub function_at : Table → MethodAt → Option Function
function_at t at = slice_get (methods_of t at.class) at.index

abbrev pub own_properties : Table → ℕ → List Property
own_properties t c = option_map_or (λ d. d.properties) (slice_get t c) []

-- the properties of an object of a class in the order in which they are given: those of the topmost class first
unfoldable pub properties_of : Table → ℕ → List Property
properties_of t c = flat_map (own_properties t) (reverse (line t c))
