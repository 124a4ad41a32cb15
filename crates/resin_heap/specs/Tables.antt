-- How the classes are kept by their names, each with where it stands.
use Rattle.std.specs.Prelude.{◌≡◌, ℕ, ◌<◌, ◌≤◌, List, [], ◌∷◌, ◌++◌, length, map, slice_get, Option, Some, IfSome, IsSomeAnd}
use Rattle.std.specs.Map.{keys_of, values_of}
use Rattle.std.specs.Option.{option_map_or, option_and_then}
use Rattle.resin_tree.specs.declared.declaration.Property.{Property}
use Rattle.resin_heap.specs.declared.class.Class.{Class}
use Rattle.resin_heap.specs.declared.class.Standing.{Standing}
use Rattle.resin_heap.specs.Classes.{Table, class_names, parent_of, is_a, method_of, properties_of}
use Rattle.resin_heap.specs.MethodIndex.{Index, reached, IsRoot}

-- names with their classes, in the order of the numbers
abbrev pub Entries : Type 0
Entries = List (List ℕ × Class)

abbrev pub declared : Entries → Table
declared es = map (λ e. e.1.declaration) es

-- the entries with one more class
abbrev pub with_class : Entries → Class → Entries
with_class es class = es ++ (class.declaration.name, class) ∷ []

-- a class is above another one or itself, and what is above both, or is the upper one, is so alike
pub record LeadsTo (t : Table) (c above : ℕ) : Type 0 where
  pub up : above ≤ c
  pub alike : (other : ℕ) → other ≤ above → is_a t c other ≡ is_a t above other

-- a class's jump leads to one above it
pub record IsJump (t : Table) (c above : ℕ) : Type 0 where
  pub smaller : above < c
  pub leads : LeadsTo t c above

-- where a class stands
pub record Stands (t : Table) (c : ℕ) (at : Standing) : Type 0 where
  pub parent : at.parent ≡ parent_of t c
  pub jump : IfSome at.jump (λ j. IsJump t c j.to)
  pub giver : properties_of t c ≡ option_map_or (properties_of t) at.giver []
  pub near : IfSome at.giver (λ giver. giver ≤ c)

-- the tree of a class keeps the methods that calls on its objects reach
pub record HasMethods (t : Table) (x : Index) (c : ℕ) (tree : Option ℕ) : Type 0 where
  pub root : IsRoot x tree
  pub finds : (name : List ℕ) → reached x tree name ≡ method_of t c name

-- each class stands where it is kept to stand
abbrev pub AllStand : Entries → Type 0
AllStand es = (c : ℕ) (class : Class) → slice_get (values_of es) c ≡ Some class → Stands (declared es) c class.standing

-- the tree of the methods of a class's parent
abbrev pub tree_above : Entries → Option ℕ → Option ℕ
tree_above es parent = option_and_then (λ p. option_and_then (λ class. class.standing.methods) (slice_get (values_of es) p)) parent

-- where a class stands that goes last under a parent, and has nothing of its own
pub record StandsUnder (es : Entries) (parent : Option ℕ) (at : Standing) : Type 0 where
  pub jump : IfSome at.jump (λ j. IsSomeAnd parent (λ p. LeadsTo (declared es) p j.to))
  pub giver : option_map_or (properties_of (declared es)) parent [] ≡ option_map_or (properties_of (declared es)) at.giver []
  pub near : IfSome at.giver (λ giver. giver < length es)
  pub methods : at.methods ≡ tree_above es parent

-- the nearest class that declares properties, by those of a class and the nearest above it
abbrev pub giver_of : List Property → ℕ → Option ℕ → Option ℕ
giver_of [] c above = above
giver_of (p ∷ ps) c above = Some c

-- what a table of classes keeps
pub record IsTable (es : Entries) (x : Index) : Type 0 where
  pub named : keys_of es ≡ class_names (declared es)
  pub few : length es ≤ 4294967295
  pub stand : AllStand es
  pub methods : (c : ℕ) (class : Class) → slice_get (values_of es) c ≡ Some class → HasMethods (declared es) x c class.standing.methods
