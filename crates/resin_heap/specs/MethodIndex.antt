-- How the methods of all classes are kept: names with numbers, and trees that keep methods at the numbers of their names.
use Rattle.std.specs.Prelude.{◌≡◌, ℕ, ◌<◌, ◌≤◌, List, [], position, length, Option, Some, None, IfSome}
use Rattle.std.proofs.Common.{refl}
use Rattle.std.specs.Coded.{Coded, code_by, coded×, coded_ℕ, coded_list, coded_option}
use Rattle.std.specs.Option.{option_and_then, option_map_or}
use Rattle.resin_tree.specs.declared.declaration.Function.{Function}
use Rattle.resin_heap.specs.declared.branches.Branch.{Branch}
use Rattle.resin_heap.specs.declared.classes.MethodAt.{MethodAt}
use Rattle.resin_names.specs.Names.{same_name}
use Rattle.resin_heap.specs.Classes.{find_method}
use Rattle.resin_heap.specs.Codes.{bytes_code}
use Rattle.resin_heap.specs.Branches.{found_at}

-- the names, whose places are their numbers, and the branches of the trees
pub record Index : Type 0 where
  pub names : List (List ℕ)
  pub branches : List Branch

abbrev pub method_code : Coded MethodAt
method_code = code_by (ℕ × ℕ) (coded× coded_ℕ coded_ℕ) (λ m. (m.class, m.index)) (λ p. record { class = p.0; index = p.1 }) (λ _. refl)

abbrev pub branch_code : Coded Branch
branch_code =
    code_by (Option MethodAt × (Option ℕ × Option ℕ)) (coded× (coded_option method_code) (coded× (coded_option coded_ℕ) (coded_option coded_ℕ)))
    (λ b. (b.method, (b.odd, b.even))) (λ p. record { method = p.0; odd = p.1.0; even = p.1.1 }) (λ _. refl)

abbrev pub index_code : Coded Index
index_code =
    code_by (List (List ℕ) × List Branch) (coded× (coded_list bytes_code) (coded_list branch_code))
    (λ x. (x.names, x.branches)) (λ p. record { names = p.0; branches = p.1 }) (λ _. refl)

abbrev pub no_methods : Index
no_methods = record { names = []; branches = [] }

-- the method of a name in a tree
abbrev pub reached : Index → Option ℕ → List ℕ → Option MethodAt
reached x tree name = option_and_then (found_at x.branches tree) (position (same_name name) x.names)

-- the own method of a name that a class has, else another
abbrev pub own_or : ℕ → List Function → List ℕ → Option MethodAt → Option MethodAt
own_or c methods name other = option_map_or (λ i. Some (record { class = c; index = i })) (find_method methods name) other

-- a tree is there, and keeps nothing at a number that no name has
pub record IsRoot (x : Index) (tree : Option ℕ) : Type 0 where
  pub there : IfSome tree (λ number. number < length x.branches)
  pub named : (number : ℕ) → length x.names ≤ number → found_at x.branches tree number ≡ None

-- each tree is one still, and keeps what it kept
abbrev pub Keeps : Index → Index → Type 0
Keeps old new = (tree : Option ℕ) → IsRoot old tree → IsRoot new tree × ((name : List ℕ) → reached new tree name ≡ reached old tree name)
