-- Finite sets of object numbers. They are finite maps of the standard library with nothing at each key.
use Rattle.std.specs.Prelude.{ℕ, ◌<◌, Bool, List, [], ◌∷◌, nat_eq}
use Rattle.std.specs.FinMap as fin
use Rattle.std.specs.Ordering.{nat_cmp}
use Rattle.std.specs.Coded.{Coded, coded_ℕ}
use base.Stored.{coded_unit}
use Rattle.std.specs.Cmp.Lexicographic.{pointwise}

-- a finite set of numbers
abbrev pub NumberSet : Type 0
NumberSet = fin.FinMap nat_cmp (Unit {0})

abbrev pub set_code : Coded NumberSet
set_code = fin.code coded_ℕ coded_unit

-- the set with no member
abbrev pub empty : NumberSet
empty = fin.empty

-- whether n is a member
abbrev pub contains : NumberSet → ℕ → Bool
contains s n = fin.contains_key s n

-- s and n
abbrev pub insert : NumberSet → ℕ → NumberSet
insert s n = fin.insert s n tt

-- s without n
abbrev pub remove : NumberSet → ℕ → NumberSet
remove s n = fin.remove s n

-- the members, rising
abbrev pub numbers : NumberSet → List ℕ
numbers s = fin.keys s

-- s and each number of a list
abbrev pub insert_all : NumberSet → List ℕ → NumberSet
insert_all s [] = s
insert_all s (n ∷ ns) = insert (insert_all s ns) n

-- the members of either set
abbrev pub union : NumberSet → NumberSet → NumberSet
union s t = insert_all s (numbers t)

-- the set of the numbers of a list
abbrev pub set_of : List ℕ → NumberSet
set_of ns = insert_all empty ns

-- whether two sets have the same members
abbrev pub same : NumberSet → NumberSet → Bool
same s t = pointwise nat_eq (numbers s) (numbers t)

abbrev pub IsBelow : ℕ → List ℕ → Type 0
IsBelow n [] = Unit {0}
IsBelow n (m ∷ ms) = n < m

-- each number is below the next
abbrev pub IsRising : List ℕ → Type 0
IsRising [] = Unit {0}
IsRising (n ∷ ns) = IsBelow n ns × IsRising ns
